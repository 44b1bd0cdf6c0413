-- What a sink has after some calls.
use Rattle.std.proofs.Common.{OnErr, ◌≡◌, ◌<◌, ◌+◌, ◌++◌, ℕ, suc, List, ◌∷◌, length, take, drop, get_or, sym, ◌∙◌, ap, subst, refl, arith, append_assoc}
use Rattle.std.proofs.Common.{length-append}
use Rattle.std.specs.Prelude.{Result, Ok, Err}
use Rattle.std.specs.List.{flat_map}
use Rattle.std.proofs.Math.Seq.{split_at, take-append-add}
use Rattle.std.proofs.lemmas.List.{take_at, take-append-le}
use Rattle.std.proofs.lemmas.List.Concat.{flat_map-append}
use Rattle.outside.specs.Streams.{AppendsPart}

-- where bytes are left, only a part was appended
pub part_of : (old now bytes done rest : List ℕ) → bytes ≡ done ++ rest → 0 < length rest → now ≡ old ++ done → AppendsPart old now bytes
part_of old now bytes done rest whole more is =
    let size : length bytes ≡ length done + length rest = ap (λ (l : List ℕ). length l) whole ∙ length-append done rest in
    let front : take (length done) bytes ≡ done = ap (λ (l : List ℕ). take (length done) l) whole ∙ take_at done rest (length done) refl in
    (length done, omega (arith, size, more), is ∙ ap (λ (l : List ℕ). old ++ l) (sym front))

-- what holds in any case holds of a refusal
pub at_refusal : {T E P : Type 0} (r : Result T E) → P → OnErr r P
at_refusal (Ok x) p = tt
at_refusal (Err e) p = p

-- a part that was appended behind a front of the whole
appends_inside : (front part back old before after : List ℕ) → before ≡ old ++ front → AppendsPart before after part
    → AppendsPart old after (front ++ (part ++ back))
appends_inside front part back old before after is (n, less, new) = (
  length front + n,
  omega (arith, less, length-append front (part ++ back), length-append part back),
  new ∙ ap (λ b. b ++ take n part) is ∙ append_assoc old front (take n part)
      ∙ ap (λ l. old ++ l) (ap (λ l. front ++ l) (sym (take-append-le n part back (omega (arith, less)))) ∙ sym (take-append-add front (part ++ back) n)),
)

-- the sink failed in the middle of one of the parts
pub part_appended : {X : Type 0} (f : X → List ℕ) (parts : List X) (i : ℕ) (part : X) (old before after : List ℕ) → i < length parts
    → part ≡ get_or parts i part → before ≡ old ++ flat_map f (take i parts)
    → AppendsPart before after (f part) → AppendsPart old after (flat_map f parts)
part_appended {X = X} f parts i part old before after low is so_far appended =
    let split = ap (flat_map f) (split_at parts i part low) ∙ flat_map-append f (take i parts) (get_or parts i part ∷ drop (suc i) parts) in
    subst (AppendsPart old after) (sym split)
    (appends_inside (flat_map f (take i parts)) (f (get_or parts i part)) (flat_map f (drop (suc i) parts)) old before after so_far
    (subst (λ (x : X). AppendsPart before after (f x)) is appended))
