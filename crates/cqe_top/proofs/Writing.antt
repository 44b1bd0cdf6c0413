-- Parts that are written one after the other.
use Rattle.std.proofs.Common.{◌≡◌, ◌+◌, List, [], ◌++◌, ℕ, length, take, sym, ap, ◌∙◌, append_assoc, append-nil, length-append, arith}
use Rattle.std.specs.Prelude.{Result, Ok, Err, OnErr}
use Rattle.std.proofs.Math.Seq.{take-append-add}
use Rattle.outside.specs.Streams.{AppendsPart}

-- the parts of a place's complaint
pub six_parts : (n u k i c e : List ℕ) → n ++ (u ++ (k ++ (i ++ (c ++ (e ++ []))))) ≡ (n ++ (((u ++ k) ++ i) ++ c)) ++ e
six_parts n u k i c e =
    ap (λ l. n ++ (u ++ (k ++ (i ++ (c ++ l))))) (append-nil e)
    ∙ ap (λ l. n ++ l) (sym (append_assoc u k (i ++ (c ++ e))) ∙ sym (append_assoc (u ++ k) i (c ++ e)) ∙ sym (append_assoc ((u ++ k) ++ i) c e))
    ∙ sym (append_assoc n (((u ++ k) ++ i) ++ c) e)

-- the same of parts that are these texts
pub place_parts : {n u k i c n' u' k' i' c' : List ℕ} (e : List ℕ) → n ≡ n' → u ≡ u' → k ≡ k' → i ≡ i' → c ≡ c'
    → n ++ (u ++ (k ++ (i ++ (c ++ (e ++ []))))) ≡ (n' ++ (((u' ++ k') ++ i') ++ c')) ++ e
place_parts {n} {u} {k} {i} {c} e a b d f h = six_parts n u k i c e ∙ (λ j. (a j ++ (((b j ++ d j) ++ f j) ++ h j)) ++ e)

-- the parts of the complaint about a missing file
pub three_parts : (a b c : List ℕ) → a ++ (b ++ (c ++ [])) ≡ (a ++ b) ++ c
three_parts a b c = ap (λ l. a ++ (b ++ l)) (append-nil c) ∙ sym (append_assoc a b c)

-- the parts of the line of a refused journal, of which two are the cause
pub journal_parts : {n c m n' c' m' cause : List ℕ} (a s e : List ℕ) → n ≡ n' → c ≡ c' → m ≡ m' → c' ++ m' ≡ cause
    → a ++ (n ++ (s ++ (c ++ (m ++ (e ++ []))))) ≡ (((a ++ n') ++ s) ++ cause) ++ e
journal_parts {n} {c} {m} {n'} {c'} {m'} {cause} a s e name first second whole =
    (λ j. a ++ (name j ++ (s ++ (first j ++ (second j ++ append-nil e j)))))
    ∙ ap (λ l. a ++ (n' ++ (s ++ l))) (sym (append_assoc c' m' e) ∙ ap (λ l. l ++ e) whole)
    ∙ sym (append_assoc a n' (s ++ (cause ++ e))) ∙ sym (append_assoc (a ++ n') s (cause ++ e)) ∙ sym (append_assoc ((a ++ n') ++ s) cause e)

-- the sink failed in what stands behind a front that was appended
pub appends_behind : (front part old before after : List ℕ) → before ≡ old ++ front → AppendsPart before after part → AppendsPart old after (front ++ part)
appends_behind front part old before after is (n, less, new) = (
  length front + n,
  omega (arith, less, length-append front part),
  new ∙ ap (λ b. b ++ take n part) is ∙ append_assoc old front (take n part) ∙ ap (λ l. old ++ l) (sym (take-append-add front part n)),
)

-- the same under a refusal
pub behind_refusal : {T E : Type 0} (result : Result T E) (front part old before after : List ℕ) → before ≡ old ++ front
    → OnErr result (AppendsPart before after part) → OnErr result (AppendsPart old after (front ++ part))
behind_refusal (Ok value) front part old before after is appended = appended
behind_refusal (Err why) front part old before after is appended = appends_behind front part old before after is appended
