-- Reading the columns of an atom one after the other, as a loop does.
use Rattle.std.proofs.Common.{◌≡◌, ℕ, ◌+◌, ◌<◌, ◌≤◌, true, false, List, [], ◌∷◌, ◌++◌, length, drop, get_or, Result, Ok, Err, refl, sym, ap, ◌∙◌, append_assoc}
use Rattle.std.proofs.Common.{arith, add-one, drop-cons, length-drop}
use Rattle.std.specs.Prelude.{◌==◌}
use Rattle.std.proofs.lemmas.List.{append-nil, drop_all}
use Rattle.std.proofs.lemmas.Bool.Decides.{nat_tests}
use Rattle.cqe_base.specs.declared.sentence.Term.{Term}
use Rattle.cqe_base.specs.Reading.{Refusal}
use Rattle.cqe_base.specs.Schema.{DatabaseSchema}
use Rattle.cqe_base.specs.Tokens.{Token}
use Rattle.cqe_base.specs.Reading.{◌>>=◌, Scope, term_of, after_column, is_empty, columns}
use Rattle.sentence_text.specs.declared.error.ReadError.{ReadError}
use Rattle.sentence_text.specs.declared.error.ReadError.TheVariants as errors
use Rattle.sentence_text.specs.Position.{Refuses}

-- what was read before, and what is still read
abbrev pub with_front : List Term → Result (List Term × List Token) Refusal → Result (List Term × List Token) Refusal
with_front front read = read >>= λ x. Ok (front ++ x.0, x.1)

regroup : (front : List Term) (a : Term) (read : Result (List Term × List Token) Refusal)
    → with_front front (read >>= λ x. Ok (a ∷ x.0, x.1)) ≡ with_front (front ++ a ∷ []) read
regroup front a (Ok x) = ap (λ (terms : List Term). Ok (terms, x.1)) (simp append_assoc)
regroup front a (Err e) = refl

module _ (schema : DatabaseSchema) (end : Refusal) (scope : Scope) where
  is_last : (ds : List ℕ) (i : ℕ) → i < length ds → is_empty (drop (i + 1) ds) ≡ (i + 1 == length ds)
  is_last ds i lt = at (drop (i + 1) ds) refl
    where
      at : (rest : List ℕ) → drop (i + 1) ds ≡ rest → is_empty rest ≡ (i + 1 == length ds)
      at [] e = let last : i + 1 ≡ length ds = omega (arith, ap length e, length-drop (i + 1) ds) in
          let t : (i + 1 == length ds) ≡ true = grind (arith, nat_tests) in sym t
      at (d ∷ rest) e = let more : i + 1 < length ds = omega (arith, ap length e, length-drop (i + 1) ds) in
          let t : (i + 1 == length ds) ≡ false = grind (arith, nat_tests) in sym t

  module _ (front : List Term) (ds : List ℕ) (i : ℕ) (ts : List Token) (total : Result (List Term × List Token) Refusal) (lt : i < length ds) where
    split : drop i ds ≡ get_or ds i 0 ∷ drop (i + 1) ds
    split = rw add-one (drop-cons ds i 0 lt)

    -- memory ran out, or the next column has no such term
    pub ends_at_term : (e : ReadError) → Refuses e (term_of schema end scope (get_or ds i 0) ts)
        → with_front front (columns schema end scope (drop i ds) ts) ≡ total → Refuses e total
    unfolding columns
    ends_at_term errors.Memory refused so_far = tt
    ends_at_term (errors.Text e) refused so_far =
        let one : with_front front (columns schema end scope (drop i ds) ts) ≡ Err e = rw (split, refused) refl in
        sym so_far ∙ one

    -- the next column has a term, and what stands behind it is passed or refused
    module _ (after : List Token) (a : Term) (first : term_of schema end scope (get_or ds i 0) ts ≡ Ok (a, after))
        (so_far : with_front front (columns schema end scope (drop i ds) ts) ≡ total) where
      pub goes_on : (next : List Token) → after_column schema end (i + 1 == length ds) after ≡ Ok next
          → with_front (front ++ a ∷ []) (columns schema end scope (drop (i + 1) ds) next) ≡ total
      unfolding columns
      goes_on next behind =
          let one : with_front front (columns schema end scope (drop i ds) ts)
          ≡ with_front (front ++ a ∷ []) (columns schema end scope (drop (i + 1) ds) next) =
          rw (split, first, is_last ds i lt, behind) (regroup front a (columns schema end scope (drop (i + 1) ds) next)) in
          sym one ∙ so_far

      pub ends_behind_term : (e : ReadError) → Refuses e (after_column schema end (i + 1 == length ds) after) → Refuses e total
      unfolding columns
      ends_behind_term errors.Memory refused = tt
      ends_behind_term (errors.Text e) refused =
          let one : with_front front (columns schema end scope (drop i ds) ts) ≡ Err e = rw (split, first, is_last ds i lt, refused) refl in
          sym so_far ∙ one

  pub is_done : (front : List Term) (ds : List ℕ) (i : ℕ) (ts : List Token) (total : Result (List Term × List Token) Refusal) → length ds ≤ i
      → with_front front (columns schema end scope (drop i ds) ts) ≡ total → total ≡ Ok (front, ts)
  unfolding columns
  is_done front ds i ts total le so_far =
      let none : drop i ds ≡ [] = drop_all i ds le in
      let one : with_front front (columns schema end scope (drop i ds) ts) ≡ Ok (front, ts) =
      rw none (ap (λ (terms : List Term). Ok (terms, ts)) (append-nil front)) in
      sym so_far ∙ one
