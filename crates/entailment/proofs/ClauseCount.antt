-- A clause form has few clauses.
use Rattle.std.proofs.Common.{◌≡◌, ℕ, ◌+◌, ◌*◌, ◌≤◌, List, [], ◌∷◌, ◌++◌, length, map, ◌∙◌, ap, arith, length-append}
use Rattle.std.proofs.lemmas.List.{length-map}
use Rattle.std.proofs.lemmas.List.Sums.{sum_by-cons}
use Rattle.cqe_base.specs.Ground.{Ground, Grounds, ground_true, ground_false, ground_atom, ground_not, ground_all, ground_some, ground_implies, ground_iff}
use Rattle.cqe_base.specs.Ground.{no_grounds, more_grounds, ground_nodes, part_nodes}
use Rattle.cqe_base.specs.SignedGround.{SignedGround}
use Rattle.cqe_base.specs.GroundParts.{nodes_of_list}
use Rattle.cqe_base.specs.Literal.{Literal, Positive, Negative, opposite, distinct_literals}
use Rattle.cqe_base.specs.ClauseForm.{Numbering, numbering_after, numbering_after_parts, literal_of, literals_of, and_clauses, or_clauses, iff_clauses}
use Rattle.cqe_base.specs.ClauseForm.{clauses_of, clauses_of_parts, signed_literal, clauses_of_list, first_numbering, clause_form}

-- a conjunction and a disjunction give a clause for each part and one more
and_count : (v : ℕ) (literals : List Literal) → length (and_clauses v literals) ≡ length literals + 1
and_count v literals =
    length-append (map (λ l. distinct_literals (Negative v ∷ l ∷ [])) literals) (distinct_literals (Positive v ∷ map opposite literals) ∷ [])
    ∙ ap (λ k. k + 1) (length-map literals (λ l. distinct_literals (Negative v ∷ l ∷ [])))

or_count : (v : ℕ) (literals : List Literal) → length (or_clauses v literals) ≡ length literals + 1
or_count v literals =
    length-append (map (λ l. distinct_literals (Positive v ∷ opposite l ∷ [])) literals) (distinct_literals (Negative v ∷ literals) ∷ [])
    ∙ ap (λ k. k + 1) (length-map literals (λ l. distinct_literals (Positive v ∷ opposite l ∷ [])))

-- the length of three lists, one after the other
length-three : {X : Type 0} (xs ys zs : List X) → length (xs ++ ys ++ zs) ≡ length xs + length ys + length zs
length-three xs ys zs = length-append (xs ++ ys) zs ∙ ap (λ k. k + length zs) (length-append xs ys)

mutual
  -- a formula gives fewer than five clauses for each node
  pub clauses-few : (a : Ground) (n : Numbering) → length (clauses_of a n) + 1 ≤ 5 * ground_nodes a
  clauses-few ground_true n = omega arith
  clauses-few ground_false n = omega arith
  clauses-few (ground_atom fact) n = omega arith
  clauses-few (ground_not a) n = let h = clauses-few a n in omega arith
  clauses-few (ground_all parts) n =
      let h = clauses-few_parts parts n in
      let v : ℕ = (numbering_after_parts parts n).variables in
      let k : length (clauses_of (ground_all parts) n) ≡ length (clauses_of_parts parts n) + length (and_clauses v (literals_of parts n)) =
      length-append (clauses_of_parts parts n) (and_clauses v (literals_of parts n)) in
      let m = and_count v (literals_of parts n) in
      omega arith
  clauses-few (ground_some parts) n =
      let h = clauses-few_parts parts n in
      let v : ℕ = (numbering_after_parts parts n).variables in
      let k : length (clauses_of (ground_some parts) n) ≡ length (clauses_of_parts parts n) + length (or_clauses v (literals_of parts n)) =
      length-append (clauses_of_parts parts n) (or_clauses v (literals_of parts n)) in
      let m = or_count v (literals_of parts n) in
      omega arith
  clauses-few (ground_implies a b) n =
      let h = clauses-few a n in
      let k = clauses-few b (numbering_after a n) in
      let v : ℕ = (numbering_after b (numbering_after a n)).variables in
      let own : List (List Literal) = or_clauses v (opposite (literal_of a n) ∷ literal_of b (numbering_after a n) ∷ []) in
      let m : length (clauses_of (ground_implies a b) n) ≡ length (clauses_of a n) + length (clauses_of b (numbering_after a n)) + 3 =
      length-three (clauses_of a n) (clauses_of b (numbering_after a n)) own in
      omega arith
  clauses-few (ground_iff a b) n =
      let h = clauses-few a n in
      let k = clauses-few b (numbering_after a n) in
      let v : ℕ = (numbering_after b (numbering_after a n)).variables in
      let own : List (List Literal) = iff_clauses v (literal_of a n) (literal_of b (numbering_after a n)) in
      let m : length (clauses_of (ground_iff a b) n) ≡ length (clauses_of a n) + length (clauses_of b (numbering_after a n)) + 4 =
      length-three (clauses_of a n) (clauses_of b (numbering_after a n)) own in
      omega arith

  -- so do formulas, with their literals counted too
  pub clauses-few_parts : (parts : Grounds) (n : Numbering) → length (clauses_of_parts parts n) + length (literals_of parts n) ≤ 5 * part_nodes parts
  clauses-few_parts no_grounds n = omega arith
  clauses-few_parts (more_grounds a rest) n =
      let h = clauses-few a n in
      let k = clauses-few_parts rest (numbering_after a n) in
      let m : length (clauses_of_parts (more_grounds a rest) n) ≡ length (clauses_of a n) + length (clauses_of_parts rest (numbering_after a n)) =
      length-append (clauses_of a n) (clauses_of_parts rest (numbering_after a n)) in
      let l : length (literals_of (more_grounds a rest) n) ≡ length (literals_of rest (numbering_after a n)) + 1 = omega arith in
      omega arith

list-few : (formulas : List SignedGround) (n : Numbering) → length (clauses_of_list formulas n) ≤ 5 * nodes_of_list formulas
list-few [] n = omega arith
list-few (s ∷ rest) n =
    let h = clauses-few s.0 n in
    let k = list-few rest (numbering_after s.0 n) in
    let m : length (clauses_of_list (s ∷ rest) n)
    ≡ length (clauses_of s.0 n) + length ((signed_literal s n ∷ []) ∷ clauses_of_list rest (numbering_after s.0 n)) =
    length-append (clauses_of s.0 n) ((signed_literal s n ∷ []) ∷ clauses_of_list rest (numbering_after s.0 n)) in
    let l : length ((signed_literal s n ∷ []) ∷ clauses_of_list rest (numbering_after s.0 n)) ≡ length (clauses_of_list rest (numbering_after s.0 n)) + 1 =
    omega arith in
    let e : nodes_of_list (s ∷ rest) ≡ ground_nodes s.0 + nodes_of_list rest = sum_by-cons (λ signed. ground_nodes signed.0) s rest in
    omega arith

-- beside that of the constant, a list gives at most five clauses for each node
pub clauses_are_few : (formulas : List SignedGround) → length (clause_form formulas) ≤ 1 + 5 * nodes_of_list formulas
clauses_are_few formulas =
    let h = list-few formulas first_numbering in
    let e : length (clause_form formulas) ≡ length (clauses_of_list formulas first_numbering) + 1 = omega arith in
    omega arith
