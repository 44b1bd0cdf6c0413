-- One walk back along the trail, entry by entry.
use Rattle.std.proofs.Common.{◌≡◌, ℕ, ◌<◌, ◌≤◌, Bool, true, false, cond, ◌&&◌, List, [], ◌∷◌, Some, refl, ap, ◌∙◌}
use Rattle.std.specs.Prelude.{nat_lt}
use Rattle.std.proofs.lemmas.Bool.{and_from, lt-ltb, le-ltb}
use Rattle.cqe_base.specs.Literal.{Literal, opposite, has_literal}
use Rattle.cqe_base.specs.Machine.{Assigned, Decided, Because, assigned_literal, current_count, resolved_line, resolved_with}
use Rattle.cqe_base.specs.Refutation.{RefutationLine}
use Rattle.cqe_base.proofs.Analysis.{walk_back}

module _ (cs : List (List Literal)) (t : List Assigned) (keep : ℕ) where
  -- an entry whose opposite the clause has, where too many literals of the current level are left
  pub walk_here : (a : Assigned) (rest : List Assigned) (line : RefutationLine) → keep < current_count t line.clause
      → has_literal line.clause (opposite (assigned_literal a)) ≡ true
      → walk_back cs t keep (a ∷ rest) line ≡ walk_back cs t keep rest (resolved_with cs (Some a) line)
  walk_here (Decided l) rest line more has = refl
  walk_here (Because i l) rest line more has =
      ap (λ b. walk_back cs t keep rest (cond b (resolved_line cs i l line) line)) (and_from _ _ (lt-ltb keep (current_count t line.clause) more) has)

  -- an entry whose opposite the clause hasn't
  pub walk_past : (a : Assigned) (rest : List Assigned) (line : RefutationLine) → has_literal line.clause (opposite (assigned_literal a)) ≡ false
      → walk_back cs t keep (a ∷ rest) line ≡ walk_back cs t keep rest line
  walk_past (Decided l) rest line none = refl
  walk_past (Because i l) rest line none =
      ap (λ b. walk_back cs t keep rest (cond b (resolved_line cs i l line) line)) (step (nat_lt keep (current_count t line.clause)) none)
    where
      step : (b : Bool) → has_literal line.clause (opposite l) ≡ false → (b && has_literal line.clause (opposite l)) ≡ false
      step true e = e
      step false e = refl

  -- few enough literals of the current level are left
  pub walk_stops : (rest : List Assigned) (line : RefutationLine) → current_count t line.clause ≤ keep → walk_back cs t keep rest line ≡ line
  walk_stops [] line few = refl
  walk_stops (Decided l ∷ rest) line few = walk_stops rest line few
  walk_stops (Because i l ∷ rest) line few =
      ap (λ b. walk_back cs t keep rest (cond (b && has_literal line.clause (opposite l)) (resolved_line cs i l line) line))
      (le-ltb keep (current_count t line.clause) few)
      ∙ walk_stops rest line few
