-- Lists that are read item by item.
use Rattle.std.proofs.Common.{◌≡◌, ◌<◌, List, [], ◌∷◌, ◌++◌, length, sym, ap, ◌∙◌, append_assoc, append-nil, length-append, arith}

module _ {X : Type 0} where
  -- what was read, and what is left
  pub read_on : (all read left rest : List X) (x : X) → read ++ left ≡ all → left ≡ x ∷ rest → (read ++ x ∷ []) ++ rest ≡ all
  read_on all read left rest x so_far is = append_assoc read (x ∷ []) rest ∙ ap (λ (l : List X). read ++ l) (sym is) ∙ so_far

  pub read_more : (all read left rest : List X) (x : X) → read ++ left ≡ all → left ≡ x ∷ rest → length read < length all
  read_more all read left rest x so_far is = omega (arith, ap length so_far, length-append read left, ap length is)

  pub read_all : (all read left : List X) → read ++ left ≡ all → length left ≡ 0 → read ≡ all
  read_all all read [] so_far none = sym (append-nil read) ∙ so_far
  read_all all read (x ∷ left) so_far none = absurd (omega arith)
