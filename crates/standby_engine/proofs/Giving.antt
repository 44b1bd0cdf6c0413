-- Disks that go back to their shelf.
use Rattle.std.proofs.Common.{◌≡◌, ℕ, ◌≤◌, List, [], ◌∷◌, Option, Some, sym, ap, ◌∙◌, arith}
use Rattle.std.specs.List.{AllByRecursion}
use Rattle.outside.specs.declared.disk.Disk.{Ghosts as DiskGhosts}
use Rattle.cqe_base.specs.Schema.{Text}
use Rattle.standby_engine.specs.Opened.{given_journal, IsGiven}
use Rattle.standby_engine.specs.declared.opening.Given.{Given as Back}

-- a count is no less than itself
pub no_less : {X : Type 0} (least : X → ℕ) (xs : List X) → AllByRecursion (λ x. least x ≤ least x) xs
no_less least [] = tt
no_less least (x ∷ xs) = (omega arith, no_less least xs)

module _ {D : Type 0} (told : Type 0) (Disk : DiskGhosts D) where
  -- a disk that is back stays so where its name has the same as before
  pub given_moves : (disk disk' : Text → Option D) (count count' : Text → ℕ) (given : Back D) → disk' (given_journal given) ≡ disk (given_journal given)
      → count' (given_journal given) ≡ count (given_journal given) → IsGiven told Disk disk count given → IsGiven told Disk disk' count' given
  given_moves disk disk' count count' given disks counts back = record { held = λ t. disks ∙ back.held t; counted = counts ∙ back.counted }

  -- it is back under the name that it was given with
  pub given_under : (disk : Text → Option D) (count : Text → ℕ) (given : Back D) (one : Text) → one ≡ given_journal given
      → (told → disk one ≡ Some given.disk) → count one ≡ Disk.faults given.disk → IsGiven told Disk disk count given
  given_under disk count given one named held counted =
      record { held = λ t. ap disk (sym named) ∙ held t; counted = ap count (sym named) ∙ counted }
