-- A script from its first line to its last.
use Rattle.std.proofs.Common.{◌≡◌, ℕ, List, [], ◌++◌, sym, ap, ◌∙◌}
use Rattle.std.specs.Prelude.{Ok}
use Rattle.cqe_base.specs.Lines.{text_lines}
use Rattle.cqe_base.proofs.TextLines.{no_lines, nothing_left}
use Rattle.script_lines.specs.Scripts.{Step, script_after, script_from}

module _ {A : Type 0} (step : Step A) where
  pub script_starts : (said : A) (ahead left : List ℕ) → ahead ≡ [] → script_after step 1 said (text_lines (ahead ++ left)) ≡ script_from step said left
  script_starts said ahead left none = ap (λ a. script_after step 1 said (text_lines (a ++ left))) none

  pub script_ends : (number : ℕ) (start said : A) (before ahead left all : List ℕ)
      → script_after step number said (text_lines before) ≡ script_from step start all → before ≡ [] → ahead ++ left ≡ []
      → (script_from step start all ≡ Ok said) × (left ≡ [])
  script_ends number start said before ahead left all so_far over none =
      (sym so_far ∙ ap (λ b. script_after step number said (text_lines b)) over ∙ ap (script_after step number said) no_lines, nothing_left ahead left none)
