-- A script that is refused was read to its end, or to a line that is refused whatever it says.
use Rattle.std.proofs.Common.{◌≡◌, inl, inr, ℕ, ◌+◌, true, ◌||◌, List, [], ◌++◌, ap, sym, subst, ◌∙◌}
use Rattle.std.specs.Prelude.{◌⊎◌, is_some}
use Rattle.cqe_base.specs.Lines.{text_lines}
use Rattle.cqe_base.specs.declared.text.ScriptKind.{ScriptKind}
use Rattle.script_lines.specs.Scripts.{is_cut_short}
use Rattle.script_lines.specs.Read.{RefusesFirst, ReadsLine, IsReadThrough}
use Rattle.script_lines.specs.declared.reading.NextLine.{NextLine}
use Rattle.script_lines.specs.declared.reading.NextLine.TheVariants as next
use Rattle.cqe_base.proofs.TextLines.{nothing_left}

-- a first line that is refused whatever it says is one of the lines
pub cut_first : (number : ℕ) (bytes : List ℕ) (kind : ScriptKind) → RefusesFirst number bytes kind → is_cut_short number (text_lines bytes) ≡ true
cut_first number bytes kind first = ap (is_cut_short number) first.lines ∙ ap (λ r. is_some r || is_cut_short (number + 1) first.rest) first.refused

-- before anything was read the lines to come are all
pub cut_starts : (ahead left : List ℕ) → ahead ≡ [] → is_cut_short 1 (text_lines (ahead ++ left)) ≡ true → is_cut_short 1 (text_lines left) ≡ true
cut_starts ahead left none cut = sym (ap (λ a. is_cut_short 1 (text_lines (a ++ left))) none) ∙ cut

-- where the next line is the end, or is refused whatever it says, everything was read
pub passed : (number start : ℕ) (read : NextLine) (all before ahead left line : List ℕ)
    → (is_cut_short number (text_lines before) ≡ true → is_cut_short start (text_lines all) ≡ true)
    → (read ≡ next.End) ⊎ ((kind : ScriptKind) × (read ≡ next.Refused kind)) → ReadsLine number read before (ahead ++ left) line → IsReadThrough start all left
passed number start read all before ahead left line cut (inl is) reads =
    let at_end : ReadsLine number next.End before (ahead ++ left) line = subst (λ r. ReadsLine number r before (ahead ++ left) line) is reads in
    inl (nothing_left ahead left at_end.1)
passed number start read all before ahead left line cut (inr (kind, is)) reads =
    inr (cut (cut_first number before kind (subst (λ r. ReadsLine number r before (ahead ++ left) line) is reads)))
