-- A file from its first line to its last.
use Rattle.std.proofs.Common.{◌≡◌, ℕ, List, [], ◌++◌, sym, ap, ◌∙◌}
use Rattle.std.specs.Prelude.{Result}
use Rattle.cqe_base.specs.Lines.{text_lines}
use Rattle.cqe_base.proofs.TextLines.{no_lines}
use Rattle.dimacs_text.specs.Dimacs.{Problem, Cnf, empty_problem, finish, cnf_after, cnf_in}
use Rattle.dimacs_text.specs.Reads.{ReadsFile, IsFinished}
use Rattle.dimacs_text.specs.declared.refusal.DimacsRefusal.{DimacsRefusal}
use Rattle.dimacs_text.specs.declared.reading.Reading.{Reading}
use Rattle.dimacs_text.specs.declared.reading.Reading.TheVariants as reading

pub file_starts : (p : Problem) (ahead left : List ℕ) → p ≡ empty_problem → ahead ≡ [] → cnf_after 1 p (text_lines (ahead ++ left)) ≡ cnf_in left
unfolding cnf_in
file_starts p ahead left is none =
    ap (λ (q : Problem). cnf_after 1 q (text_lines (ahead ++ left))) is ∙ ap (λ (a : List ℕ). cnf_after 1 empty_problem (text_lines (a ++ left))) none

pub file_ends : (number : ℕ) (p : Problem) (before all : List ℕ) → cnf_after number p (text_lines before) ≡ cnf_in all → before ≡ []
    → cnf_in all ≡ finish number p p.header
file_ends number p before all so_far over =
    sym so_far ∙ ap (λ (b : List ℕ). cnf_after number p (text_lines b)) over ∙ ap (cnf_after number p) no_lines

-- what a finished file says is what its bytes are
pub file_read : (finished : Result Cnf DimacsRefusal) (found : Reading) (all left : List ℕ) → cnf_in all ≡ finished → left ≡ [] → IsFinished finished found
    → ReadsFile found all left
file_read finished (reading.Whole cnf) all left is over h = (is ∙ h, over)
file_read finished (reading.Refused refusal) all left is over h = is ∙ h
file_read finished reading.Fault all left is over h = absurd h
file_read finished reading.Memory all left is over h = absurd h
