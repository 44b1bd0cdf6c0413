-- What reading a file does.
use Rattle.std.specs.Prelude.{◌≡◌, ℕ, Bool, true, false, List, [], ◌∷◌, nat_lt, Result, Ok, Err}
use Rattle.cqe_base.specs.Lines.{TextLine, text_lines}
use Rattle.line_protocol.specs.Reads.{TakesLine}
use Rattle.dimacs_text.specs.Dimacs.{Problem, Cnf, with_line, cnf_in}
use Rattle.dimacs_text.specs.declared.refusal.DimacsRefusal.{DimacsRefusal}
use Rattle.dimacs_text.specs.declared.refusal.RefusalKind.{RefusalKind}
use Rattle.dimacs_text.specs.declared.reading.Reading.{Reading}
use Rattle.dimacs_text.specs.declared.reading.Reading.TheVariants as reading
use Rattle.dimacs_text.specs.declared.reading.NextLine.{NextLine}
use Rattle.dimacs_text.specs.declared.reading.NextLine.TheVariants as next

-- the first line of the bytes is refused whatever stands above it
pub record RefusesFirst (number : ℕ) (before : List ℕ) (kind : RefusalKind) : Type 0 where
  pub first : TextLine
  pub rest : List TextLine
  pub lines : text_lines before ≡ first ∷ rest
  pub refused : (p : Problem) → with_line number p first ≡ Err kind

-- what reading the next line says of the bytes to come, before and after, and of the line in the
-- buffer
abbrev pub ReadsLine : ℕ → NextLine → List ℕ → List ℕ → List ℕ → Type 0
ReadsLine number next.Line before after line =
    TakesLine before after line × (nat_lt 1000000 number ≡ false)
ReadsLine number next.End before after line = (before ≡ []) × (after ≡ [])
ReadsLine number (next.Refused kind) before after line = RefusesFirst number before kind
ReadsLine number next.Fault before after line = Unit {0}

-- what reading a file says of the bytes that were left, before and after
abbrev pub ReadsFile : Reading → List ℕ → List ℕ → Type 0
ReadsFile (reading.Whole cnf) before after = (cnf_in before ≡ Ok cnf) × (after ≡ [])
ReadsFile (reading.Refused refusal) before after = cnf_in before ≡ Err refusal
ReadsFile reading.Fault before after = Unit {0}
ReadsFile reading.Memory before after = Unit {0}

-- what a finished file is to its readers
abbrev pub IsFinished : Result Cnf DimacsRefusal → Reading → Type 0
IsFinished finished (reading.Whole cnf) = finished ≡ Ok cnf
IsFinished finished (reading.Refused refusal) = finished ≡ Err refusal
IsFinished finished reading.Fault = ⊥
IsFinished finished reading.Memory = ⊥

-- whether reading a file ended with a fault of the source
abbrev pub is_read_fault : Reading → Bool
is_read_fault reading.Fault = true
is_read_fault _ = false

-- and whether reading a line did
abbrev pub is_next_fault : NextLine → Bool
is_next_fault next.Fault = true
is_next_fault _ = false
