-- What reading a script does.
use Rattle.std.specs.Prelude.{◌≡◌, ◌⊎◌, ℕ, Bool, true, false, List, [], ◌∷◌, nat_lt, Some, Ok, Err}
use Rattle.cqe_base.specs.declared.text.ScriptError.{ScriptError}
use Rattle.cqe_base.specs.declared.text.ScriptKind.{ScriptKind}
use Rattle.cqe_base.specs.Lines.{TextLine, text_lines}
use Rattle.line_protocol.specs.Reads.{TakesLine}
use Rattle.script_lines.specs.Scripts.{Step, line_refusal, is_cut_short, script_from}
use Rattle.script_lines.specs.declared.reading.Reading.{Reading}
use Rattle.script_lines.specs.declared.reading.Reading.TheVariants as reading
use Rattle.script_lines.specs.declared.reading.NextLine.{NextLine}
use Rattle.script_lines.specs.declared.reading.NextLine.TheVariants as next

-- the first line of the bytes is refused whatever it says
pub record RefusesFirst (number : ℕ) (before : List ℕ) (kind : ScriptKind) : Type 0 where
  pub first : TextLine
  pub rest : List TextLine
  pub lines : text_lines before ≡ first ∷ rest
  pub refused : line_refusal number first ≡ Some kind

-- what reading the next line says of the bytes to come, before and after, and of the line in the
-- buffer
abbrev pub ReadsLine : ℕ → NextLine → List ℕ → List ℕ → List ℕ → Type 0
ReadsLine number next.Line before after line =
    TakesLine before after line × (nat_lt 100000 number ≡ false)
ReadsLine number next.End before after line = (before ≡ []) × (after ≡ [])
ReadsLine number (next.Refused kind) before after line = RefusesFirst number before kind
ReadsLine number next.Fault before after line = Unit {0}

-- the bytes, whose first line has this number, were read to the end, which leaves none, or to a
-- line that is refused whatever it says
abbrev pub IsReadThrough : ℕ → List ℕ → List ℕ → Type 0
IsReadThrough number before after = (after ≡ []) ⊎ (is_cut_short number (text_lines before) ≡ true)

-- what reading a script says of the bytes that were left, before and after
abbrev pub ReadsScript : {T A : Type 0} → Step A → (T → A) → A → Reading T → List ℕ → List ℕ
    → Type 0
ReadsScript step said start (reading.Whole script) before after =
    (script_from step start before ≡ Ok (said script)) × (after ≡ [])
ReadsScript step said start (reading.Refused error) before after =
    (script_from step start before ≡ Err error) × IsReadThrough 1 before after
ReadsScript step said start reading.Fault before after = Unit {0}
ReadsScript step said start reading.Memory before after = Unit {0}

-- behind a line that is refused the next one has this number, and nothing else is answered than
-- that refusal, or a fault
abbrev pub ReadsRest : {T : Type 0} → ℕ → ScriptError → Reading T → List ℕ → List ℕ → Type 0
ReadsRest number error (reading.Whole script) before after = ⊥
ReadsRest number error (reading.Refused found) before after =
    (found ≡ error) × IsReadThrough number before after
ReadsRest number error reading.Fault before after = Unit {0}
ReadsRest number error reading.Memory before after = ⊥

-- whether reading a script ended at a fault of the source
abbrev pub is_read_fault : {T : Type 0} → Reading T → Bool
is_read_fault reading.Fault = true
is_read_fault _ = false

-- whether reading a line ended at a fault of the source
abbrev pub is_next_fault : NextLine → Bool
is_next_fault next.Fault = true
is_next_fault _ = false
