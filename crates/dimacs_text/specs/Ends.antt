-- How the program ends, and what it has written then.
use Rattle.std.specs.Prelude.{◌≡◌, ℕ, List, [], ◌++◌, Option, Some, None, Ok, Err, codes, decimal}
use Rattle.cqe_base.specs.Machine.{End as MachineEnd, Model, Refuted as MachineRefuted}
use Rattle.cqe_base.specs.Machine.{end_within_budget}
use Rattle.outside.specs.Streams.{AppendsPart}
use Rattle.dimacs_text.specs.Dimacs.{Cnf, cnf_in}
use Rattle.clause_solver.specs.Costs.{cost_within_budget}
use Rattle.dimacs_text.specs.Printed.{cost_text, end_text}
use Rattle.dimacs_text.specs.declared.refusal.RefusalKind.{RefusalKind}
use Rattle.dimacs_text.specs.declared.refusal.RefusalKind.TheVariants.{NotALine, TooLong, TooMany}
use Rattle.dimacs_text.specs.declared.refusal.RefusalKind.TheVariants.{Order}
use Rattle.dimacs_text.specs.declared.refusal.RefusalKind.TheVariants.{Limit, Variable, Surplus}
use Rattle.dimacs_text.specs.declared.refusal.RefusalKind.TheVariants.{Missing}
use Rattle.dimacs_text.specs.declared.refusal.DimacsRefusal.{DimacsRefusal}
use Rattle.dimacs_text.specs.declared.ending.Verdict.{Verdict}
use Rattle.dimacs_text.specs.declared.ending.Verdict.TheVariants.{Satisfiable, Unsatisfiable}
use Rattle.dimacs_text.specs.declared.ending.Verdict.TheVariants.{Unknown}
use Rattle.dimacs_text.specs.declared.ending.Ending.{Ending}
use Rattle.dimacs_text.specs.declared.ending.Ending.TheVariants.{Answered, Refused, ReadFault}
use Rattle.dimacs_text.specs.declared.ending.Ending.TheVariants.{WriteFault, Memory}

-- the machine's end on the clauses within their budget
abbrev pub end_of : Cnf → Option MachineEnd
end_of cnf = end_within_budget cnf.clauses cnf.variables cnf.budget

-- the machine's whole cost on the clauses, or their budget where that is less
abbrev pub cost_of : Cnf → ℕ
cost_of cnf = cost_within_budget cnf.clauses cnf.variables cnf.budget

-- what is printed of clauses: the cost of their search, and the machine's end on them
abbrev pub answer_text : Cnf → List ℕ
answer_text cnf = cost_text (cost_of cnf) ++ end_text cnf (end_of cnf)

-- what the end of the machine, or a spent budget, says of the clauses
abbrev pub verdict_of : Option MachineEnd → Verdict
verdict_of None = Unknown
verdict_of (Some (Model signs)) = Satisfiable
verdict_of (Some (MachineRefuted lines)) = Unsatisfiable

-- the bytes are clauses, the verdict is that of the machine's end on them, and their answer was
-- appended
pub record AnswersDimacs (bytes : List ℕ) (verdict : Verdict) (old new : List ℕ) : Type 0 where
  pub cnf : Cnf
  pub read : cnf_in bytes ≡ Ok cnf
  pub verdict_is : verdict ≡ verdict_of (end_of cnf)
  pub appended : new ≡ old ++ answer_text cnf

-- the bytes are clauses, and a part of their answer was appended
pub record BreaksDimacs (bytes old new : List ℕ) : Type 0 where
  pub cnf : Cnf
  pub read : cnf_in bytes ≡ Ok cnf
  pub appended : AppendsPart old new (answer_text cnf)

-- what an ending says of the bytes that were left before and after, and of the output before and
-- after
abbrev pub EndsDimacs : Ending → List ℕ → List ℕ → List ℕ → List ℕ → Type 0
EndsDimacs (Answered verdict) before after old new =
    (after ≡ []) × AnswersDimacs before verdict old new
EndsDimacs (Refused refusal) before after old new = (cnf_in before ≡ Err refusal) × (new ≡ old)
EndsDimacs ReadFault before after old new = new ≡ old
EndsDimacs WriteFault before after old new = BreaksDimacs before old new
EndsDimacs Memory before after old new = new ≡ old

-- the status with which the program ends
abbrev pub status_of : Ending → ℕ
status_of (Answered Satisfiable) = 10
status_of (Answered Unsatisfiable) = 20
status_of (Answered Unknown) = 0
status_of (Refused refusal) = 5
status_of ReadFault = 6
status_of WriteFault = 7
status_of Memory = 13

-- the number of a refusal
abbrev pub refusal_number : RefusalKind → ℕ
refusal_number NotALine = 1
refusal_number TooLong = 2
refusal_number TooMany = 3
refusal_number Order = 4
refusal_number Limit = 5
refusal_number Variable = 6
refusal_number Surplus = 7
refusal_number Missing = 8

-- the kind and the line of a refusal
abbrev pub refusal_text : DimacsRefusal → List ℕ
refusal_text refusal =
    codes "dimacs: refused " ++ decimal (refusal_number refusal.kind) ++ codes " "
    ++ decimal refusal.line ++ codes "\n"

-- what is said of an ending without an answer
abbrev pub complaint_of : Ending → List ℕ
complaint_of (Answered verdict) = []
complaint_of (Refused refusal) = refusal_text refusal
complaint_of ReadFault = codes "dimacs: read fault\n"
complaint_of WriteFault = codes "dimacs: write fault\n"
complaint_of Memory = codes "dimacs: out of memory\n"
