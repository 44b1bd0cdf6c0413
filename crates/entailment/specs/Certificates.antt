-- What shows what a probe found: a refutation of its clauses, or a world.
use Rattle.std.specs.Prelude.{◌≡◌, true, ℕ, Bool, List, ◌++◌, Option, Some}
use Rattle.std.specs.List.{list_all}
use Rattle.cqe_base.specs.Schema.{DatabaseSchema}
use Rattle.cqe_base.specs.Entailment.{Signed}
use Rattle.cqe_base.specs.Literal.{Literal}
use Rattle.cqe_base.specs.SignedGround.{SignedGround}
use Rattle.cqe_base.specs.ClauseForm.{clause_form}
use Rattle.cqe_base.specs.Refutation.{RefutationLine, is_refutation}
use Rattle.cqe_base.specs.Machine.{End, Refuted}
use Rattle.cqe_base.specs.Outcome.{grounded_probe}
use Rattle.clause_store.specs.PlainLines.{lines_of}
use Rattle.clause_form.specs.Forms.{Form, form_of}
use Rattle.entailment.specs.Forms.{form_of_log, with_negated}
use Rattle.entailment.specs.Small.{is_small_line}
use Rattle.entailment.specs.Verdicts.{searched_end}
use Rattle.entailment.specs.declared.probes.Verdict.{Verdict}
use Rattle.entailment.specs.declared.probes.Verdict.TheVariants.{Follows, Open, Spent}
use Rattle.entailment.specs.declared.probes.Certified.{Certified}
use Rattle.entailment.specs.declared.probes.Certified.TheVariants as certified

-- the verdict alone
abbrev pub as_verdict : Certified → Verdict
as_verdict (certified.Follows refutation) = Follows
as_verdict (certified.Open world) = Open world
as_verdict certified.Spent = Spent

-- the clauses of a probe: the clause form of its premises and its negated goal
abbrev pub clauses_of_probe : DatabaseSchema → List Signed → Signed → List (List Literal)
clauses_of_probe schema premises goal = clause_form (grounded_probe schema premises goal)

-- a refutation that was found is right for these clauses
abbrev pub IsRightFor : List (List Literal) → Certified → Type 0
IsRightFor clauses (certified.Follows refutation) =
    is_refutation clauses (lines_of refutation) ≡ true
IsRightFor clauses (certified.Open world) = Unit {0}
IsRightFor clauses certified.Spent = Unit {0}

-- it is right for those of the probe of the log whose form it is
abbrev pub IsRightOf : DatabaseSchema → (premise : List Signed) (goal : Signed) → Form → Certified
    → Type 0
IsRightOf schema premise goal form found =
    (log : List Signed) → form ≡ form_of_log schema log
    → IsRightFor (form_of_log schema (with_negated (log ++ premise) goal)).clauses found

-- an answer says whether lines are right for the clauses of a form with more formulas
abbrev pub IsConfirmedOf : (more : List SignedGround) → Form → List RefutationLine → Bool → Type 0
IsConfirmedOf more form lines answer =
    (formulas : List SignedGround) → form ≡ form_of formulas
    → answer ≡ is_refutation (form_of (formulas ++ more)).clauses lines

-- a refutation that was found is the one with which the machine ends
abbrev pub IsMachines : Option End → Certified → Type 0
IsMachines end (certified.Follows refutation) = end ≡ Some (Refuted (lines_of refutation))
IsMachines end (certified.Open world) = Unit {0}
IsMachines end certified.Spent = Unit {0}

-- it is that of the probe of the log whose form it is
abbrev pub IsMachinesOf : DatabaseSchema → (premise : List Signed) (goal : Signed) (budget : ℕ)
    → Form → Certified → Type 0
IsMachinesOf schema premise goal budget form found =
    (log : List Signed) → form ≡ form_of_log schema log → IsMachines
    (searched_end (form_of_log schema (with_negated (log ++ premise) goal)) budget) found

-- the numbers of a refutation that was found are small
abbrev pub HasSmallNumbers : Certified → Type 0
HasSmallNumbers (certified.Follows refutation) =
    list_all is_small_line (lines_of refutation) ≡ true
HasSmallNumbers (certified.Open world) = Unit {0}
HasSmallNumbers certified.Spent = Unit {0}
