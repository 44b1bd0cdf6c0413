-- Items that are read.
use Rattle.std.specs.Prelude.{◌≡◌, ⊤, ℕ, Bool, true, false, List, [], ◌∷◌, ◌++◌, length}
use Rattle.std.specs.Prelude.{Option, Some, None, Result, Ok, Err, if◌then◌else◌}
use Rattle.cqe_base.specs.declared.user.Method.{Method}
use Rattle.cqe_base.specs.declared.user.Method.TheVariants.{Lying, Refusal, Combined}
use Rattle.cqe_base.specs.declared.user.Mark.{Mark}
use Rattle.cqe_base.specs.Schema.{DatabaseSchema, Text}
use Rattle.cqe_base.specs.Facts.{FactSet}
use Rattle.cqe_base.specs.Formula.{Formula}
use Rattle.cqe_base.specs.Entailment.{Signed}
use Rattle.cqe_base.specs.History.{UserProfile, History, log, user_at}
use Rattle.cqe_base.specs.Censor.{guarded, probes, mark_by}
use Rattle.censors.specs.declared.examination.Findings.{Findings}
use Rattle.soundness.specs.Verdicts.{mark_found}
use Rattle.dossier.specs.Fields.{FieldSaid}
use Rattle.dossier.specs.Checked.{Task, item, nothing, item_line, asked, behind_item}
use Rattle.dossier.specs.Checked.{awaited_for, behind_task}
use Rattle.dossier.specs.Reading.{Unread, answer, IsRefusedSo, ReadsOn}
use Rattle.dossier.specs.Blocks.{Probed}
use Rattle.dossier.specs.declared.error.DossierError.{DossierError}
use Rattle.dossier.specs.declared.error.DossierError.TheVariants.{Memory}

-- the probe of a log against a goal
abbrev pub goal_probe : List Signed → Signed → Probed
goal_probe log goal = record { premises = log; goal = goal }

-- whether this is the method that probes the log against a query alone
abbrev pub is_refusal : Method → Bool
is_refusal Lying = false
is_refusal Refusal = true
is_refusal Combined = false

-- the probes of a log against a query and against its negation, for refusal alone
abbrev pub implied_probes : Method → List Signed → Formula → List Probed
implied_probes Lying log query = []
implied_probes Refusal log query =
    goal_probe log (query, true) ∷ goal_probe log (query, false) ∷ []
implied_probes Combined log query = []

-- the answer that is entailed, by the verdicts on these
abbrev pub implied_shown : List Bool → Option Bool
implied_shown (is_yes ∷ is_no ∷ []) =
    if is_yes then Some true else if is_no then Some false else None
implied_shown _ = None

module _ (schema : DatabaseSchema) (world : FactSet) (name : Text) (user : UserProfile) where
  -- an item of this line was read behind these items: now there are those
  abbrev pub ReadsItem : (before : History) → FieldSaid → Unread → Unread → (after : History)
      → Result (Unit {0}) DossierError → Type 0
  ReadsItem before field old new after =
      ReadsOn schema world name user (item_line schema world name user before field) old new
      (λ _. Ok (item after))

  -- what shows the mark of a query was read, which stands in this line
  abbrev pub ReadsShown : {X : Type 0} → (before : History) → (line : ℕ) → Mark → Formula
      → (size : ℕ) → Unread → Unread → Result X DossierError → Type 0
  ReadsShown before line mark query size old new =
      ReadsOn schema world name user
      (asked schema world name user line before mark size (Some query)) old new
      (λ _. Ok (behind_item before query mark size))

  -- the first probes of a query were read, for refusal, and their verdicts give this answer
  abbrev pub ReadsImplied : (before : History) → Task → Formula → (more : List Probed) → Unread
      → Unread → Result (Option Bool) DossierError → Type 0
  ReadsImplied before task query more old new (Ok implied) =
      (verdicts : List Bool) × (implied ≡ implied_shown verdicts)
      × (length verdicts ≡ length (implied_probes user.method (log user before) query))
      × (answer schema world name user (awaited_for schema world name user before task
      (implied_probes user.method (log user before) query ++ more) []) old
      ≡ answer schema world name user (awaited_for schema world name user before task more verdicts)
      new)
  ReadsImplied before task query more old new (Err why) =
      IsRefusedSo schema world name user (awaited_for schema world name user before task
      (implied_probes user.method (log user before) query ++ more) []) old why

  -- findings give the mark that verdicts on all probes of a query give
  abbrev pub AreFindingsBy : (before : History) → List Bool → Findings → Type 0
  AreFindingsBy before shown findings =
      (findings.spent ≡ false)
      × ((truth : Bool) → mark_by user.method false findings.implied findings.yes_harm
      findings.no_harm truth
      ≡ mark_found user.method (length (guarded (user_at user before))) shown truth)

  -- all probes of a query were read, and their verdicts are these findings
  abbrev pub ReadsFindings : (before : History) → Task → Formula → Unread → Unread
      → Result Findings DossierError → Type 0
  ReadsFindings before task query old new (Ok findings) =
      (shown : List Bool) × AreFindingsBy before shown findings
      × (answer schema world name user (awaited_for schema world name user before task
      (probes (user_at user before) (log user before) query) []) old
      ≡ answer schema world name user (behind_task schema world name user before task shown) new)
  ReadsFindings before task query old new (Err why) =
      IsRefusedSo schema world name user (awaited_for schema world name user before task
      (probes (user_at user before) (log user before) query) []) old why

  -- the items up to the end were read behind these: now there are those
  abbrev pub ReadsItems : (before : History) → Unread → Unread → (after : History)
      → Result (Unit {0}) DossierError → Type 0
  ReadsItems before old new after =
      ReadsOn schema world name user (Ok (item before)) old new (λ _. Ok (nothing after))

  -- nothing is left behind the end, or the next line is refused
  abbrev pub EndsHere : History → Unread → Result (Unit {0}) DossierError → Type 0
  EndsHere entries left (Ok done) =
      answer schema world name user (Ok (nothing entries)) left ≡ Ok entries
  EndsHere entries left (Err why) =
      answer schema world name user (Ok (nothing entries)) left ≡ Err why
