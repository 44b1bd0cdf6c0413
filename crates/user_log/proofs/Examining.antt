-- First parts of histories: their logs, and what was found after them.
use Rattle.std.proofs.Common.{◌≡◌, ◌+◌, [], ◌∷◌, ◌++◌, length, sym, ap, subst, ◌∙◌, arith, length-append, append_assoc}
use Rattle.std.proofs.lemmas.List.{append-nil}
use Rattle.cqe_base.specs.Schema.{DatabaseSchema}
use Rattle.cqe_base.specs.Formula.{Formula}
use Rattle.cqe_base.specs.History.{UserProfile, History, LogsGrow, told_by, user_at, log}
use Rattle.entailment.specs.Views.{LogView, schema_of, log_of, IsLogBeginning}
use Rattle.censors.specs.declared.examination.Findings.{Findings}
use Rattle.censors.specs.Found.{HasFindings}
use Rattle.user_log.specs.Examining.{IsFirstPart}

-- a first part of a history with as many items is the history
pub whole_history : (first whole : History) → IsFirstPart first whole → length first ≡ length whole → first ≡ whole
whole_history first whole begins long = by begins.0 begins.1
  where
    by : (more : History) → whole ≡ first ++ more → first ≡ whole
    by [] is = sym (append-nil first) ∙ sym is
    by (item ∷ more) is =
        let longer = ap length is ∙ length-append first (item ∷ more) in
        absurd (omega (arith, long, longer))

-- the log of a first part is a beginning of the log
pub log_on : LogsGrow → (user : UserProfile) (entries more : History) → IsLogBeginning (log user entries) (log user (entries ++ more))
log_on grow user entries [] = ([], ap (log user) (append-nil entries) ∙ sym (append-nil (log user entries)))
log_on grow user entries (item ∷ more) =
    let told = told_by item.mark item.query in
    let rest = log_on grow user (entries ++ item ∷ []) more in (
      told ++ rest.0,
      ap (log user) (sym (append_assoc entries (item ∷ []) more)) ∙ rest.1 ∙ ap (λ l. l ++ rest.0) (grow user entries item)
          ∙ append_assoc (log user entries) told rest.0,
    )

-- what was found of the user at the end of a first part with as many items was found of the history
pub found_whole : (schema : DatabaseSchema) (user now : UserProfile) (before entries : History) (query : Formula) (view : LogView) (findings : Findings)
    → schema_of view ≡ schema → log_of view ≡ log user before → user_at user before ≡ now → IsFirstPart before entries
    → length before ≡ length entries → HasFindings (schema_of view) now (log_of view) query findings
    → HasFindings schema (user_at user entries) (log user entries) query findings
found_whole schema user now before entries query view findings same_schema same_log same_user first many found =
    let at_schema = subst (λ s. HasFindings s now (log_of view) query findings) same_schema found in
    let at_log = subst (λ told. HasFindings schema now told query findings) same_log at_schema in
    let of_user = subst (λ u. HasFindings schema u (log user before) query findings) (sym same_user) at_log in
    subst (λ es. HasFindings schema (user_at user es) (log user es) query findings) (whole_history before entries first many) of_user
