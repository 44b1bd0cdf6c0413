-- What is found of a text before it is weighed.
use Rattle.std.specs.Prelude.{◌≡◌, ◌≤◌, ◌+◌, ◌++◌, Ok, length}
use Rattle.cqe_base.specs.Schema.{DatabaseSchema, Text}
use Rattle.cqe_base.specs.Formula.{Formula, nodes}
use Rattle.cqe_base.specs.Reading.{reading}
use Rattle.cqe_base.specs.History.{UserProfile, History, log, user_at}
use Rattle.entailment.specs.Logs.{log_nodes}
use Rattle.entailment.specs.Views.{LogView, schema_of, log_of, IsViewWithin}
use Rattle.entailment.specs.GroundSentences.{sentence_of, IsGroundOver}
use Rattle.censors.specs.Found.{HasFindings}
use Rattle.user_log.specs.declared.examiner.Lent.{Lent}
use Rattle.user_log.specs.declared.examiner.Examined.{Examined}

-- a history is a first part of another
abbrev pub IsFirstPart : (first whole : History) → Type 0
IsFirstPart first whole = (more : History) × (whole ≡ first ++ more)

-- the views that are lent
abbrev pub lent_view : Lent → LogView
lent_view lent = lent.views

-- the views have the whole log of a history at whose end the user is this one, the items are
-- counted, and the log fits the probes of the query
pub record IsLentTo (schema : DatabaseSchema) (user now : UserProfile) (entries : History)
    (query : Formula) (lent : Lent) : Type 0 where
  pub schema_is : schema_of (lent_view lent) ≡ schema
  pub log_is : log_of (lent_view lent) ≡ log user entries
  pub items_are : lent.items ≡ length entries
  pub now_is : user_at user entries ≡ now
  pub fits : log_nodes schema (log user entries) + nodes schema query ≤ 60000

-- so that of a history that adds no secret
abbrev pub IsLent : DatabaseSchema → UserProfile → History → Formula → Lent → Type 0
IsLent schema user entries query lent = IsLentTo schema user user entries query lent

-- a text is the query that was examined, after the log of a first part of a history; where that has
-- as many items, the findings are of the user at the end of the history and after its whole log
pub record IsExamined (schema : DatabaseSchema) (user : UserProfile) (entries : History)
    (text : Text) (examined : Examined) : Type 0 where
  pub read : reading schema text ≡ Ok (sentence_of examined.query)
  pub grounded : IsGroundOver schema examined.query
  pub within : IsViewWithin schema (log user entries) examined.views
  pub findings : examined.items ≡ length entries
      → HasFindings schema (user_at user entries) (log user entries) (sentence_of examined.query)
      examined.findings
