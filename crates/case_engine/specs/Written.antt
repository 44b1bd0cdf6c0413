-- What answering asks writes.
use Rattle.std.specs.Prelude.{◌≡◌, ℕ, List, [], ◌∷◌, ◌++◌, length}
use Rattle.cqe_base.specs.Schema.{Text, DatabaseSchema}
use Rattle.cqe_base.specs.Facts.{FactSet}
use Rattle.cqe_base.specs.History.{UserProfile}
use Rattle.cqe_base.specs.Run.{Reply}
use Rattle.case_engine.specs.Case.{AnswersCase, reply_lines, lines_cut}
use Rattle.case_engine.specs.declared.case.CaseEnd.{CaseEnd}
use Rattle.case_engine.specs.declared.case.CaseEnd.TheVariants.{Done, Script as Refused, ReadFault}
use Rattle.case_engine.specs.declared.case.CaseEnd.TheVariants.{WriteFault, Memory}

module _ (schema : DatabaseSchema) (world : FactSet) (user : UserProfile) (asks : List Text)
    (old new : List ℕ) where
  -- what was appended answers all asks
  pub record AppendsReplies : Type 0 where
    pub written : List ℕ
    pub appended : new ≡ old ++ written
    pub answers : AnswersCase schema world user asks written

  -- what was appended are the lines that answer the first asks, and a part of the line of the next
  pub record AppendsFirstReplies : Type 0 where
    pub first : List Text
    pub next : Text
    pub back : List Text
    pub split : asks ≡ (first ++ next ∷ []) ++ back
    pub whole : List Reply
    pub one_each : length whole ≡ length first
    pub told : Reply
    pub part : ℕ
    pub appended : new ≡ old ++ lines_cut whole told part
    pub answers : AnswersCase schema world user (first ++ next ∷ [])
        (reply_lines (whole ++ told ∷ []))

  -- how answering asks ends
  abbrev pub IsAnswered : CaseEnd → Type 0
  IsAnswered Done = AppendsReplies
  IsAnswered WriteFault = AppendsFirstReplies
  IsAnswered Memory = new ≡ old
  IsAnswered (Refused refusal) = ⊥
  IsAnswered ReadFault = ⊥
