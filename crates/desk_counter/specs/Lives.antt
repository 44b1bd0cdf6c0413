-- A call at a counter as an event of its user's run.
use Rattle.std.specs.Prelude.{◌≡◌}
use Rattle.cqe_base.specs.declared.user.Purpose.{Purpose}
use Rattle.cqe_base.specs.Schema.{DatabaseSchema, Text}
use Rattle.cqe_base.specs.Facts.{FactSet}
use Rattle.cqe_base.specs.History.{UserProfile}
use Rattle.cqe_base.specs.Run.{Reply, UserState, Ending, call, after_event, reply_to_call}

module _ (schema : DatabaseSchema) (world : FactSet) (user : UserProfile) where
  -- a call with the text, with some ending, leads from the state to one that is now, and has this
  -- reply
  pub record IsCallOf (is_now : UserState → Type 0) (state : UserState) (purpose : Purpose)
      (text : Text) (answer : Reply) : Type 0 where
    pub ending : Ending
    pub after : is_now (after_event schema world user state (call purpose text ending))
    pub reply : answer ≡ reply_to_call schema world user state purpose text ending
