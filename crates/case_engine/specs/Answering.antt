-- A script that was read, and one reply to it.
use Rattle.std.specs.Prelude.{◌≡◌, Bool, true, false, nat_le, length, map, string_bytes}
use Rattle.std.specs.List.{list_all}
use Rattle.cqe_base.specs.declared.user.Purpose.TheVariants.{Asking}
use Rattle.cqe_base.specs.Schema.{Text, DatabaseSchema}
use Rattle.cqe_base.specs.Facts.{FactSet}
use Rattle.cqe_base.specs.History.{UserProfile, History, profile_of, is_user_of}
use Rattle.cqe_base.specs.Limits.{KeepsLimits}
use Rattle.cqe_base.specs.Run
use Rattle.cqe_base.specs.Run.{user_closed}
use Rattle.user_log.specs.Asked.{IsAsked}
use Rattle.case_engine.specs.Script.{Script, script_schema, script_user}
use Rattle.case_engine.specs.Sound.{is_short}
use Rattle.case_engine.specs.declared.parts.Parts.{Parts}

-- the parts of a script: its schema and facts, its user, who keeps the limits where he asks
-- anything, and his asks
pub record ArePartsOf (script : Script) (parts : Parts) : Type 0 where
  pub schema : parts.schema ≡ script_schema script
  pub facts : parts.facts ≡ script.facts
  pub user : profile_of parts.user ≡ script_user script
  pub asks : map string_bytes parts.asks.items ≡ script.asks
  pub sentences : is_user_of parts.schema (profile_of parts.user) ≡ true
  pub short : list_all is_short script.asks ≡ true
  pub limits : nat_le 1 (length script.asks) ≡ true
      → KeepsLimits parts.schema (profile_of parts.user)

-- what a user who is admitted, or isn't, is told of a text, and his entries before and after
abbrev pub IsTold : Bool → DatabaseSchema → FactSet → UserProfile → History → History → Text
    → Run.Reply → Type 0
IsTold true schema world user old new text told =
    IsAsked schema world user old new Asking text told
IsTold false schema world user old new text told = (told ≡ user_closed) × (new ≡ old)
