-- The ends of a standby.
use Rattle.std.proofs.Common.{◌≡◌, ◌⊎◌, inl, inr, ℕ, Bool, true, List, refl}
use Rattle.std.specs.List.{list_any}
use Rattle.std.specs.Prelude.{Option, Vec}
use Rattle.std.specs.declared.alloc.Global.{Global}
use Rattle.outside.specs.Visits.{Visit}
use Rattle.cqe_base.specs.declared.user.User.{User}
use Rattle.desk_crew.specs.Shelved.{Journals}
use Rattle.log_journal.specs.declared.header.Header.{Header}
use Rattle.user_desk.specs.declared.standing.DeskError.{DeskError}
use Rattle.standby_core.specs.Copies.{Copy}
use Rattle.standby_core.specs.declared.serve.StandbyEnd.{StandbyEnd}
use Rattle.standby_engine.specs.Served.{is_wanting}
use Rattle.standby_engine.specs.Standing.{AreCopied, SomeFailed, LeavesCopies, ServesCopies, EndsCopying, HasListened, IsBroken, copy_end}
use Rattle.standby_engine.specs.declared.run.CopyEnd.TheVariants.{LinksFault}
use Rattle.standby_engine.specs.declared.serving.DoorEnd.{DoorEnd}
use Rattle.standby_engine.specs.declared.serving.DoorEnd.TheVariants.{Ended, Limit, Failed}

module _ (refusals : Vec (Option DeskError) Global) (broken wanting : Bool) where
  pub ended_at : (door : DoorEnd) (P Q : Type 0) → (door ≡ Ended → P) → (door ≡ Limit → Q) → HasListened (copy_end door refusals broken wanting) → P ⊎ Q
  ended_at Ended P Q none reached is = inl (none refl)
  ended_at Limit P Q none reached is = inr (reached refl)
  ended_at Failed P Q none reached is = absurd is

  pub failed_at : (door : DoorEnd) → copy_end door refusals broken wanting ≡ LinksFault → door ≡ Failed
  failed_at Ended is = absurd cc
  failed_at Limit is = absurd cc
  failed_at Failed is = refl

  pub broken_at : (door : DoorEnd) → IsBroken (copy_end door refusals broken wanting) → broken ≡ true
  broken_at Ended is = is
  broken_at Limit is = is
  broken_at Failed is = absurd is

  -- what is left of the journals, however the door ended
  pub leaves_at : (header : List ℕ) (journals : Journals) (users : List User) (door : DoorEnd) → AreCopied header journals users refusals.items
      → (broken ≡ true → SomeFailed journals users) → LeavesCopies header journals users (copy_end door refusals broken wanting)
  leaves_at header journals users Ended copied failed = (copied, failed)
  leaves_at header journals users Limit copied failed = (copied, failed)
  leaves_at header journals users Failed copied failed = inl (refusals.items, copied)

  -- and what it did with the connections
  pub serves_at : (header : Header) (journals : Journals) (users : List User) (given given' : ℕ) (back back' : List Visit) (door : DoorEnd) (last : List Copy)
      (served_ends : List StandbyEnd) → ServesCopies header journals users given given' back back' refusals.items last served_ends
      → broken ≡ list_any (λ (copy : Copy). copy.failed) last → wanting ≡ list_any is_wanting served_ends
      → EndsCopying header journals users given given' back back' (copy_end door refusals broken wanting)
  serves_at header journals users given given' back back' Ended last served_ends serves failed wanted = (last, served_ends, serves, failed, wanted)
  serves_at header journals users given given' back back' Limit last served_ends serves failed wanted = (last, served_ends, serves, failed, wanted)
  serves_at header journals users given given' back back' Failed last served_ends serves failed wanted =
      inl (refusals.items, last, served_ends, serves)
