-- What a desk leaves on its disk as it is taken from under its counter.
use Rattle.std.specs.Prelude.{◌≡◌, ℕ, ◌≤◌, true, false, List, [], ◌++◌, length, None}
use Rattle.std.specs.Prelude.{option_to_list}
use Rattle.outside.specs.Disk.{Elapses}
use Rattle.outside.specs.Faults.{Rose}
use Rattle.outside.specs.declared.disk.Disk.{Ghosts as DiskGhosts}
use Rattle.cqe_base.specs.Censor.{IsLegal}
use Rattle.cqe_base.specs.Limits.{KeepsSizes}
use Rattle.log_journal.specs.Walk.{AreThere}
use Rattle.turnstile.specs.History.{Entries}
use Rattle.user_desk.specs.Causes.{OpensWithin}
use Rattle.user_desk.specs.Entries.{IsNoLonger}
use Rattle.user_desk.specs.Lives.{Holds}
use Rattle.user_desk.specs.Standings.{is_open, is_sealed}
use Rattle.desk_counter.specs.declared.item.TurnItem.{TurnItem}
use Rattle.desk_counter.specs.declared.item.Fixed.{Fixed}
use Rattle.desk_counter.specs.Desks.{state_shown}
use Rattle.desk_counter.specs.Items.{history_of, flying, has_broke, items_of, items_with}
use Rattle.desk_counter.specs.Sole.{IsAsOpened}

-- A desk, of which no turn changed what is kept, leaves this disk, once all pairs are these: unless
-- its journal was refused, each image holds the state that they show, whose history is legal and
-- within the limits; they are those that it was put under the counter with and then the pass's own,
-- with one entry in flight at most; only of a user who is served are there any; the count rose
-- where an append failed; where none did, the disk has grown for the entries alone; the marks of
-- all entries may be told; and where nothing was appended it is as it was at the opening; it comes
-- from where it came; where what was told of lay there, it does now. Since the opening each image
-- opens a desk with a beginning of the history, with the entry in flight, that has all entries at
-- the opening.
pub record IsClosed {D : Type 0} (Disk : DiskGhosts D) (kept : Fixed D)
    (first own pairs : Entries TurnItem) (disk : D) : Type 0 where
  pub holds : Disk.tells → is_sealed kept.standing ≡ false → (c : List ℕ) → Disk.image disk c
      → Holds kept.schema kept.world kept.user kept.header (state_shown kept pairs) c
  pub legal : IsLegal kept.schema kept.world kept.user (history_of pairs)
  pub sizes : KeepsSizes kept.schema kept.user (history_of pairs)
  pub added : pairs ≡ first ++ own
  pub items : items_of pairs ≡ items_with (history_of pairs) (flying pairs)
  pub idle : is_open kept.standing ≡ false → (history_of pairs ≡ []) × (flying pairs ≡ None)
  pub later : Disk.faults kept.disk ≤ Disk.faults disk
  pub cause : has_broke pairs ≡ true → Rose (Disk.faults kept.disk) (Disk.faults disk)
  pub size : Disk.tells → has_broke pairs ≡ false
      → IsNoLonger (Disk.reads kept.disk) (history_of pairs) (Disk.reads disk)
  pub told : Disk.tells → length (history_of pairs) ≤ Disk.tellable disk
  pub shut : is_sealed kept.standing ≡ true → disk ≡ kept.disk
  pub still : IsAsOpened kept pairs → disk ≡ kept.disk
  pub since : Disk.tells → is_sealed kept.standing ≡ false → (c : List ℕ)
      → Disk.image_since disk (Disk.moment kept.disk) c
      → OpensWithin kept.schema kept.world kept.user kept.header (length kept.opening)
      (history_of pairs ++ option_to_list (flying pairs)) c
  pub comes : Disk.origin disk ≡ Disk.origin kept.disk
  pub there : Disk.tells → AreThere (Disk.heard kept.disk) (Disk.reads kept.disk)
      → AreThere (Disk.heard disk) (Disk.reads disk)
  pub time : Elapses (Disk.moment kept.disk) (Disk.moment disk) (Disk.image_since kept.disk)
      (Disk.image_since disk)
