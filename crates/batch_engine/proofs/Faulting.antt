-- The items of a batch: where a refusal says that a disk failed, the count of its faults has risen.
use Rattle.std.proofs.Common.{◌≡◌, ◌∙◌, ℕ, Bool, true, List, map, sym, ap, subst}
use Rattle.std.specs.Prelude.{Option}
use Rattle.outside.specs.Faults.{Rose}
use Rattle.outside.specs.Shelf.{SomeRose}
use Rattle.outside.specs.declared.disk.Disk.{Ghosts as DiskGhosts}
use Rattle.cqe_base.specs.Schema.{Text, DatabaseSchema}
use Rattle.cqe_base.specs.Facts.{FactSet}
use Rattle.cqe_base.specs.Run.{Reply}
use Rattle.cqe_base.specs.Transcript.{purpose_of}
use Rattle.cqe_base.specs.declared.user.Purpose.{Purpose}
use Rattle.user_desk.specs.declared.standing.DeskError.{DeskError}
use Rattle.desk_counter.specs.declared.item.Fixed.{Fixed}
use Rattle.desk_crew.specs.Crew.{seat_journal, seat_disk, IsToldAt, Tells, nobody, here, further}
use Rattle.desk_crew.specs.Refusals.{refused_by_disk, SomeFaulted}
use Rattle.desk_crew.specs.Seats.{DeskSeat}
use Rattle.desk_crew.specs.Shelved.{AreLater, AreBack}
use Rattle.desk_crew.proofs.Faulting.{HasFaulted, HaveFaulted, all_reopened, faulted_rose}
use Rattle.batch_engine.specs.BatchLines.{BatchItem, asked, restarted}
use Rattle.batch_engine.specs.Steps.{Carries, Runs, nothing, more, RunsAll}
use Rattle.batch_engine.proofs.Running.{stay_run}

module _ (schema : DatabaseSchema) (world : FactSet) (header : List ℕ) {D : Type 0} {g h : _} (Disk : DiskGhosts D) (count : Text → ℕ) where
  seat_told : (old new : DeskSeat D g h) (purpose : Purpose) (text : Text) (reply : Reply) → IsToldAt schema world purpose text reply old new
      → HasFaulted Disk count old → HasFaulted Disk count new
  seat_told old new purpose text reply answer has is =
      subst (λ n. Rose (count n) (Disk.faults (seat_disk new))) (sym answer.journal_is)
      (subst (λ (f : Fixed D). Rose (count (seat_journal old)) (Disk.faults f.disk)) (sym answer.kept_is)
      (has (ap refused_by_disk (sym answer.refusal_is) ∙ is)))

  all_told : (name : Text) (purpose : Purpose) (text : Text) (old new : List (DeskSeat D g h)) (reply : Option Reply)
      → Tells schema world name purpose text old new reply → HaveFaulted Disk count old → HaveFaulted Disk count new
  all_told name purpose text old new reply nobody have = tt
  all_told name purpose text old new reply (here {old = first} {new = next} {told_reply} is answer) have =
      (seat_told first next purpose text told_reply answer have.0, have.1)
  all_told name purpose text old new reply (further {others} {after} {told_reply} other rest) have =
      (have.0, all_told name purpose text others after told_reply rest have.1)

  all_carried : (item : BatchItem) (old new : List (DeskSeat D g h)) (line : List ℕ) (says_broken : Bool)
      → Carries schema world header Disk item old new line says_broken → AreLater Disk.faults count old
      → HaveFaulted Disk count old → HaveFaulted Disk count new
  all_carried (asked it) old new line says_broken carried first have =
      all_told it.name (purpose_of it.caller) it.text old new carried.0 carried.1 have
  all_carried restarted old new line says_broken carried first have = all_reopened Disk count schema world header old new carried.0 first have

  -- so it stays behind any items
  run_faulted : (items : List BatchItem) (old new : List (DeskSeat D g h)) (output : List ℕ) (is_broken : Bool)
      → Runs schema world header Disk items old output new is_broken → AreLater Disk.faults count old
      → HaveFaulted Disk count old → HaveFaulted Disk count new
  run_faulted items old new output is_broken (nothing seats) first have = have
  run_faulted items old new output is_broken (more earlier old' mid new' before line was says_broken item runs carried) first have =
      all_carried item mid new' line says_broken carried ((stay_run schema world header Disk earlier old' mid before was runs).later count first)
      (run_faulted earlier old' mid before was runs first have)

  -- so a count rises where a refusal of the last seats says so, whose disks were given back
  pub faulted_run : (told' : Type 0) (count' : Text → ℕ) (disk' : Text → Option D) (wrote : Type 0) (items : List BatchItem)
      (old new : List (DeskSeat D g h)) (is_broken : Bool) (before after : List ℕ)
      → RunsAll schema world header Disk wrote items old new is_broken before after
      → AreLater Disk.faults count old → AreBack told' Disk disk' count' new → HaveFaulted Disk count old
      → (refusals : List (Option DeskError)) → refusals ≡ map (λ (seat : DeskSeat D g h). seat.refusal) new → SomeFaulted refusals
      → SomeRose count count'
  faulted_run told' count' disk' wrote items old new is_broken before after all first back have refusals are said =
      faulted_rose Disk count told' count' disk' new ((stay_run schema world header Disk items old new all.output is_broken all.runs).later count first) back
      (run_faulted items old new all.output is_broken all.runs first have) (subst SomeFaulted are said)
