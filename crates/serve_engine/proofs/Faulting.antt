-- Serving: where a refusal says that a disk failed, the count of its faults had risen, and stays so.
use Rattle.std.proofs.Common.{◌≡◌, ◌∙◌, ◌∷◌, [], ℕ, Bool, List, map, refl, sym, ap, subst}
use Rattle.std.specs.Prelude.{Option, Vec}
use Rattle.std.specs.declared.alloc.Global.{Global}
use Rattle.outside.specs.Faults.{Rose}
use Rattle.outside.specs.declared.disk.Disk.{Ghosts as DiskGhosts}
use Rattle.cqe_base.specs.Schema.{Text}
use Rattle.user_desk.specs.declared.standing.DeskError.{DeskError}
use Rattle.desk_counter.specs.declared.item.Fixed.{Fixed}
use Rattle.desk_crew.specs.Crew.{seat_journal, seat_disk}
use Rattle.desk_crew.specs.Refusals.{refused_by_disk, SomeFaulted}
use Rattle.desk_crew.specs.Seats.{DeskSeat}
use Rattle.desk_crew.proofs.Faulting.{HaveFaulted}
use Rattle.serve_engine.specs.Serving.{IsDiskRefusal, end_of}
use Rattle.serve_engine.specs.Sharing.{AreSeatsOn}
use Rattle.serve_engine.specs.declared.serving.Outcome.{Outcome}
use Rattle.serve_engine.specs.declared.serving.Outcome.TheVariants as outcome

-- the refusals of an end are those that it was given
pub faulted_end : (end : Outcome) (refusals : Vec (Option DeskError) Global) (is_broken : Bool) → IsDiskRefusal (end_of end refusals is_broken)
    → SomeFaulted refusals.items
faulted_end outcome.Served refusals is_broken is = is
faulted_end outcome.LinksFailed refusals is_broken is = absurd is
faulted_end outcome.Memory refusals is_broken is = absurd is

module _ {D : Type 0} {g h : _} (Disk : DiskGhosts D) (count : Text → ℕ) where
  -- seats keep their refusals, and what goes with them
  pub refusals_on_seats : (olds news : List (DeskSeat D g h)) → AreSeatsOn olds news
      → map (λ (s : DeskSeat D g h). s.refusal) olds ≡ map (λ (s : DeskSeat D g h). s.refusal) news
  refusals_on_seats [] [] on = refl
  refusals_on_seats [] (new ∷ news) on = absurd on
  refusals_on_seats (old ∷ olds) [] on = absurd on
  refusals_on_seats (old ∷ olds) (new ∷ news) on =
      ap (λ r. r ∷ map (λ (s : DeskSeat D g h). s.refusal) olds) (sym on.0.refusal_is) ∙ ap (λ rs. new.refusal ∷ rs) (refusals_on_seats olds news on.1)

  pub faulted_on_seats : (olds news : List (DeskSeat D g h)) → AreSeatsOn olds news → HaveFaulted Disk count olds → HaveFaulted Disk count news
  faulted_on_seats [] [] on have = tt
  faulted_on_seats [] (new ∷ news) on have = absurd on
  faulted_on_seats (old ∷ olds) [] on have = absurd on
  faulted_on_seats (old ∷ olds) (new ∷ news) on have = (
    λ is. subst (λ n. Rose (count n) (Disk.faults (seat_disk new))) (sym on.0.journal_is)
        (subst (λ (f : Fixed D). Rose (count (seat_journal old)) (Disk.faults f.disk)) (sym on.0.kept_is)
        (have.0 (ap refused_by_disk (sym on.0.refusal_is) ∙ is))),
    faulted_on_seats olds news on.1 have.1,
  )
