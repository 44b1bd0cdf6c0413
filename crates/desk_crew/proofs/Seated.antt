-- A desk that was just opened, under its counter.
use Rattle.std.proofs.Common.{◌≡◌, ℕ, ◌*◌, ◌^◌, false, List, [], length, sym, ap, subst, ◌∙◌}
use Rattle.std.specs.Prelude.{Option}
use Rattle.outside.specs.declared.disk.Disk.{Ghosts as DiskGhosts}
use Rattle.cqe_base.specs.Schema.{DatabaseSchema}
use Rattle.cqe_base.specs.Facts.{FactSet}
use Rattle.cqe_base.specs.History.{AnsweredQuery, History, profile_of}
use Rattle.cqe_base.specs.Censor.{IsLegal}
use Rattle.cqe_base.specs.Limits.{KeepsSizes}
use Rattle.cqe_base.specs.Run.{UserState}
use Rattle.user_desk.specs.Causes.{IsStanding}
use Rattle.user_desk.specs.Standings.{is_sealed, standing_of}
use Rattle.user_desk.specs.Lives.{Holds, Restarts, IsState, shown}
use Rattle.user_desk.specs.Desks.{desk_schema, desk_world, desk_user, desk_header, desk_standing, desk_history, desk_disk, entry_in_flight, is_broken_desk}
use Rattle.user_desk.specs.Desks.{opening_history, opening_disk, state_of, IsIn}
use Rattle.user_desk.specs.declared.desk.Desk.{Desk}
use Rattle.user_desk.specs.declared.standing.DeskError.{DeskError}
use Rattle.user_desk.specs.declared.standing.Standing.{Standing}
use Rattle.desk_counter.proofs.Settling.{none_flies}
use Rattle.desk_counter.specs.declared.item.Fixed.{Fixed}
use Rattle.desk_counter.specs.Desks.{fixed_of}
use Rattle.desk_counter.specs.Items.{flying}
use Rattle.turnstile.specs.Passes.{mine, turns}
use Rattle.desk_counter.specs.Counters.{first_pairs}
use Rattle.desk_counter.specs.Sole.{counter_in, pass_in, pairs_of_sole}
use Rattle.censors.specs.Admitting.{admission_of}
use Rattle.desk_crew.specs.Crew.{first_refusal, seat_user, seat_kept, seat_standing, seat_history, seat_state, seat_disk, IsOpenedFrom}
use Rattle.desk_crew.specs.Seats.{DeskSeat}

module _ {D : Type 0} {g h : _} (schema : DatabaseSchema) (world : FactSet) (header : List ℕ) (Disk : DiskGhosts D) (desk : Desk D g)
    (seat : DeskSeat D g h)
    (kept : seat_kept seat ≡ fixed_of desk) (entries : seat_history seat ≡ desk_history desk) (flies : flying (pairs_of_sole seat.desk) ≡ entry_in_flight desk)
    (first : first_pairs (counter_in seat.desk) ≡ pairs_of_sole seat.desk) (none_own : mine (pass_in seat.desk) ≡ [])
    (all_turns : turns (pass_in seat.desk) ≡ 65 * 2 ^ 57) where
  standing_is : seat_standing seat ≡ desk_standing desk
  standing_is = ap (λ (f : Fixed D). f.standing) kept

  state_is : seat_state seat ≡ state_of desk
  state_is =
      ap (λ (e : History). shown e (standing_of (seat_standing seat)) (flying (pairs_of_sole seat.desk))) entries
      ∙ ap (λ (s : Standing). shown (desk_history desk) (standing_of s) (flying (pairs_of_sole seat.desk))) standing_is
      ∙ ap (λ (o : Option AnsweredQuery). shown (desk_history desk) (standing_of (desk_standing desk)) o) flies

  -- it is a seat that was opened from its disk
  pub opened_seat : (disk : D) (before : Option DeskError) → desk_schema desk ≡ schema → desk_world desk ≡ world → desk_user desk ≡ profile_of (seat_user seat)
      → desk_header desk ≡ header → seat.admission ≡ admission_of schema world (profile_of (seat_user seat))
      → IsStanding schema world (profile_of (seat_user seat)) Disk.tells header (Disk.reads disk) (desk_history desk) (Disk.faults disk) (Disk.faults
      (desk_disk desk))
      (desk_standing desk)
      → (Disk.tells → (state : UserState) → Holds schema world (profile_of (seat_user seat)) header state (Disk.reads disk)
      → Restarts schema world (profile_of (seat_user seat)) (IsIn desk) state (Disk.faults disk) (Disk.faults (desk_disk desk)))
      → is_broken_desk desk ≡ false → opening_history desk ≡ desk_history desk → opening_disk desk ≡ desk_disk desk
      → seat.refusal ≡ first_refusal before (desk_standing desk)
      → (Disk.tells → is_sealed (desk_standing desk) ≡ false → (c : List ℕ) → Disk.image (desk_disk desk) c
      → Holds (desk_schema desk) (desk_world desk) (desk_user desk) (desk_header desk) (state_of desk) c)
      → IsLegal (desk_schema desk) (desk_world desk) (desk_user desk) (desk_history desk)
      → KeepsSizes (desk_schema desk) (desk_user desk) (desk_history desk)
      → IsOpenedFrom schema world header Disk disk before seat
  opened_seat disk before schema_is world_is user_is header_is admission_is standing restarted whole opening opened refusal images legal sizes =
      let disk_is : seat_disk seat ≡ desk_disk desk = ap (λ (f : Fixed D). f.disk) kept ∙ opened in
      record {
        served = record {
          schema_is = ap (λ (f : Fixed D). f.schema) kept ∙ schema_is;
          world_is = ap (λ (f : Fixed D). f.world) kept ∙ world_is;
          header_is = ap (λ (f : Fixed D). f.header) kept ∙ header_is;
          user_is = ap (λ (f : Fixed D). f.user) kept ∙ user_is;
          admission_is = admission_is;
        };
        standing = subst (λ (s : Standing).
            IsStanding schema world (profile_of (seat_user seat)) Disk.tells header (Disk.reads disk) (seat_history seat) (Disk.faults disk) (Disk.faults
            (seat_disk seat)) s)
            (sym standing_is)
            (subst (λ d. IsStanding schema world (profile_of (seat_user seat)) Disk.tells header (Disk.reads disk) (seat_history seat) (Disk.faults disk)
            (Disk.faults d)
            (desk_standing desk)) (sym disk_is)
            (subst (λ (e : History).
            IsStanding schema world (profile_of (seat_user seat)) Disk.tells header (Disk.reads disk) e (Disk.faults disk) (Disk.faults (desk_disk desk))
            (desk_standing desk))
            (sym entries) standing));
        restarted = λ t state holds.
            subst (λ (s : Standing).
            Restarts schema world (profile_of (seat_user seat)) (IsState s (seat_state seat)) state (Disk.faults disk) (Disk.faults (seat_disk seat)))
            (sym standing_is)
            (subst (λ (u : UserState).
            Restarts schema world (profile_of (seat_user seat)) (IsState (desk_standing desk) u) state (Disk.faults disk) (Disk.faults (seat_disk seat)))
            (sym state_is)
            (subst (λ d. Restarts schema world (profile_of (seat_user seat)) (IsIn desk) state (Disk.faults disk) (Disk.faults d)) (sym disk_is)
            (restarted t state holds)));
        refusal = refusal ∙ ap (first_refusal before) (sym standing_is);
        fresh = record {
          count = ap length entries ∙ sym (ap length (ap (λ (f : Fixed D). f.opening) kept ∙ opening));
          none = flies ∙ none_flies (entry_in_flight desk) whole;
        };
        opening_is = ap (λ (f : Fixed D). f.opening) kept ∙ opening ∙ sym entries;
        legal = subst (λ s. IsLegal s world (profile_of (seat_user seat)) (seat_history seat)) schema_is
            (subst (λ w. IsLegal (desk_schema desk) w (profile_of (seat_user seat)) (seat_history seat)) world_is
            (subst (λ p. IsLegal (desk_schema desk) (desk_world desk) p (seat_history seat)) user_is
            (subst (λ (e : History). IsLegal (desk_schema desk) (desk_world desk) (desk_user desk) e) (sym entries) legal)));
        sizes = subst (λ s. KeepsSizes s (profile_of (seat_user seat)) (seat_history seat)) schema_is
            (subst (λ p. KeepsSizes (desk_schema desk) p (seat_history seat)) user_is
            (subst (λ (e : History). KeepsSizes (desk_schema desk) (desk_user desk) e) (sym entries) sizes));
        first_is = first;
        mine_is = none_own;
        turns_are = all_turns;
        holds = λ t served c here.
            subst (λ s. Holds s world (profile_of (seat_user seat)) header (seat_state seat) c) schema_is
            (subst (λ w. Holds (desk_schema desk) w (profile_of (seat_user seat)) header (seat_state seat) c) world_is
            (subst (λ p. Holds (desk_schema desk) (desk_world desk) p header (seat_state seat) c) user_is
            (subst (λ e. Holds (desk_schema desk) (desk_world desk) (desk_user desk) e (seat_state seat) c) header_is
            (subst (λ (u : UserState). Holds (desk_schema desk) (desk_world desk) (desk_user desk) (desk_header desk) u c) (sym state_is)
            (images t (ap is_sealed (sym standing_is) ∙ served) c (subst (λ d. Disk.image d c) disk_is here))))));
      }
