use Rattle.std.proofs.Common.{◌≡◌, refl, sym, ap, ◌∙◌, ◌++◌, ◌∷◌, [], append_assoc, arith}
use Rattle.std.specs.Prelude.{option_to_list}
use Rattle.outside.specs.Shelf.{Lent}
use Rattle.desk_crew.specs.Crew.{seat_journal, seat_disk}
use Rattle.desk_crew.specs.Seats.{DeskSeat}
use Rattle.desk_crew.specs.Shelved.{IsBack}
use Rattle.desk_crew.proofs.Shelving.{given_none, given_out, given_more, all_second, back_moves, back_closed, broke_none, broke_all, broke_more}
use Rattle.desk_crew.proofs.crew.give_back.Goals as goal

pub loop-seat-init : goal.loop-seat-init
loop-seat-init g c = record {
  so_far = given_none seat_journal (IsBack g.F.Shelf.tells g.F.D.Disk) _ _ _ _;
  faults = refl;
  looked = refl;
  lent = refl;
  files = λ name. refl;
  broke = broke_none c.args.seats.items;
}

pub give_disk-requires-clause-out : goal.give_disk-requires-clause-out
give_disk-requires-clause-out g c =
    let split = c.pop.ensures.items ∙ ap (λ o. c.pop.new.self.items ++ option_to_list o) c.in-Some.is in
    ap (g.F.Shelf.is_out c.loop-seat.shelf) c.as_str.ensures.value
    ∙ given_out seat_journal (IsBack g.F.Shelf.tells g.F.D.Disk) _ _ _ _ (λ (s : DeskSeat _ _ _). g.F.D.Disk.faults (seat_disk s)) c.requires.distinct
    c.requires.out c.requires.later c.pop.new.self.items c.loop-seat.seats.items c.in-Some.seat _ _ _ split c.loop-seat.invariant.so_far

-- the disk of a desk that is closed is that of its journal's name
pub give_disk-requires-clause-own : goal.give_disk-requires-clause-own
give_disk-requires-clause-own g c =
    let split = c.pop.ensures.items ∙ ap (λ o. c.pop.new.self.items ++ option_to_list o) c.in-Some.is in
    let given = c.loop-seat.invariant.so_far.given in
    let known = (g.F.Shelf.lent c.args.shelf.now).origin in
    let own = all_second (λ (s : DeskSeat _ _ _). g.F.D.Disk.origin (seat_disk s) ≡ known (seat_journal s)) c.pop.new.self.items c.in-Some.seat given
    c.args.seats.items
    (c.loop-seat.invariant.so_far.split ∙ ap (λ l. l ++ given) split ∙ append_assoc c.pop.new.self.items (c.in-Some.seat ∷ []) given) c.requires.own in
    c.close_desk-disk.ensures.closed.comes ∙ own ∙ ap known (sym c.as_str.ensures.value)
    ∙ ap (λ (l : Lent). l.origin c.as_str.result.now) (sym c.loop-seat.invariant.lent)

pub loop-seat-preserved : goal.loop-seat-preserved
loop-seat-preserved g c =
    let split = c.pop.ensures.items ∙ ap (λ o. c.pop.new.self.items ++ option_to_list o) c.in-Some.is in
    let given = c.give_disk.ensures in
    record {
      so_far = given_more seat_journal (IsBack g.F.Shelf.tells g.F.D.Disk) _ _ _ _ (λ (s : DeskSeat _ _ _). g.F.D.Disk.faults (seat_disk s))
          c.requires.distinct c.requires.out c.requires.later (back_moves g.F.Shelf.tells g.F.D.Disk) c.pop.new.self.items c.loop-seat.seats.items
          c.in-Some.seat _ _ _ _ _ _ c.as_str.result.now c.as_str.ensures.value split c.loop-seat.invariant.so_far
          (back_closed g.F.Shelf.tells g.F.D.Disk g.met.F.D.Disk.counts_now g.met.F.D.Disk.only_now _ _ c.in-Some.seat c.close_desk-disk.result.0
          c.close_desk-disk.ensures.closed c.as_str.result.now c.as_str.ensures.value (λ told. given.held told) given.count) given.disks given.back
          given.others_out given.other_counts;
      faults = given.faults ∙ c.loop-seat.invariant.faults;
      looked = given.looked ∙ c.loop-seat.invariant.looked;
      lent = given.lent ∙ c.loop-seat.invariant.lent;
      files = λ name. given.files name ∙ c.loop-seat.invariant.files name;
      broke = broke_more c.pop.new.self.items c.in-Some.seat c.loop-seat.seats.items _ _ c.loop-seat.is_broken split c.loop-seat.invariant.broke
          c.close_desk-disk.ensures.broke;
    }

pub returns-clause-broke : goal.returns-clause-broke
returns-clause-broke g c =
    let len = c.loop-seat.seats.ok.0 in
    let none = c.in_default.ensures.cases.0 in
    broke_all c.loop-seat.seats.items _ c.loop-seat.is_broken (omega (arith, len, none)) c.loop-seat.invariant.broke
