use Rattle.std.proofs.Common.{◌++◌, [], List, Some, refl, sym, ap, ◌∙◌, arith, append_assoc, append-nil}
use Rattle.std.specs.Prelude.{option_to_list}
use Rattle.outside.proofs.Dials.{faults_more}
use Rattle.outside.specs.Dials.{Exchange}
use Rattle.standby_core.proofs.Keeping.{keeps_all, keeps_then}
use Rattle.standby_core.proofs.Hanging.{there_last, no_slots, exchanged_last, one_hung_up}
use Rattle.standby_core.specs.Places.{faults_in, exchanged_in}
use Rattle.standby_core.specs.Slots.{slot_name, faults_of, there_among, exchanged_among}
use Rattle.standby_core.specs.declared.slot.Slot.{Slot}
use Rattle.standby_core.proofs.dialling.hang_up_slots.Goals as goal

pub loop-slot-init : goal.loop-slot-init
loop-slot-init g c = record {
  gone = [];
  parts = refl;
  exchanged = λ told. sym (append-nil (g.L.Links.exchanged c.args.links.now));
  dialling = refl;
  exchange_faults = λ name. refl;
  doors = keeps_all g.L.Links c.args.links.now;
}

pub hang_up-requires-after_bounds : goal.hang_up-requires-after_bounds
hang_up-requires-after_bounds g c κs within =
    let split = c.pop.ensures.items ∙ ap (λ o. c.pop.new.self.items ++ option_to_list o) c.in-Some.is in
    let last = there_last c.pop.new.self.items c.in-Some.slot c.loop-slot.slots.items split in
    let so_far = c.loop-slot.invariant.dialling in
    omega (arith, c.requires, last, so_far)

pub loop-slot-preserved : goal.loop-slot-preserved
loop-slot-preserved g c =
    let split = c.pop.ensures.items ∙ ap (λ o. c.pop.new.self.items ++ option_to_list o) c.in-Some.is in
    let before = c.loop-slot.invariant in
    let hung = c.hang_up.ensures in
    let last = there_last c.pop.new.self.items c.in-Some.slot c.loop-slot.slots.items split in
    let so_far = before.dialling in
    let one = hung.dialling in
    record {
      gone = before.gone ++ exchanged_in g.L.Dial.Dial.exchanged c.in-Some.slot.place;
      parts = exchanged_last g.L.Dial.Dial.exchanged c.pop.new.self.items c.in-Some.slot c.loop-slot.slots.items
          (exchanged_among g.L.Dial.Dial.exchanged c.args.slots.items) before.gone split before.parts;
      exchanged = λ told.
          hung.exchanged told
          ∙ ap (λ (l : List Exchange). l ++ exchanged_in g.L.Dial.Dial.exchanged c.in-Some.slot.place) (before.exchanged told)
          ∙ append_assoc (g.L.Links.exchanged c.args.links.now) before.gone (exchanged_in g.L.Dial.Dial.exchanged c.in-Some.slot.place);
      dialling = omega (arith, last, so_far, one);
      exchange_faults = λ name.
          let both = faults_more slot_name (λ (s : Slot _ _). faults_in g.L.Dial.Dial.faults (Some s.place)) c.pop.new.self.items c.loop-slot.slots.items
          c.in-Some.slot split name in
          let earlier = before.exchange_faults name in
          let here = one_hung_up g.L.Dial.Dial.faults (g.L.Links.exchange_faults c.loop-slot.links) (g.L.Links.exchange_faults c.hang_up.new.links)
          c.in-Some.slot hung.exchange_faults hung.other_faults name in
          omega (arith, both, earlier, here);
      doors = keeps_then g.L.Links c.args.links.now c.loop-slot.links c.hang_up.new.links before.doors hung.doors;
    }

pub returns-clause-dialling : goal.returns-clause-dialling
returns-clause-dialling g c =
    let len = c.loop-slot.slots.ok.0 in
    let none = c.in_default.ensures.cases.0 in
    let empty = ap there_among (no_slots c.loop-slot.slots.items (omega (arith, len, none))) in
    let so_far = c.loop-slot.invariant.dialling in
    omega (arith, empty, so_far)

pub returns-clause-exchange_faults : goal.returns-clause-exchange_faults
returns-clause-exchange_faults g c name =
    let len = c.loop-slot.slots.ok.0 in
    let none = c.in_default.ensures.cases.0 in
    let empty = ap (λ (l : List (Slot _ _)). faults_of g.L.Dial.Dial.faults l name) (no_slots c.loop-slot.slots.items (omega (arith, len, none))) in
    let so_far = c.loop-slot.invariant.exchange_faults name in
    omega (arith, empty, so_far)

pub returns-clause-exchanged : goal.returns-clause-exchanged
returns-clause-exchanged g c told =
    let len = c.loop-slot.slots.ok.0 in
    let none = c.in_default.ensures.cases.0 in
    let so_far = c.loop-slot.invariant in
    let all = so_far.parts
    ∙ ap (λ (l : List (Slot _ _)). so_far.gone ++ exchanged_among g.L.Dial.Dial.exchanged l) (no_slots c.loop-slot.slots.items (omega (arith, len, none)))
    ∙ append-nil so_far.gone in
    so_far.exchanged told ∙ ap (λ (l : List Exchange). g.L.Links.exchanged c.args.links.now ++ l) (sym all)
