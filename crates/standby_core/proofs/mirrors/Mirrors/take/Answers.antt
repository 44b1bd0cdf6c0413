use Rattle.std.proofs.Common.{◌≡◌, ◌∙◌, Some, refl, sym, ap, arith, length}
use Rattle.std.specs.Prelude.{bytes_eq, position, slice_set}
use Rattle.std.proofs.lemmas.Option.{IfSome_then}
use Rattle.standby_core.specs.Places.{new_in}
use Rattle.cqe_base.specs.Schema.{has_duplicate}
use Rattle.standby_core.specs.Slots.{slot_name, place_at}
use Rattle.standby_core.proofs.Slotting.{for_all, if_none, set_same, slot_set, made_set, made_there, no_slot}
use Rattle.standby_core.proofs.mirrors.Mirrors.take.Goals as goal

pub index_mut-slot-requires : goal.index_mut-slot-requires
index_mut-slot-requires g c = omega (arith, c.in-Some.ensures.within, ap length c.as_slice.ensures.value)

pub returns-in_default-clause-taken : goal.returns-in_default-clause-taken
returns-in_default-clause-taken g c =
    let name = c.args.name.now in
    let none = c.in_default.ensures.place ∙ ap (position (λ slot. bytes_eq (slot_name slot) name)) c.as_slice.ensures.value in
    sym (ap new_in (no_slot name c.args.self.now.slots.items none))

pub returns-clause-taken : goal.returns-clause-taken
returns-clause-taken g c =
    let name = c.args.name.now in
    let is = c.in-Some.ensures.place ∙ ap (position (λ slot. bytes_eq (slot_name slot) name)) c.as_slice.ensures.value in
    let set = slot_set name c.args.self.now.slots.items c.in-Some.place c.index_mut-slot.result.now c.take.new.self is c.index_mut-slot.ensures.value
    c.take.ensures.name in
    c.take.ensures.taken ∙ sym (ap new_in set.was)

pub returns-clause-out : goal.returns-clause-out
returns-clause-out g c =
    let name = c.args.name.now in
    let is = c.in-Some.ensures.place ∙ ap (position (λ slot. bytes_eq (slot_name slot) name)) c.as_slice.ensures.value in
    let set = slot_set name c.args.self.now.slots.items c.in-Some.place c.index_mut-slot.result.now c.take.new.self is c.index_mut-slot.ensures.value
    c.take.ensures.name in
    IfSome_then c.take.result c.take.ensures.out (λ mirror out. set.now ∙ ap Some out)

pub returns-clause-none : goal.returns-clause-none
returns-clause-none g c =
    let name = c.args.name.now in
    let is = c.in-Some.ensures.place ∙ ap (position (λ slot. bytes_eq (slot_name slot) name)) c.as_slice.ensures.value in
    let set = slot_set name c.args.self.now.slots.items c.in-Some.place c.index_mut-slot.result.now c.take.new.self is c.index_mut-slot.ensures.value
    c.take.ensures.name in
    if_none c.take.result c.take.ensures.none
    (λ same. for_all
    (λ one. place_at (slice_set c.args.self.now.slots.items c.in-Some.place c.take.new.self) one ≡ place_at c.args.self.now.slots.items one)
    name (set.now ∙ ap Some same ∙ sym set.was) set.others)

pub returns-clause-others : goal.returns-clause-others
returns-clause-others g c =
    let name = c.args.name.now in
    let is = c.in-Some.ensures.place ∙ ap (position (λ slot. bytes_eq (slot_name slot) name)) c.as_slice.ensures.value in
    (slot_set name c.args.self.now.slots.items c.in-Some.place c.index_mut-slot.result.now c.take.new.self is c.index_mut-slot.ensures.value
    c.take.ensures.name).others

-- the names stay, and how the mirrors were made
pub invariant_of-self : goal.invariant_of-self
invariant_of-self g c = record {
  distinct = ap has_duplicate (set_same slot_name c.args.self.now.slots.items c.in-Some.place c.index_mut-slot.result.now c.take.new.self
      c.index_mut-slot.ensures.value c.take.ensures.name) ∙ c.args.self.now.distinct;
}

pub returns-clause-made : goal.returns-clause-made
returns-clause-made g c =
    let name = c.args.name.now in
    let is = c.in-Some.ensures.place ∙ ap (position (λ slot. bytes_eq (slot_name slot) name)) c.as_slice.ensures.value in
    made_set g.C.Dial.name g.C.Dial.address name c.args.self.now.slots.items c.in-Some.place c.index_mut-slot.result.now c.take.new.self is
    c.index_mut-slot.ensures.value c.take.ensures.name c.take.ensures.made

pub returns-in_default-clause-made : goal.returns-in_default-clause-made
returns-in_default-clause-made g c = record { all = refl; each = λ wanted. refl }

pub returns-clause-own : goal.returns-clause-own
returns-clause-own g c =
    let name = c.args.name.now in
    let is = c.in-Some.ensures.place ∙ ap (position (λ slot. bytes_eq (slot_name slot) name)) c.as_slice.ensures.value in
    IfSome_then c.take.result c.take.ensures.own
    (λ mirror own. made_there g.C.Dial.name g.C.Dial.address name c.args.self.now.slots.items c.in-Some.place c.index_mut-slot.result.now is
    c.index_mut-slot.ensures.value ∙ ap Some (sym own))
