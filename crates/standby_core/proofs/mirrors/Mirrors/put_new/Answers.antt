use Rattle.std.proofs.Common.{◌∙◌, Some, refl, sym, ap, arith, length}
use Rattle.std.specs.Prelude.{bytes_eq, position}
use Rattle.std.proofs.lemmas.Option.{same_Some}
use Rattle.cqe_base.specs.Schema.{has_duplicate}
use Rattle.standby_core.specs.Slots.{slot_name}
use Rattle.standby_core.proofs.Slotting.{no_place, set_same, slot_set, made_set, made_there}
use Rattle.standby_core.proofs.mirrors.Mirrors.put_new.Goals as goal

pub index_mut-slot-requires : goal.index_mut-slot-requires
index_mut-slot-requires g c = omega (arith, c.in-Some.ensures.within, ap length c.as_slice.ensures.value)

pub returns-clause-put : goal.returns-clause-put
returns-clause-put g c =
    let name = c.args.name.now in
    let is = c.in-Some.ensures.place ∙ ap (position (λ slot. bytes_eq (slot_name slot) name)) c.as_slice.ensures.value in
    (slot_set name c.args.self.now.slots.items c.in-Some.place c.index_mut-slot.result.now c.put_new.new.self is c.index_mut-slot.ensures.value
    c.put_new.ensures.name).now ∙ ap Some c.put_new.ensures.put

pub returns-clause-others : goal.returns-clause-others
returns-clause-others g c =
    let name = c.args.name.now in
    let is = c.in-Some.ensures.place ∙ ap (position (λ slot. bytes_eq (slot_name slot) name)) c.as_slice.ensures.value in
    (slot_set name c.args.self.now.slots.items c.in-Some.place c.index_mut-slot.result.now c.put_new.new.self is c.index_mut-slot.ensures.value
    c.put_new.ensures.name).others

-- there is a place of this name
pub returns-in_default-clause-put : goal.returns-in_default-clause-put
returns-in_default-clause-put g c =
    let name = c.args.name.now in
    let none = c.in_default.ensures.place ∙ ap (position (λ slot. bytes_eq (slot_name slot) name)) c.as_slice.ensures.value in
    absurd (no_place name c.args.self.now.slots.items none c.requires.there)

-- the names stay, and how the mirrors were made
pub invariant_of-self : goal.invariant_of-self
invariant_of-self g c = record {
  distinct = ap has_duplicate (set_same slot_name c.args.self.now.slots.items c.in-Some.place c.index_mut-slot.result.now c.put_new.new.self
      c.index_mut-slot.ensures.value c.put_new.ensures.name) ∙ c.args.self.now.distinct;
}

pub returns-clause-made : goal.returns-clause-made
returns-clause-made g c =
    let name = c.args.name.now in
    let is = c.in-Some.ensures.place ∙ ap (position (λ slot. bytes_eq (slot_name slot) name)) c.as_slice.ensures.value in
    made_set g.C.Dial.name g.C.Dial.address name c.args.self.now.slots.items c.in-Some.place c.index_mut-slot.result.now c.put_new.new.self is
    c.index_mut-slot.ensures.value c.put_new.ensures.name c.put_new.ensures.made

pub put_new-requires-clause-own : goal.put_new-requires-clause-own
put_new-requires-clause-own g c =
    let name = c.args.name.now in
    let is = c.in-Some.ensures.place ∙ ap (position (λ slot. bytes_eq (slot_name slot) name)) c.as_slice.ensures.value in
    same_Some _ _ (sym c.requires.own ∙ made_there g.C.Dial.name g.C.Dial.address name c.args.self.now.slots.items c.in-Some.place
    c.index_mut-slot.result.now is c.index_mut-slot.ensures.value)

pub returns-in_default-clause-made : goal.returns-in_default-clause-made
returns-in_default-clause-made g c = record { all = refl; each = λ wanted. refl }
