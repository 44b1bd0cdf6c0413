use Rattle.std.proofs.Common.{◌++◌, List, map, length, sym, ap, subst, ◌∙◌, arith, append-nil}
use Rattle.std.specs.Prelude.{string_bytes}
use Rattle.std.proofs.lemmas.List.{take_all}
use Rattle.cqe_base.specs.Schema.{has_duplicate}
use Rattle.cqe_base.specs.declared.user.User.{User}
use Rattle.log_journal.specs.Names.{journal_name}
use Rattle.outside.specs.Dials.{Exchange}
use Rattle.standby_core.specs.Places.{IsUnused}
use Rattle.standby_core.specs.Slots.{slot_name, slot_texts, AreUnused}
use Rattle.standby_core.specs.Users.{texts_for}
use Rattle.standby_core.proofs.Keeping.{keeps_all, keeps_then, calls_all, calls_then}
use Rattle.standby_core.proofs.Making.{all_more, each_more, own_journals, all_there, all_silent, all_faultless, none_failed, none_exchanged}
use Rattle.standby_core.proofs.dialling.mirrors_for.Goals as goal

pub returns-in_err-reserve-clause-doors : goal.returns-in_err-reserve-clause-doors
returns-in_err-reserve-clause-doors g c = keeps_all g.L.Links c.args.links.now

pub returns-in_err-reserve-clause-calls : goal.returns-in_err-reserve-clause-calls
returns-in_err-reserve-clause-calls g c = calls_all g.L.Links c.args.links.now

pub loop-user-init : goal.loop-user-init
loop-user-init g c =
    let empty = c.in_ok-reserve.ensures.items ∙ c.new-slots.ensures.items in
    let none = ap length c.new-slots.ensures.items in
    record {
      made = ap (map (slot_texts g.L.Dial.Dial.name g.L.Dial.Dial.address)) empty;
      names = ap (map slot_name) empty;
      unused = subst (AreUnused g.L.Dial.Dial.tells g.L.Dial.Dial.faults g.L.Dial.Dial.exchanged) (sym empty) tt;
      count = omega (arith, c.reserve.new.self.ok.0, ap length c.in_ok-reserve.ensures.items, none);
      room = omega (arith, c.in_ok-reserve.ensures.ok);
      dialling = omega arith;
      calls = calls_all g.L.Links c.args.links.now;
      doors = keeps_all g.L.Links c.args.links.now;
    }

pub loop-user-preserved : goal.loop-user-preserved
loop-user-preserved g c =
    let before = c.loop-user.invariant in
    let one = c.in-Ok.ensures in
    let added = c.push_reserved.ensures.items in
    let dialled = one.dialling in
    record {
      made = each_more (slot_texts g.L.Dial.Dial.name g.L.Dial.Dial.address) (texts_for c.args.header.now c.args.address.now c.args.directory.now)
          c.loop-user.slots.items c.push_reserved.new.self.items c.in-Ok.slot c.args.users.now c.loop-user.user-index c.user-item.result added one.made
          c.loop-user-test.true c.user-item.is before.made;
      names = each_more slot_name (λ (u : User). journal_name c.args.directory.now (string_bytes u.name)) c.loop-user.slots.items
          c.push_reserved.new.self.items c.in-Ok.slot c.args.users.now c.loop-user.user-index c.user-item.result added one.name c.loop-user-test.true
          c.user-item.is before.names;
      unused = subst (AreUnused g.L.Dial.Dial.tells g.L.Dial.Dial.faults g.L.Dial.Dial.exchanged) (sym added)
          (all_more (λ s. IsUnused g.L.Dial.Dial.tells g.L.Dial.Dial.faults g.L.Dial.Dial.exchanged s.place) c.loop-user.slots.items c.in-Ok.slot before.unused
          one.unused);
      count = omega (arith, before.count, c.push_reserved.ensures.len);
      room = omega (arith, before.room, c.push_reserved.ensures.capacity);
      dialling = omega (arith, before.dialling, dialled);
      calls = calls_then g.L.Links c.args.links.now c.loop-user.links c.slot_for.new.links before.calls c.slot_for.ensures.calls;
      doors = keeps_then g.L.Links c.args.links.now c.loop-user.links c.slot_for.new.links before.doors c.slot_for.ensures.doors;
    }

-- ---- memory was wanting, and those so far are hung up

pub hang_up_slots-requires-after_bounds : goal.hang_up_slots-requires-after_bounds
hang_up_slots-requires-after_bounds g c κs within =
    let before = c.loop-user.invariant in
    let there = all_there g.L.Dial.Dial.tells g.L.Dial.Dial.faults g.L.Dial.Dial.exchanged c.loop-user.slots.items before.unused in
    let len = c.loop-user.slots.ok.0 in
    let same = c.in-Err.ensures.none in
    omega (arith, before.dialling, before.count, there, len, same)

pub returns-in-Err-clause-none : goal.returns-in-Err-clause-none
returns-in-Err-clause-none g c =
    let before = c.loop-user.invariant in
    let there = all_there g.L.Dial.Dial.tells g.L.Dial.Dial.faults g.L.Dial.Dial.exchanged c.loop-user.slots.items before.unused in
    let len = c.loop-user.slots.ok.0 in
    let same = c.in-Err.ensures.none in
    let hung = c.hang_up_slots.ensures.dialling in
    omega (arith, before.dialling, before.count, there, len, same, hung)

pub returns-in-Err-clause-calls : goal.returns-in-Err-clause-calls
returns-in-Err-clause-calls g c =
    let before = c.loop-user.invariant in
    let so_far = calls_then g.L.Links c.args.links.now c.loop-user.links c.slot_for.new.links before.calls c.slot_for.ensures.calls in
    let hung = c.hang_up_slots.ensures in
    record {
      exchanged = λ told.
          hung.exchanged told
          ∙ ap (λ (l : List Exchange). g.L.Links.exchanged c.slot_for.new.links ++ l)
          (all_silent g.L.Dial.Dial.tells g.L.Dial.Dial.faults g.L.Dial.Dial.exchanged (g.met.L.Links.tells_dials told) c.loop-user.slots.items before.unused)
          ∙ append-nil (g.L.Links.exchanged c.slot_for.new.links) ∙ so_far.exchanged told;
      exchange_faults = λ name.
          let more = hung.exchange_faults name in
          let none = all_faultless g.L.Dial.Dial.tells g.L.Dial.Dial.faults g.L.Dial.Dial.exchanged c.loop-user.slots.items before.unused name in
          let same = so_far.exchange_faults name in
          omega (arith, more, none, same);
    }

pub returns-in-Err-clause-doors : goal.returns-in-Err-clause-doors
returns-in-Err-clause-doors g c =
    keeps_then g.L.Links c.args.links.now c.slot_for.new.links c.hang_up_slots.new.links
    (keeps_then g.L.Links c.args.links.now c.loop-user.links c.slot_for.new.links c.loop-user.invariant.doors c.slot_for.ensures.doors)
    c.hang_up_slots.ensures.doors

-- ---- all were made

pub invariant_of-result : goal.invariant_of-result
invariant_of-result g c =
    let all = take_all c.loop-user.user-index c.args.users.now (omega (arith, c.loop-user-test.false)) in
    record {
      distinct = ap has_duplicate (c.loop-user.invariant.names ∙ ap (map (λ (u : User). journal_name c.args.directory.now (string_bytes u.name))) all)
          ∙ own_journals c.args.directory.now c.law_journals_differ.ensures c.args.users.now ∙ c.requires;
    }

pub returns-clause-made : goal.returns-clause-made
returns-clause-made g c =
    let all = take_all c.loop-user.user-index c.args.users.now (omega (arith, c.loop-user-test.false)) in
    c.loop-user.invariant.made ∙ ap (map (texts_for c.args.header.now c.args.address.now c.args.directory.now)) all

pub returns-clause-fresh : goal.returns-clause-fresh
returns-clause-fresh g c name =
    none_failed g.L.Dial.Dial.tells g.L.Dial.Dial.faults g.L.Dial.Dial.exchanged c.loop-user.slots.items c.loop-user.invariant.unused name

pub returns-clause-dialling : goal.returns-clause-dialling
returns-clause-dialling g c =
    let so_far = c.loop-user.invariant in
    let dialled = so_far.dialling in
    let count = so_far.count in
    let len = c.loop-user.slots.ok.0 in
    omega (arith, dialled, count, len)

pub returns-clause-silent : goal.returns-clause-silent
returns-clause-silent g c told name =
    none_exchanged g.L.Dial.Dial.tells g.L.Dial.Dial.faults g.L.Dial.Dial.exchanged told c.loop-user.slots.items c.loop-user.invariant.unused name
