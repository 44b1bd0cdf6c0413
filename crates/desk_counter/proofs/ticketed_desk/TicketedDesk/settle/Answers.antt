use Rattle.std.proofs.Common.{ap, sym, ◌∙◌, subst, refl, ℕ, List, true, false, ◌≡◌, ◌++◌, ◌∷◌, [], length}
use Rattle.std.specs.Prelude.{◌↔◌, IsTrue, IfSome}
use Rattle.user_log.specs.declared.reply.Reply.TheVariants.{Broken}
use Rattle.user_log.specs.Examining.{IsExamined}
use Rattle.user_desk.specs.Desks.{desk_schema, desk_user, desk_history, desk_disk, entry_in_flight}
use Rattle.desk_counter.specs.Items.{pairs_of}
use Rattle.desk_counter.specs.Desks.{fixed_of}
use Rattle.desk_counter.specs.Asks.{Adds, wanted}
use Rattle.desk_counter.proofs.Settling.{not_mark}
use Rattle.desk_counter.proofs.DeskSettles.{broke_pairs, broken_adds, same_fixed, desk_changes, desk_adds_mark, desk_adds_broke, desk_adds_none, counted_mark}
use Rattle.desk_counter.proofs.DeskSettles.{counted_broke, counted_none, history_in, broken_stops, whole_stops}
use Rattle.desk_counter.proofs.ticketed_desk.TicketedDesk.settle.Goals as goal

pub settle-reply-requires-clause-examined : goal.settle-reply-requires-clause-examined
settle-reply-requires-clause-examined g c =
    let value = c.args.self.now in
    subst (λ h. IfSome c.args.examined (IsExamined (desk_schema value.desk) (desk_user value.desk) h c.args.text.now)) (history_in value)
    c.requires.examined

pub returns-then-broken-clause-adds : goal.returns-then-broken-clause-adds
returns-then-broken-clause-adds g c = broken_adds c.args.self.now c.args.ticket c.args.purpose c.args.text.now (sym c.broken.ensures
    ∙ c.if-broken.true) c.known.ensures.idle

pub returns-then-broken-clause-broken : goal.returns-then-broken-clause-broken
returns-then-broken-clause-broken g c =
    let value = c.args.self.now in (
      λ same. broke_pairs value.tickets.items (desk_history value.desk) value.broke (entry_in_flight value.desk) ∙ (sym c.broken.ensures ∙ c.if-broken.true),
      λ is. refl,
    )

pub returns-then-broken-clause-moments : goal.returns-then-broken-clause-moments
returns-then-broken-clause-moments g c told served c' here =
    let desk = c.args.self.now.desk in
    broken_stops desk c.args.purpose c.args.text.now (sym c.broken.ensures ∙ c.if-broken.true) c.known.ensures.idle c'
    (c.known.ensures.images told served c' (g.met.D.Disk.only_now (desk_disk desk) c' here))

pub returns-then-is_err-clause-moments : goal.returns-then-is_err-clause-moments
returns-then-is_err-clause-moments g c told served c' here =
    let desk = c.args.self.now.desk in
    whole_stops desk c.args.purpose c.args.text.now (sym c.broken.ensures ∙ c.if-broken.false) c'
    (c.known.ensures.images told served c' (g.met.D.Disk.only_now (desk_disk desk) c' here))

pub returns-then-is_err-clause-adds : goal.returns-then-is_err-clause-adds
returns-then-is_err-clause-adds g c =
    let value = c.args.self.now in
    wanted (ap (λ ts. pairs_of ts (desk_history value.desk) value.broke (entry_in_flight value.desk)) c.reserve.ensures.items)

pub returns-then-is_err-clause-broken : goal.returns-then-is_err-clause-broken
returns-then-is_err-clause-broken g c =
    let value = c.args.self.now in
    let whole = sym c.broken.ensures ∙ c.if-broken.false in (
      λ same. absurd cc,
      λ is. let e : false ≡ true =
          sym whole ∙ (sym (broke_pairs c.reserve.new.self.items (desk_history value.desk) value.broke (entry_in_flight value.desk)) ∙ is) in absurd cc,
    )

pub invariant_of-self-in-Mark : goal.invariant_of-self-in-Mark
invariant_of-self-in-Mark g c =
    let value = c.args.self.now in
    let whole = sym c.broken.ensures ∙ c.if-broken.false in
    let changed = desk_changes value.desk c.settle-reply.new.self c.args.purpose c.args.text.now c.settle-reply.result _ _ c.settle-reply.ensures.same
    c.settle-reply.ensures.settled c.known.ensures.none c.known-2.ensures.none whole c.known-2.ensures.idle in
    record {
      counted = ap length (c.push_reserved.ensures.items ∙ ap (λ ts. ts ++ c.args.ticket ∷ []) c.reserve.ensures.items)
          ∙ counted_mark value.desk c.settle-reply.new.self value.tickets.items value.broke c.args.ticket c.args.purpose c.args.text.now value.counted whole
          (rw c.in-Mark.is at changed);
    }

pub invariant_of-self-in-Broken : goal.invariant_of-self-in-Broken
invariant_of-self-in-Broken g c =
    let value = c.args.self.now in
    let whole = sym c.broken.ensures ∙ c.if-broken.false in
    let changed = desk_changes value.desk c.settle-reply.new.self c.args.purpose c.args.text.now c.settle-reply.result _ _ c.settle-reply.ensures.same
    c.settle-reply.ensures.settled c.known.ensures.none c.known-2.ensures.none whole c.known-2.ensures.idle in
    record {
      counted =
          ap length c.reserve.ensures.items
          ∙ counted_broke value.desk c.settle-reply.new.self value.tickets.items value.broke c.args.ticket c.args.purpose c.args.text.now value.counted whole
          (rw c.in-Broken.is at changed);
    }

pub invariant_of-self-in_default : goal.invariant_of-self-in_default
invariant_of-self-in_default g c =
    let value = c.args.self.now in
    let whole = sym c.broken.ensures ∙ c.if-broken.false in
    let changed = desk_changes value.desk c.settle-reply.new.self c.args.purpose c.args.text.now c.settle-reply.result _ _ c.settle-reply.ensures.same
    c.settle-reply.ensures.settled c.known.ensures.none c.known-2.ensures.none whole c.known-2.ensures.idle in
    record {
      counted = ap length c.reserve.ensures.items
          ∙ counted_none value.desk c.settle-reply.new.self value.tickets.items value.broke c.args.ticket c.args.purpose c.args.text.now value.counted whole
          (not_mark c.settle-reply.result c.in_default.not-Mark) changed;
    }

pub returns-in-Mark-clause-adds : goal.returns-in-Mark-clause-adds
returns-in-Mark-clause-adds g c =
    let value = c.args.self.now in
    let new = c.settle-reply.new.self in
    let whole = sym c.broken.ensures ∙ c.if-broken.false in
    let changed = desk_changes value.desk new c.args.purpose c.args.text.now c.settle-reply.result _ _ c.settle-reply.ensures.same
    c.settle-reply.ensures.settled c.known.ensures.none c.known-2.ensures.none whole c.known-2.ensures.idle in
    let adds = desk_adds_mark value.desk new value.tickets.items value.broke c.args.ticket c.args.purpose c.args.text.now value.counted whole
    (rw c.in-Mark.is at changed) in
    let pushed = c.push_reserved.ensures.items ∙ ap (λ (ts : List ℕ). ts ++ c.args.ticket ∷ []) c.reserve.ensures.items in
    let before = pairs_of value.tickets.items (desk_history value.desk) value.broke (entry_in_flight value.desk) in
    subst (λ (ts : List ℕ).
    Adds (fixed_of value.desk) c.args.ticket c.args.purpose c.args.text.now before
    (pairs_of ts (desk_history new) value.broke (entry_in_flight new)) c.settle-reply.result) (sym pushed)
    (subst (λ r. Adds (fixed_of value.desk) c.args.ticket c.args.purpose c.args.text.now before
    (pairs_of (value.tickets.items ++ c.args.ticket ∷ []) (desk_history new) value.broke (entry_in_flight new)) r) (sym c.in-Mark.is) adds)

pub returns-in-Mark-clause-broken : goal.returns-in-Mark-clause-broken
returns-in-Mark-clause-broken g c =
    subst (λ b. (c.settle-reply.result ≡ Broken) ↔ IsTrue b)
    (sym (broke_pairs c.push_reserved.new.self.items (desk_history c.settle-reply.new.self) c.args.self.now.broke
    (entry_in_flight c.settle-reply.new.self))) c.settle-reply.ensures.broken

pub returns-in-Mark-clause-moments : goal.returns-in-Mark-clause-moments
returns-in-Mark-clause-moments g c = c.settle-reply.ensures.moments

pub returns-in-Broken-clause-adds : goal.returns-in-Broken-clause-adds
returns-in-Broken-clause-adds g c =
    let value = c.args.self.now in
    let new = c.settle-reply.new.self in
    let whole = sym c.broken.ensures ∙ c.if-broken.false in
    let changed = desk_changes value.desk new c.args.purpose c.args.text.now c.settle-reply.result _ _ c.settle-reply.ensures.same
    c.settle-reply.ensures.settled c.known.ensures.none c.known-2.ensures.none whole c.known-2.ensures.idle in
    let adds = desk_adds_broke value.desk new value.tickets.items value.broke c.args.ticket c.args.purpose c.args.text.now value.counted whole
    (c.settle-reply.ensures.broken.0 c.in-Broken.is) (rw c.in-Broken.is at changed) in
    let before = pairs_of value.tickets.items (desk_history value.desk) value.broke (entry_in_flight value.desk) in
    subst (λ (ts : List ℕ).
    Adds (fixed_of value.desk) c.args.ticket c.args.purpose c.args.text.now before
    (pairs_of ts (desk_history new) c.args.ticket (entry_in_flight new)) c.settle-reply.result) (sym c.reserve.ensures.items)
    (subst (λ r. Adds (fixed_of value.desk) c.args.ticket c.args.purpose c.args.text.now before
    (pairs_of value.tickets.items (desk_history new) c.args.ticket (entry_in_flight new)) r) (sym c.in-Broken.is) adds)

pub returns-in-Broken-clause-broken : goal.returns-in-Broken-clause-broken
returns-in-Broken-clause-broken g c =
    subst (λ b. (c.settle-reply.result ≡ Broken) ↔ IsTrue b)
    (sym (broke_pairs c.reserve.new.self.items (desk_history c.settle-reply.new.self) c.args.ticket (entry_in_flight c.settle-reply.new.self)))
    c.settle-reply.ensures.broken

pub returns-in-Broken-clause-moments : goal.returns-in-Broken-clause-moments
returns-in-Broken-clause-moments g c = c.settle-reply.ensures.moments

pub returns-in_default : goal.returns-in_default
returns-in_default g c =
    let value = c.args.self.now in
    let new = c.settle-reply.new.self in
    let whole = sym c.broken.ensures ∙ c.if-broken.false in
    let changed = desk_changes value.desk new c.args.purpose c.args.text.now c.settle-reply.result _ _ c.settle-reply.ensures.same
    c.settle-reply.ensures.settled c.known.ensures.none c.known-2.ensures.none whole c.known-2.ensures.idle in
    let adds = desk_adds_none value.desk new value.tickets.items value.broke c.args.ticket c.args.purpose c.args.text.now value.counted whole
    (not_mark c.settle-reply.result c.in_default.not-Mark) c.in_default.not-Broken changed in
    record {
      fixed = same_fixed value.desk new c.settle-reply.ensures.same c.settle-reply.ensures.opening;
      adds = subst
          (λ ts. Adds (fixed_of value.desk) c.args.ticket c.args.purpose c.args.text.now
          (pairs_of value.tickets.items (desk_history value.desk) value.broke (entry_in_flight value.desk))
          (pairs_of ts (desk_history new) value.broke (entry_in_flight new)) c.settle-reply.result)
          (sym c.reserve.ensures.items) adds;
      broken = subst (λ b. (c.settle-reply.result ≡ Broken) ↔ IsTrue b)
          (sym (broke_pairs c.reserve.new.self.items (desk_history new) value.broke (entry_in_flight new))) c.settle-reply.ensures.broken;
      untouched = c.settle-reply.ensures.untouched;
      still_broken = c.settle-reply.ensures.still_broken;
      moments = c.settle-reply.ensures.moments;
    }
