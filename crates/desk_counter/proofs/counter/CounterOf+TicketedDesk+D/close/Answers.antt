use Rattle.std.proofs.Common.{ap, sym, ◌∙◌, subst, ◌≡◌, ◌≤◌, length}
use Rattle.outside.specs.Disk.{Elapses}
use Rattle.cqe_base.specs.History.{History}
use Rattle.log_journal.specs.Walk.{AreThere}
use Rattle.user_desk.specs.Standings.{is_sealed}
use Rattle.user_desk.specs.declared.desk.Desk.{Desk}
use Rattle.user_desk.specs.Desks.{desk_history, desk_disk, entry_in_flight}
use Rattle.turnstile.specs.Passes.{seen}
use Rattle.desk_counter.specs.declared.item.Fixed.{Fixed}
use Rattle.desk_counter.specs.Items.{history_of, flying, items_of, items_with}
use Rattle.desk_counter.specs.Desks.{fixed_of}
use Rattle.desk_counter.specs.Tickets.{fixed_in}
use Rattle.desk_counter.specs.Counters.{kept_by}
use Rattle.desk_counter.proofs.Asking.{one_fixed}
use Rattle.desk_counter.proofs.DeskSettles.{history_in, flying_in, items_in}
use Rattle.desk_counter.proofs.Closing.{closed_legal, closed_sizes, closed_whole, closed_images, closed_since, closed_cause, closed_size, closed_idle}
use Rattle.desk_counter.proofs.Closing.{closed_still}
use Rattle.desk_counter.proofs.counter.CounterOf+TicketedDesk+D.close.Goals as goal

pub returns-clause-history : goal.returns-clause-history
returns-clause-history g c =
    ap (λ (d : Desk g.row.D.Denot g.D.Disk). desk_history d) c.into_desk-desk.ensures ∙ sym (history_in c.close.result)
    ∙ ap (λ ps. history_of ps) c.close.ensures.entries

pub returns-clause-in_flight : goal.returns-clause-in_flight
returns-clause-in_flight g c =
    ap (λ (d : Desk g.row.D.Denot g.D.Disk). entry_in_flight d) c.into_desk-desk.ensures ∙ sym (flying_in c.close.result)
    ∙ ap (λ ps. flying ps) c.close.ensures.entries

pub returns-clause-kept : goal.returns-clause-kept
returns-clause-kept g c =
    ap (λ (d : Desk g.row.D.Denot g.D.Disk). fixed_of d) c.into_desk-desk.ensures
    ∙ one_fixed _ (fixed_in c.close.result) (kept_by c.args.self) c.close.ensures.fixed c.requires.pass.kept

pub returns-clause-whole : goal.returns-clause-whole
returns-clause-whole g c =
    closed_whole c.into_desk-desk.result (kept_by c.args.self) (seen c.args.pass) (returns-clause-kept g c) (returns-clause-history g c)
    (returns-clause-in_flight g c) g.D.Disk c.known.ensures.whole

pub returns-clause-closed : goal.returns-clause-closed
returns-clause-closed g c =
    let desk = c.into_desk-desk.result in
    let kept : Fixed g.row.D.Denot = kept_by c.args.self in
    let pairs = seen c.args.pass in
    let same = returns-clause-kept g c in
    let history = returns-clause-history g c in
    let flies = returns-clause-in_flight g c in
    let known = c.known.ensures in
    record {
      holds = closed_images desk kept pairs same history flies g.D.Disk known.images;
      legal = closed_legal desk kept pairs same history flies known.legal;
      sizes = closed_sizes desk kept pairs same history flies known.sizes;
      added = sym c.close.ensures.entries ∙ c.close.ensures.added;
      items = subst (λ ps. items_of ps ≡ items_with (history_of ps) (flying ps)) c.close.ensures.entries (items_in c.close.result);
      idle = closed_idle desk kept pairs same history flies known.none known.idle;
      later = subst (λ (f : Fixed g.row.D.Denot). g.D.Disk.faults f.disk ≤ g.D.Disk.faults (desk_disk desk)) same known.count;
      cause = closed_cause desk kept pairs same history flies g.D.Disk known.cause;
      size = closed_size desk kept pairs same history flies g.D.Disk known.size;
      told = λ tells. subst (λ (h : History). length h ≤ g.D.Disk.tellable (desk_disk desk)) history (known.told tells);
      shut = λ sealed.
          known.refused (ap (λ (f : Fixed g.row.D.Denot). is_sealed f.standing) same ∙ sealed) ∙ ap (λ (f : Fixed g.row.D.Denot). f.disk) same;
      still = λ opened. closed_still desk kept pairs same history flies known.begins known.still opened.count opened.none;
      since = closed_since desk kept pairs same history flies g.D.Disk known.begins known.since;
      comes = known.origin ∙ ap (λ (f : Fixed g.row.D.Denot). g.D.Disk.origin f.disk) same;
      there = λ tells. subst (λ (f : Fixed g.row.D.Denot). AreThere (g.D.Disk.heard f.disk) (g.D.Disk.reads f.disk)
          → AreThere (g.D.Disk.heard (desk_disk desk)) (g.D.Disk.reads (desk_disk desk))) same (known.heard tells);
      time = subst (λ (f : Fixed g.row.D.Denot). Elapses (g.D.Disk.moment f.disk) (g.D.Disk.moment (desk_disk desk))
          (g.D.Disk.image_since f.disk) (g.D.Disk.image_since (desk_disk desk))) same known.time;
    }
