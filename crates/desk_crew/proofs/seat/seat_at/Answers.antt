use Rattle.std.proofs.Common.{ap, sym, ◌∙◌, subst}
use Rattle.log_journal.specs.Opening.{header_bytes}
use Rattle.user_desk.specs.Desks.{desk_disk}
use Rattle.desk_crew.specs.Crew.{first_refusal, IsLeftOpen}
use Rattle.desk_crew.proofs.Seated.{opened_seat}
use Rattle.desk_crew.proofs.seat.seat_at.Goals as goal

pub returns-in-Ok-new-clause-opened : goal.returns-in-Ok-new-clause-opened
returns-in-Ok-new-clause-opened g c =
    let at = c.in-Ok.ensures in
    let put = c.in-Ok-new.ensures in
    opened_seat c.args.registry.now.schema.now c.args.registry.now.world.now
    (header_bytes c.args.registry.now.header.now) g.D.Disk c.in-Ok.desk _ put.kept put.history
    put.in_flight put.first put.mine put.turns c.args.disk c.args.before
    at.schema at.world at.user at.header c.requires.admission at.standing at.restarted at.whole at.opening.0 at.opening.1 (c.first_refusal-refusal.ensures
    ∙ ap (first_refusal c.args.before) c.standing.ensures) c.known.ensures.images c.known.ensures.legal c.known.ensures.sizes

pub returns-in-Err-new-clause-left : goal.returns-in-Err-new-clause-left
returns-in-Err-new-clause-left g c =
    let at = c.in-Ok.ensures in
    let same = c.close.ensures ∙ ap desk_disk c.in-Err-new.ensures.err in
    subst (λ disk. IsLeftOpen g.D.Disk c.args.disk disk) (sym same) (record {
      reads_same = at.reads;
      images = at.images;
      later = at.count;
      comes = at.origin;
      still_told = at.still_told;
      there = at.heard;
      time = at.time;
      rests = at.moments;
    })
