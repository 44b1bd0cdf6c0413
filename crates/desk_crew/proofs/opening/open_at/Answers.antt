use Rattle.std.proofs.Common.{refl, sym, subst}
use Rattle.std.specs.Prelude.{Ok, Err}
use Rattle.log_journal.specs.Opening.{header_bytes}
use Rattle.desk_crew.specs.Side.{IsTriedAt}
use Rattle.desk_crew.proofs.Shelving.{left_same}
use Rattle.desk_crew.proofs.opening.open_at.Goals as goal

pub returns-in-Ok : goal.returns-in-Ok
returns-in-Ok g c =
    subst (λ p. IsTriedAt c.args.registry.now.schema.now c.args.registry.now.world.now (header_bytes c.args.registry.now.header.now) g.D.Disk
    c.args.user.now c.args.before p (Ok c.in-Ok.seat)) (sym c.in-Ok.is) refl

-- memory was wanting before the opening
pub returns-in_default : goal.returns-in_default
returns-in_default g c =
    subst (λ p. IsTriedAt c.args.registry.now.schema.now c.args.registry.now.world.now (header_bytes c.args.registry.now.header.now) g.D.Disk
    c.args.user.now c.args.before p (Err c.in-Err.closed)) (sym c.in-Err.is)
    (record {
      journal_is = refl;
      left = left_same g.D.Disk g.met.D.Disk.counts_now g.met.D.Disk.only_now c.in-Err.closed.disk;
      user_is = tt;
      opened = tt;
    })

pub returns : goal.returns
returns g c =
    subst (λ p. IsTriedAt c.args.registry.now.schema.now c.args.registry.now.world.now (header_bytes c.args.registry.now.header.now) g.D.Disk
    c.args.user.now c.args.before p c.seat_at.result) (sym c.in-Err.is)
    (record {
      journal_is = c.seat_at.ensures.journal;
      left = c.seat_at.ensures.left;
      user_is = c.seat_at.ensures.user;
      opened = c.seat_at.ensures.opened;
    })
