use Rattle.std.proofs.Common.{refl, subst}
use Rattle.std.specs.Prelude.{Some}
use Rattle.log_journal.specs.Opening.{header_bytes}
use Rattle.desk_crew.specs.Side.{IsTriedFrom}
use Rattle.desk_crew.proofs.opening.open_one.Goals as goal

pub returns-in_default : goal.returns-in_default
returns-in_default g c = record {
  tried = subst (λ p. IsTriedFrom c.args.registry.now.schema.now c.args.registry.now.world.now (header_bytes c.args.registry.now.header.now) g.D.Disk
      c.args.opening.now.user.now c.args.opening.now.before p c.take.new.self) c.in_default.ensures.value tt;
}

pub open_at-tried-requires-clause-known : goal.open_at-tried-requires-clause-known
open_at-tried-requires-clause-known g c = c.requires.known.known

pub returns : goal.returns
returns g c = record {
  tried = subst (λ p. IsTriedFrom c.args.registry.now.schema.now c.args.registry.now.world.now (header_bytes c.args.registry.now.header.now) g.D.Disk
      c.args.opening.now.user.now c.args.opening.now.before p (Some c.open_at-tried.result)) c.in-Some.ensures.value
      (c.open_at-tried.result, refl, c.open_at-tried.ensures);
}
