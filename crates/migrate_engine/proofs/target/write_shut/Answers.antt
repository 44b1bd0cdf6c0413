use Rattle.std.proofs.Common.{◌∙◌, inl, inr, ⊎_elim, subst}
use Rattle.outside.proofs.Moments.{elapses_then}
use Rattle.outside.specs.Disk.{Only}
use Rattle.migrate_engine.proofs.Making.{held_first, where_ok, where_err}
use Rattle.migrate_engine.specs.Moves.{FailsFirst}
use Rattle.migrate_engine.proofs.target.write_shut.Goals as goal

pub returns-in_err-write_at-clause-left : goal.returns-in_err-write_at-clause-left
returns-in_err-write_at-clause-left g c = λ told.
    let fails : FailsFirst g.D.Disk c.write_at.new.self = record {
      empty = c.args.disk.now;
      bytes = c.requires.empty told;
      durable = subst (λ b. Only b (g.D.Disk.image c.args.disk.now)) (c.requires.empty told) c.requires.durable;
      time = c.write_at.ensures.time;
      left = inr (λ d is. ⊎_elim (λ was. inl (c.requires.durable d was ∙ c.requires.empty told)) (λ now. inr now) (c.write_at.ensures.moments d is));
    } in
    where_err _ fails

pub returns-clause-bytes : goal.returns-clause-bytes
returns-clause-bytes g c = λ told.
    where_ok c.sync.result
    (c.sync.ensures.reads ∙ held_first (g.D.Disk.reads c.args.disk.now) _ (g.D.Disk.reads c.write_at.new.self) (c.requires.empty told)
    (c.in_ok-write_at.ensures.written told))

pub returns-clause-left : goal.returns-clause-left
returns-clause-left g c = λ told.
    let fails : FailsFirst g.D.Disk c.sync.new.self = record {
      empty = c.args.disk.now;
      bytes = c.requires.empty told;
      durable = subst (λ b. Only b (g.D.Disk.image c.args.disk.now)) (c.requires.empty told) c.requires.durable;
      time = elapses_then (g.D.Disk.moment c.args.disk.now) (g.D.Disk.moment c.write_at.new.self) (g.D.Disk.moment c.sync.new.self)
          (g.D.Disk.image_since c.args.disk.now) (g.D.Disk.image_since c.write_at.new.self) (g.D.Disk.image_since c.sync.new.self)
          c.write_at.ensures.time c.sync.ensures.time;
      left = inl (c.sync.ensures.reads ∙ held_first (g.D.Disk.reads c.args.disk.now) _ (g.D.Disk.reads c.write_at.new.self) (c.requires.empty told)
          (c.in_ok-write_at.ensures.written told));
    } in
    where_err c.sync.result fails
