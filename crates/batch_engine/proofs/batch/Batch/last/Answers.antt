use Rattle.std.proofs.Common.{sym, subst}
use Rattle.batch_engine.specs.Batches.{AreShort}
use Rattle.batch_engine.proofs.Batches.{short_last}
use Rattle.batch_engine.proofs.batch.Batch.last.Goals as goal

pub returns-clause-short : goal.returns-clause-short
returns-clause-short c =
    subst AreShort (sym c.as_slice.ensures.value) (short_last c.args.self.now.ended.items c.args.self.now.last.items c.args.self.now.short)
