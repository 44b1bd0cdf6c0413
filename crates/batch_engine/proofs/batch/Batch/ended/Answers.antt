use Rattle.std.proofs.Common.{All, sym, subst}
use Rattle.batch_engine.specs.Batches.{AreShort}
use Rattle.batch_engine.proofs.Batches.{short_ended}
use Rattle.batch_engine.proofs.batch.Batch.ended.Goals as goal

pub returns-clause-short : goal.returns-clause-short
returns-clause-short c =
    subst (All (λ asks. AreShort asks.items)) (sym c.as_slice.ensures.value)
    (short_ended c.args.self.now.ended.items c.args.self.now.last.items c.args.self.now.short)
