-- What a batch in memory is to its readers.
use Rattle.std.specs.Prelude.{List, Vec}
use Rattle.std.specs.declared.alloc.Global.{Global}
use Rattle.batch_engine.specs.BatchLines.{BatchItem}
use Rattle.batch_engine.specs.Batches.{items_in}
use Rattle.batch_engine.specs.declared.batch.BatchAsk.{BatchAsk}
use Rattle.batch_engine.specs.declared.batch.Batch.{Batch}

-- the stretches that a restart ended
abbrev pub ended_of : Batch → List (Vec BatchAsk Global)
ended_of batch = batch.ended.items

-- the last stretch
abbrev pub last_of : Batch → List BatchAsk
last_of batch = batch.last.items

-- the items that it has
abbrev pub items_of : Batch → List BatchItem
items_of batch = items_in batch.ended.items batch.last.items
