-- The asks of a batch in memory, in their stretches.
use Rattle.std.specs.Prelude.{◌≡◌, true, List, [], ◌∷◌, ◌++◌, map, string_bytes, Vec}
use Rattle.std.specs.List.{list_all}
use Rattle.std.specs.declared.alloc.Global.{Global}
use Rattle.batch_engine.specs.BatchLines.{NamedAsk, BatchItem, asked, restarted}
use Rattle.batch_engine.specs.Said.{is_short_ask}
use Rattle.batch_engine.specs.Callers.{caller_in}
use Rattle.batch_engine.specs.declared.batch.BatchAsk.{BatchAsk}

-- an ask in memory
abbrev pub ask_in : BatchAsk → NamedAsk
ask_in ask =
    record {
      name = string_bytes ask.name;
      caller = caller_in ask.caller;
      text = string_bytes ask.text;
    }

-- the asks of a stretch
abbrev pub asks_in : List BatchAsk → List NamedAsk
asks_in asks = map ask_in asks

-- they are short
abbrev pub AreShort : List BatchAsk → Type 0
AreShort asks = list_all is_short_ask (asks_in asks) ≡ true

-- what is to be done in a stretch
abbrev pub stretch_in : List BatchAsk → List BatchItem
stretch_in asks = map asked (asks_in asks)

-- and in one that a restart ends
abbrev pub ended_in : List BatchAsk → List BatchItem
ended_in asks = stretch_in asks ++ restarted ∷ []

-- what is to be done in stretches that a restart ended each
abbrev pub stretches_in : List (Vec BatchAsk Global) → List BatchItem
stretches_in [] = []
stretches_in (asks ∷ ended) = stretch_in asks.items ++ restarted ∷ stretches_in ended

-- and in a last one behind them
abbrev pub items_in : List (Vec BatchAsk Global) → List BatchAsk → List BatchItem
items_in ended last = stretches_in ended ++ stretch_in last
