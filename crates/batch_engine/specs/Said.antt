-- What a line and an ask in memory say.
use Rattle.std.specs.Prelude.{◌≡◌, Bool, true, ◌&&◌, nat_le, length}
use Rattle.batch_engine.specs.BatchLines
use Rattle.batch_engine.specs.BatchLines.{NamedAsk, BatchItem, silence, restarts, asks, asked}
use Rattle.batch_engine.specs.BatchLines.{restarted}
use Rattle.batch_engine.specs.declared.line.BatchLine.{BatchLine}
use Rattle.batch_engine.specs.declared.line.BatchLine.TheVariants.{Silence, Restart, Ask}
use Rattle.batch_engine.specs.declared.line.LineAsk.{LineAsk}
use Rattle.batch_engine.specs.Callers.{caller_in, is_short_caller}

-- the ask whose parts are slices of a line
abbrev pub ask_said : LineAsk → NamedAsk
ask_said ask =
    record { name = ask.name.now; caller = caller_in ask.caller; text = ask.text.now }

-- what a line in memory says
abbrev pub said : BatchLine → BatchLines.BatchLine
said Silence = silence
said Restart = restarts
said (Ask ask) = asks (ask_said ask)

-- whether its name has at most 32 bytes, a session is at most 64, and its text has at most 4,096
-- bytes
abbrev pub is_short_ask : NamedAsk → Bool
is_short_ask ask =
    (nat_le (length ask.name) 32 && is_short_caller ask.caller) && nat_le (length ask.text) 4096

-- the ask of a line is short
abbrev pub IsShortLine : BatchLine → Type 0
IsShortLine (Ask ask) = is_short_ask (ask_said ask) ≡ true
IsShortLine Silence = Unit {0}
IsShortLine Restart = Unit {0}

-- whether an item, where it is an ask, is short
abbrev pub is_short_item : BatchItem → Bool
is_short_item (asked ask) = is_short_ask ask
is_short_item restarted = true
