-- What a source and a sink in memory show.
use Rattle.std.specs.Prelude.{ℕ, List, [], drop, option_map, unwrap_or}
use Rattle.outside.specs.declared.memory_stream.MemorySource.{MemorySource}
use Rattle.outside.specs.declared.memory_stream.MemorySink.{MemorySink}

-- all bytes that the source had when it was made
abbrev pub source_held : MemorySource → List ℕ
source_held source = source.bytes.items

-- the bytes that it has still to give
abbrev pub source_left : MemorySource → List ℕ
source_left source = drop source.given source.bytes.items

-- its count of faults
abbrev pub source_faults : MemorySource → ℕ
source_faults source = source.faults

-- all bytes that were appended to the sink
abbrev pub sink_written : MemorySink → List ℕ
sink_written sink = sink.bytes.items

-- the bytes of the client whom it answers, and none where it is no end of a connection
abbrev pub sink_answers : MemorySink → List ℕ
sink_answers sink = unwrap_or (option_map (λ source. source_held source.value) sink.client) []

-- its count of faults
abbrev pub sink_faults : MemorySink → ℕ
sink_faults sink = sink.faults
