-- What a door in memory shows.
use Rattle.std.specs.Prelude.{ℕ, List, map, length, Option, option_map}
use Rattle.outside.specs.Visits.{Visit, visit_of}
use Rattle.outside.specs.MemoryStreams.{source_held, source_faults, sink_written, sink_faults}
use Rattle.outside.specs.declared.memory_door.Finished.{Finished}
use Rattle.outside.specs.declared.memory_door.DoorBack.{DoorBack}
use Rattle.outside.specs.declared.memory_door.MemoryDoor.{MemoryDoor}

-- the visit of two ends that are back
abbrev pub finished_visit : Finished → Visit
finished_visit finished =
    visit_of (source_held finished.source) (sink_written finished.sink)
    (source_faults finished.source) (sink_faults finished.sink)

-- the visits of a door that is back
abbrev pub visits_of : DoorBack → List Visit
visits_of door = map finished_visit door.finished.items

-- how many connections the door gave
abbrev pub door_given : MemoryDoor → ℕ
door_given door = door.given

-- how many it has still to give
abbrev pub door_left : MemoryDoor → ℕ
door_left door = length door.waiting.items

-- the visits of the connections that are back
abbrev pub door_back : MemoryDoor → List Visit
door_back door = map finished_visit door.finished.items

-- what the source of the last connection held, where that isn't back
abbrev pub door_last : MemoryDoor → Option (List ℕ)
door_last door = option_map (λ source. source_held source.value) door.last

-- how often it answered that no further connection comes
abbrev pub door_ends : MemoryDoor → ℕ
door_ends door = door.ends

-- its count of faults
abbrev pub door_faults : MemoryDoor → ℕ
door_faults door = door.faults
