-- The counts of faults of what is real.
use Rattle.std.specs.Prelude.{ℕ, Bool, List, string_bytes}
use Rattle.outside.specs.Places.{at_name}
use Rattle.real_edge.specs.declared.streams.StreamSource.{StreamSource}
use Rattle.real_edge.specs.declared.streams.StreamSink.{StreamSink}
use Rattle.real_edge.specs.declared.disks.FileDisk.{FileDisk}
use Rattle.real_edge.specs.declared.files.FileShelf.{FileShelf}
use Rattle.real_edge.specs.declared.sockets.TcpDoor.{TcpDoor}
use Rattle.real_edge.specs.declared.dials.TcpDial.{TcpDial}
use Rattle.real_edge.specs.Kept.{out_kept, faults_kept}

-- how often a reader failed
abbrev pub source_faults : {R : Type 0} → StreamSource R → ℕ
source_faults source = source.faults

-- how often a writer failed
abbrev pub sink_faults : {W : Type 0} → StreamSink W → ℕ
sink_faults sink = sink.faults

-- how often an open file failed
abbrev pub disk_faults : {F : Type 0} → FileDisk F → ℕ
disk_faults disk = disk.faults

-- something may be written to an open file
abbrev pub is_writable : {F : Type 0} → FileDisk F → Bool
is_writable disk = disk.writable

-- how often a file system failed
abbrev pub shelf_faults : {R : Type 0} → FileShelf R → ℕ
shelf_faults shelf = shelf.faults

-- the file of this name was taken as a disk and isn't back
abbrev pub is_file_out : {R : Type 0} → FileShelf R → List ℕ → Bool
is_file_out shelf name = out_kept (at_name shelf.disks name)

-- how often the disk of a name failed
abbrev pub file_faults : {R : Type 0} → FileShelf R → List ℕ → ℕ
file_faults shelf name = faults_kept (at_name shelf.disks name)

-- how often a listening socket failed
abbrev pub door_faults : {C L : Type 0} → TcpDoor C L → ℕ
door_faults door = door.faults

-- the number that a dial was last answered
abbrev pub dial_answered : {R : Type 0} → TcpDial R → ℕ
dial_answered dial = dial.answered

-- how often a dial failed
abbrev pub dial_faults : {R : Type 0} → TcpDial R → ℕ
dial_faults dial = dial.faults

-- the address that it calls
abbrev pub dial_address : {R : Type 0} → TcpDial R → List ℕ
dial_address dial = string_bytes dial.address

-- the name under which its faults are counted
abbrev pub dial_name : {R : Type 0} → TcpDial R → List ℕ
dial_name dial = string_bytes dial.name
