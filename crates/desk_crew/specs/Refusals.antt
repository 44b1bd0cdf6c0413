-- Refusals that say that a disk failed.
use Rattle.std.specs.Prelude.{◌≡◌, Bool, true, false, List, Option, Some, None}
use Rattle.std.specs.List.{list_any}
use Rattle.log_journal.specs.declared.header.OpenError.TheVariants.{DiskFault}
use Rattle.user_desk.specs.declared.standing.DeskError.{DeskError}
use Rattle.user_desk.specs.declared.standing.DeskError.TheVariants.{Journal}

-- whether a journal is refused for a fault of its disk
abbrev pub is_disk_fault : DeskError → Bool
is_disk_fault (Journal DiskFault) = true
is_disk_fault why = false

-- the same where it may not have been refused
abbrev pub refused_by_disk : Option DeskError → Bool
refused_by_disk None = false
refused_by_disk (Some why) = is_disk_fault why

-- some of these refusals is for a fault of a disk
abbrev pub SomeFaulted : List (Option DeskError) → Type 0
SomeFaulted refusals = list_any refused_by_disk refusals ≡ true
