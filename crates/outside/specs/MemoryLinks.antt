-- What links in memory show.
use Rattle.std.specs.Prelude.{ℕ, ◌+◌, List, [], ◌∷◌, ◌++◌, length, map, string_bytes}
use Rattle.std.specs.List.{sum_by}
use Rattle.outside.specs.Visits.{Visit, DoorPlace, door_place_of, one_if_any}
use Rattle.outside.specs.Dials.{Exchange, faults_under}
use Rattle.outside.specs.MemoryDials.{dial_name, dial_exchanged, dial_faults}
use Rattle.outside.specs.MemoryDoors.{visits_of}
use Rattle.outside.specs.declared.memory_dial.MemoryDial.{MemoryDial}
use Rattle.outside.specs.declared.memory_door.DoorBack.{DoorBack}
use Rattle.outside.specs.declared.memory_links.Listened.{Listened}
use Rattle.outside.specs.declared.memory_links.MemoryLinks.{MemoryLinks}

-- the visits of the doors that are back
abbrev pub visits_among : List DoorBack → List Visit
visits_among [] = []
visits_among (door ∷ doors) = visits_of door ++ visits_among doors

-- how many connections the doors gave that are back
abbrev pub links_given : MemoryLinks → ℕ
links_given links = sum_by (λ door. door.given) links.doors_back.items

-- how many are still to be given
abbrev pub links_left : MemoryLinks → ℕ
links_left links = links.left

-- how many of them are at no door
abbrev pub links_at_hand : MemoryLinks → ℕ
links_at_hand links =
    length links.waiting.items + sum_by (λ group. length group.items) links.groups.items

-- the visits of the doors that are back
abbrev pub links_back : MemoryLinks → List Visit
links_back links = visits_among links.doors_back.items

-- how many doors aren't back
abbrev pub links_out : MemoryLinks → ℕ
links_out links = links.out

-- places in memory, by their addresses' bytes
abbrev pub places_of : List Listened → List DoorPlace
places_of places = map (λ place. door_place_of (string_bytes place.address) place.doors) places

-- how many of the doors that are back had answered that no further connection comes
abbrev pub links_ended : MemoryLinks → ℕ
links_ended links = sum_by (λ door. one_if_any door.ends) links.doors_back.items

-- where they listened
abbrev pub links_listened : MemoryLinks → List DoorPlace
links_listened links = places_of links.places.items

-- their count of faults
abbrev pub links_faults : MemoryLinks → ℕ
links_faults links = links.faults

-- how many dials aren't hung up
abbrev pub links_dialling : MemoryLinks → ℕ
links_dialling links = links.dials_out

-- what dials exchanged, one behind the other
abbrev pub exchanged_among : List MemoryDial → List Exchange
exchanged_among [] = []
exchanged_among (dial ∷ dials) = dial_exchanged dial ++ exchanged_among dials

-- what the dials exchanged that were hung up
abbrev pub links_exchanged : MemoryLinks → List Exchange
links_exchanged links = exchanged_among links.dials_back.items

-- the faults of dials, by their names
abbrev pub faults_among : List MemoryDial → List ℕ → ℕ
faults_among dials = faults_under dial_name dial_faults dials

-- the faults of the dials that were hung up, by their names
abbrev pub links_exchange_faults : MemoryLinks → List ℕ → ℕ
links_exchange_faults links = faults_among links.dials_back.items
