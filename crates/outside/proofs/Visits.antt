-- The visits of doors that are back.
use Rattle.std.proofs.Common.{◌≡◌, List, [], ◌∷◌, ◌++◌, sym, ◌∙◌, ap, append_assoc}
use Rattle.std.proofs.lemmas.List.{append-nil}
use Rattle.outside.specs.MemoryDoors.{visits_of}
use Rattle.outside.specs.MemoryLinks.{visits_among}
use Rattle.outside.specs.Visits.{Visit}
use Rattle.outside.specs.declared.memory_door.DoorBack.{DoorBack}

-- with a further door come its visits
pub visits_among-push : (doors : List DoorBack) (door : DoorBack) → visits_among (doors ++ door ∷ []) ≡ visits_among doors ++ visits_of door
visits_among-push [] door = append-nil (visits_of door)
visits_among-push (first ∷ doors) door =
    ap (λ (l : List Visit). visits_of first ++ l) (visits_among-push doors door) ∙ sym (append_assoc (visits_of first) (visits_among doors) (visits_of door))
