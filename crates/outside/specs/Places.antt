-- What stands under names.
use Rattle.std.specs.Prelude.{ℕ, List, Option}
use Rattle.std.specs.BTreeMap.{get_by_text}
use Rattle.outside.specs.declared.places.Places.{Places}

-- what stands under a name
abbrev pub at_name : {T : Type 0} → Places T → List ℕ → Option T
at_name places name = get_by_text places.by_name name
