-- What is read off the values of a TOML document.
use Rattle.std.specs.Prelude.{ℕ, ℤ, pos, negsuc, Bool, true, ◌&&◌, List, [], ◌∷◌, map, Option, Some}
use Rattle.std.specs.Prelude.{None, option_map, is_some, unwrap_or, if◌then◌else◌}
use Rattle.std.specs.List.{list_all}
use Rattle.std.specs.Ordering.{is_lt, nat_cmp}
use Rattle.std.specs.Cmp.Lexicographic.{slice_cmp}
use Rattle.toml.specs.Data.{Data, Items, no_items, item, Members, no_members, member, as_str}
use Rattle.toml.specs.Data.{as_array, as_table}
use Rattle.cqe_base.specs.Schema.{Text, Declaration, contains_text}

-- the values of an array, in their order
abbrev pub listed : Items → List Data
listed no_items = []
listed (item value rest) = value ∷ listed rest

-- the elements of a value; one that is no array has none
abbrev pub elements : Data → List Data
elements value = unwrap_or (option_map listed (as_array value)) []

-- whether a value is a string
abbrev pub is_string : Data → Bool
is_string value = is_some (as_str value)

-- whether a value is a table
abbrev pub is_table : Data → Bool
is_table value = is_some (as_table value)

-- whether a value is an array of strings
abbrev pub is_string_array : Data → Bool
is_string_array value = is_some (as_array value) && list_all is_string (elements value)

-- whether a value is an array of tables
abbrev pub is_table_array : Data → Bool
is_table_array value = is_some (as_array value) && list_all is_table (elements value)

-- the elements of an array of tables
abbrev pub tables_in : Data → Option (List Data)
tables_in value = if is_table_array value then Some (elements value) else None

-- the text of a string; any other value has the empty one
abbrev pub text_in : Data → Text
text_in value = unwrap_or (as_str value) []

-- the texts of an array of strings
abbrev pub texts_in : Data → List Text
texts_in value = map text_in (elements value)

-- the members of a table; any other value has none
abbrev pub members : Data → Members
members value = unwrap_or (as_table value) no_members

-- whether each value of a table is an array of strings
abbrev pub are_string_arrays : Members → Bool
are_string_arrays no_members = true
are_string_arrays (member key value rest) = is_string_array value && are_string_arrays rest

-- the order of the keys, as bytes: the first byte that differs decides, and a beginning is less
-- than the whole
abbrev pub is_less : Text → Text → Bool
is_less key other = is_lt (slice_cmp nat_cmp key other)

-- a declaration in its place among others whose names ascend
abbrev pub in_place : Declaration → List Declaration → List Declaration
in_place declared [] = declared ∷ []
in_place declared (other ∷ rest) =
    if is_less other.name declared.name then other ∷ in_place declared rest
    else declared ∷ other ∷ rest

-- the declarations that a table has: each key with the texts of its array, the keys ascending as
-- bytes
abbrev pub declarations : Members → List Declaration
declarations no_members = []
declarations (member key value rest) =
    in_place (record { name = key; parts = texts_in value }) (declarations rest)

-- the lesser of a key and another, if there is another
abbrev pub lesser : Text → Option Text → Text
lesser key None = key
lesser key (Some other) = if is_less other key then other else key

-- of the keys that aren't among these the least, as bytes
abbrev pub unknown_key : List Text → Members → Option Text
unknown_key known no_members = None
unknown_key known (member key value rest) =
    if contains_text known key then unknown_key known rest
    else Some (lesser key (unknown_key known rest))

-- a number that isn't negative
abbrev pub natural : ℤ → Option ℕ
natural (pos n) = Some n
natural (negsuc n) = None
