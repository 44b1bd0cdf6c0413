-- Members whose keys ascend: the first key is the least.
use Rattle.std.proofs.Common.{◌≡◌, ◌∙◌, refl, sym, subst, ap, Bool, true, false, List, [], ◌∷◌, Option, Some, None, String, Global, Less, nat_cmp, string_bytes}
use Rattle.std.proofs.Common.{if◌then◌else◌}
use Rattle.std.specs.Ordering.{is_lt, ordering_reverse}
use Rattle.std.specs.Cmp.Lexicographic.{slice_cmp}
use Rattle.std.specs.List.{AllByRecursion}
use Rattle.std.specs.List.Sorted.{IsStrictlySortedBy}
use Rattle.std.specs.Map.{keys_of}
use Rattle.std.specs.String.{string_cmp}
use Rattle.std.proofs.lemmas.Cmp.{nat_list_cmp_total}
use Rattle.toml.specs.declared.value.Value.{Value}
use Rattle.toml.specs.View.{view, members_view}
use Rattle.cqe_base.specs.Schema.{Text, Declaration, contains_text}
use Rattle.policy_files.specs.Tree.{texts_in, is_less, in_place, declarations, lesser, unknown_key}

abbrev pub Entry : Type 0
Entry = String Global × Value

-- the keys of these entries ascend
abbrev pub Ascend : List Entry → Type 0
Ascend entries = IsStrictlySortedBy string_cmp (keys_of entries)

-- a key stands before those of all these entries
abbrev pub Precedes : String Global → List Entry → Type 0
Precedes key entries = AllByRecursion (λ other. string_cmp key other ≡ Less) (keys_of entries)

pub first_precedes : (e : Entry) (rest : List Entry) → Ascend (e ∷ rest) → Precedes e.0 rest
unfolding IsStrictlySortedBy
first_precedes e rest ascend = ascend.0

pub rest_ascends : (e : Entry) (rest : List Entry) → Ascend (e ∷ rest) → Ascend rest
unfolding IsStrictlySortedBy
rest_ascends e rest ascend = ascend.1

-- what is greater isn't less
not_less : (key other : Text) → slice_cmp nat_cmp key other ≡ Less → is_less other key ≡ false
not_less key other before = ap is_lt (nat_list_cmp_total.antisymm other key ∙ ap ordering_reverse before)

-- what was found, if anything, isn't less than the key
abbrev pub NoLess : Text → Option Text → Type 0
NoLess key None = Unit {0}
NoLess key (Some other) = is_less other key ≡ false

no_lesser : (key other : Text) (found : Option Text) → is_less other key ≡ false → NoLess key found → is_less (lesser other found) key ≡ false
no_lesser key other None here there = here
no_lesser key other (Some third) here there = by (is_less third other)
  where
    by : (t : Bool) → is_less (if t then third else other) key ≡ false
    by true = there
    by false = here

none_less : (known : List Text) (key : String Global) (entries : List Entry) → Precedes key entries
    → NoLess (string_bytes key) (unknown_key known (members_view entries))
none_less known key [] precedes = tt
none_less known key (e ∷ rest) precedes = by (contains_text known (string_bytes e.0)) (none_less known key rest precedes.1)
  where
    by : (t : Bool) → NoLess (string_bytes key) (unknown_key known (members_view rest))
        → NoLess (string_bytes key) (if t then unknown_key known (members_view rest)
        else Some (lesser (string_bytes e.0) (unknown_key known (members_view rest))))
    by true = λ behind. behind
    by false = λ behind.
        no_lesser (string_bytes key) (string_bytes e.0) (unknown_key known (members_view rest))
        (not_less (string_bytes key) (string_bytes e.0) precedes.0) behind

stays : (key : Text) (found : Option Text) → NoLess key found → lesser key found ≡ key
stays key None isnt = refl
stays key (Some other) isnt = ap (λ (t : Bool). if t then other else key) isnt

-- the first key that isn't known is the least
pub unknown_first : (known : List Text) (e : Entry) (rest : List Entry) → Ascend (e ∷ rest) → contains_text known (string_bytes e.0) ≡ false
    → unknown_key known (members_view (e ∷ rest)) ≡ Some (string_bytes e.0)
unknown_first known e rest ascend new =
    ap (λ (t : Bool). if t then unknown_key known (members_view rest) else Some (lesser (string_bytes e.0) (unknown_key known (members_view rest)))) new
    ∙ ap Some (stays (string_bytes e.0) (unknown_key known (members_view rest)) (none_less known e.0 rest (first_precedes e rest ascend)))

-- a key that is known isn't looked at
pub unknown_behind : (known : List Text) (e : Entry) (rest : List Entry) → contains_text known (string_bytes e.0) ≡ true
    → unknown_key known (members_view (e ∷ rest)) ≡ unknown_key known (members_view rest)
unknown_behind known e rest old =
    ap (λ (t : Bool). if t then unknown_key known (members_view rest) else Some (lesser (string_bytes e.0) (unknown_key known (members_view rest)))) old

-- a declaration whose name isn't greater than the first one's stands first
abbrev pub NoneBefore : Text → List Declaration → Type 0
NoneBefore name [] = Unit {0}
NoneBefore name (other ∷ rest) = is_less other.name name ≡ false

placed_first : (declared : Declaration) (others : List Declaration) → NoneBefore declared.name others → in_place declared others ≡ declared ∷ others
placed_first declared [] before = refl
placed_first declared (other ∷ rest) before = ap (λ (t : Bool). if t then other ∷ in_place declared rest else declared ∷ other ∷ rest) before

-- the declarations of members that ascend stand in their order
pub declared_first : (e : Entry) (rest : List Entry) → Ascend (e ∷ rest)
    → declarations (members_view (e ∷ rest)) ≡ record { name = string_bytes e.0; parts = texts_in (view e.1) } ∷ declarations (members_view rest)
declared_first e [] ascend = refl
declared_first e (f ∷ rest) ascend =
    let behind = declared_first f rest (rest_ascends e (f ∷ rest) ascend) in
    placed_first (record { name = string_bytes e.0; parts = texts_in (view e.1) }) (declarations (members_view (f ∷ rest)))
    (subst (NoneBefore (string_bytes e.0)) (sym behind) (not_less (string_bytes e.0) (string_bytes f.0) (first_precedes e (f ∷ rest) ascend).0))
