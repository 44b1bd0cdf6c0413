-- The options of a command as the rules of `clap`, and the walk over words that name them.
use Rattle.std.proofs.Common.{◌≡◌, ℕ, Bool, true, false, not, ◌&&◌, ◌||◌, cond, List, [], ◌∷◌, ◌++◌, map, refl, sym, ap, ◌∙◌, subst}
use Rattle.std.specs.Prelude.{Option, Some, None, option_map, find, fold, nat_lt, length, bytes_eq, codes, if◌then◌else◌}
use Rattle.std.specs.List.{list_all, list_any}
use Rattle.std.specs.Option.{option_map_or}
use Rattle.clap.specs.Facts.{explicit_source}
use Rattle.std.proofs.lemmas.Slice.Eq.{bytes_eq-Decides}
use Rattle.std.proofs.lemmas.Bool.{or_parts}
use Rattle.clap.specs.Words.{Row, Rule, Shape, Text, Kinds, new_rule, reading_of}
use Rattle.clap.specs.Simple.{new_shape}
use Rattle.clap.specs.Walk.{arg_by_id, arg_by_index, arg_by_long, at_row, has_row, is_empty, more_values, used, with_default, with_values, without}
use Rattle.clap.specs.Takes.{is_given}
use Rattle.clap.specs.Kinds.{check_kinds, or_else}
use Rattle.clap.specs.Faults.{check_fault, default_fault, defaults_fault, given_default_fault, use_fault}
use Rattle.clap.specs.declared.builder.action.ArgAction.TheVariants.{Set, SetTrue}
use Rattle.clap.specs.declared.builder.value_parser.ValueParser.TheVariants.{Bool as Boolean, NonEmptyString}
use Rattle.clap.specs.declared.parser.matches.ValueSource.TheVariants.{CommandLine, DefaultValue}
use Rattle.clap.specs.declared.error.kind.ErrorKind.TheVariants as kind
use Rattle.command_words.specs.Uses.{OptionRow, Use, is_flag}
use Rattle.command_words.specs.Readings.{CommandRow, is_used}

-- how many values an option has
abbrev count_for : Bool → ℕ
count_for has_value = if has_value then 1 else 0

-- the text that stands for a flag where it isn't used, and where it is
abbrev flag_text : Bool → Text → List Text
flag_text has_value text = if has_value then [] else text ∷ []

-- the rule for an option
abbrev pub rule_named : Text → Bool → Bool → Rule
rule_named name is_needed has_value = record (new_rule name) {
  long = Some name;
  action = Some (if has_value then Set else SetTrue);
  range = Some (record { start_inclusive = count_for has_value; end_inclusive = count_for has_value });
  defaults = flag_text has_value (codes "false");
  missing = flag_text has_value (codes "true");
  parser = Some (if has_value then NonEmptyString else Boolean);
  required = is_needed;
}

abbrev pub rule_for : OptionRow → Rule
rule_for row = rule_named row.name row.is_needed row.has_value

abbrev pub rules_for : List OptionRow → List Rule
rules_for rows = map rule_for rows

-- the subcommand for a command of the table, as it is built
abbrev pub shape_for : CommandRow → Shape
shape_for row = record (new_shape row.name) {
  rules = rules_for row.options;
  no_binary_name = true;
  disable_help_flag = true;
  disable_help_subcommand =
      true;
  is_built = true;
}

-- whether an option must be there, and whether it has a value
abbrev pub Sort : Type 0
Sort = Bool × Bool

abbrev pub sort_of : OptionRow → Sort
sort_of row = (row.is_needed, row.has_value)

-- the sort of the option of this name, if there is one
abbrev pub needs : List OptionRow → Text → Option Sort
needs rows name = option_map sort_of (find (λ (row : OptionRow). bytes_eq row.name name) rows)

abbrev pub rule_of_sort : Text → Sort → Rule
rule_of_sort name s = rule_named name s.0 s.1

pub by_id : (rows : List OptionRow) (name : Text) → arg_by_id (rules_for rows) name ≡ option_map (rule_of_sort name) (needs rows name)
by_id [] name = refl
by_id (row ∷ rows) name =
    elim (bytes_eq row.name name) as (λ t. bytes_eq row.name name ≡ t → cond t (Some (rule_for row)) (arg_by_id (rules_for rows) name)
    ≡ option_map (rule_of_sort name) (option_map sort_of (cond t (Some row) (find (λ (r : OptionRow). bytes_eq r.name name) rows)))) [
      | true ↦ λ same. ap (λ (n : Text). Some (rule_named n row.is_needed row.has_value)) ((bytes_eq-Decides row.name name).0 same)
      | false ↦ λ other. by_id rows name
    ] refl

pub by_long : (rows : List OptionRow) (name : Text) → arg_by_long (rules_for rows) name ≡ option_map (rule_of_sort name) (needs rows name)
by_long [] name = refl
by_long (row ∷ rows) name =
    elim (bytes_eq row.name name) as (λ t. bytes_eq row.name name ≡ t → cond (t || false) (Some (rule_for row)) (arg_by_long (rules_for rows) name)
    ≡ option_map (rule_of_sort name) (option_map sort_of (cond t (Some row) (find (λ (r : OptionRow). bytes_eq r.name name) rows)))) [
      | true ↦ λ same. ap (λ (n : Text). Some (rule_named n row.is_needed row.has_value)) ((bytes_eq-Decides row.name name).0 same)
      | false ↦ λ other. by_long rows name
    ] refl

pub by_index : (rows : List OptionRow) (i : ℕ) → ◌≡◌ {A = Option Rule} (arg_by_index (rules_for rows) i) None
by_index [] i = refl
by_index (row ∷ rows) i = by_index rows i

-- no kind of fault
abbrev pub none : Kinds → Bool
none [] = true
none (k ∷ ks) = false

pub none_both : (a b : Kinds) → none (or_else a b) ≡ (none a && none b)
none_both [] b = refl
none_both (k ∷ ks) b = refl

pub none_first : (a b c : Kinds) → none (or_else (or_else a b) c) ≡ (none a && none (or_else b c))
none_first [] b c = refl
none_first (k ∷ ks) b c = refl

pub none_nil : (a : Kinds) → none (or_else a []) ≡ none a
none_nil [] = refl
none_nil (k ∷ ks) = refl

-- a name that no option has is no flag, and one that an option has is one where that has no value
pub flag_is : (options : List OptionRow) (name : Text) → is_flag options name ≡ option_map_or (λ (s : Sort). not s.1) (needs options name) false
flag_is options name = go (find (λ (row : OptionRow). bytes_eq row.name name) options)
  where
    go : (o : Option OptionRow)
        → option_map_or (λ (row : OptionRow). not row.has_value) o false ≡ option_map_or (λ (s : Sort). not s.1) (option_map sort_of o) false
    go None = refl
    go (Some row) = refl

-- the text that a use leaves
abbrev pub text_of : Bool → Text → Text
text_of flag value = if flag then codes "true" else value

-- the row of an option that is used
abbrev pub row_of_use : List OptionRow → Use → Row
row_of_use options u =
    record { id = u.name; values = text_of (is_flag options u.name) u.value ∷ []; count = None; source = Some CommandLine; reading = reading_of NonEmptyString }

abbrev pub rows_of_uses : List OptionRow → List Use → List Row
rows_of_uses options uses = map (row_of_use options) uses

pub used_rows : (options : List OptionRow) (given : List Use) (name : Text) → has_row name (rows_of_uses options given) ≡ is_used given name
used_rows options [] name = refl
used_rows options (u ∷ given) name = ap (λ (b : Bool). bytes_eq u.name name || b) (used_rows options given name)

given_rows : (options : List OptionRow) (given : List Use) (name : Text) → is_given name (rows_of_uses options given) ≡ is_used given name
given_rows options [] name = refl
given_rows options (u ∷ given) name =
    let rest = given_rows options given name in
    elim (bytes_eq u.name name) as (λ t.
    option_map_or (λ (r : Row). explicit_source r.source)
    (cond t (Some (row_of_use options u)) (find (λ (r : Row). bytes_eq r.id name) (rows_of_uses options given))) false ≡ (t || is_used given name)) [
      | true ↦ refl
      | false ↦ rest
    ]

fault_bits : (is_again is_there : Bool)
    → none (or_else (if is_again && true then kind.ArgumentConflict ∷ [] else []) (or_else (if is_there then [] else kind.InvalidValue ∷ []) []))
    ≡ (not is_again && is_there)
fault_bits true true = refl
fault_bits true false = refl
fault_bits false true = refl
fault_bits false false = refl

-- a use of an option with a value passes where it is the first, and the value isn't empty
pub use_passes : (options : List OptionRow) (name : Text) (is_needed : Bool) (v : Text) (given : List Use)
    → none (use_fault false (rule_named name is_needed true) (v ∷ []) (rows_of_uses options given)) ≡ (not (is_used given name) && nat_lt 0 (length v))
use_passes options name is_needed v given = rw (used_rows options given name) (fault_bits (is_used given name) (nat_lt 0 (length v)))

flag_bits : (is_again : Bool) → none (or_else (if is_again && true then kind.ArgumentConflict ∷ [] else []) []) ≡ not is_again
flag_bits true = refl
flag_bits false = refl

-- a use of a flag passes where it is the first
pub flag_passes : (options : List OptionRow) (name : Text) (is_needed : Bool) (given : List Use)
    → none (use_fault false (rule_named name is_needed false) [] (rows_of_uses options given)) ≡ not (is_used given name)
flag_passes options name is_needed given = rw (used_rows options given name) (flag_bits (is_used given name))

-- where there is no such row, one is set behind the others
row_behind : (id : Text) (change : Row → List Row) (missing rows : List Row) → has_row id rows ≡ false → at_row id change missing rows ≡ rows ++ missing
row_behind id change missing [] fresh = refl
row_behind id change missing (r ∷ rows) fresh =
    let parts = or_parts (bytes_eq r.id id) (has_row id rows) fresh in
    rw parts.0 (ap (λ (l : List Row). r ∷ l) (row_behind id change missing rows parts.1))

rows_append : (options : List OptionRow) (given more : List Use)
    → rows_of_uses options given ++ rows_of_uses options more ≡ rows_of_uses options (given ++ more)
rows_append options [] more = refl
rows_append options (u ∷ given) more = ap (λ (rows : List Row). row_of_use options u ∷ rows) (rows_append options given more)

pub append_nil : {X : Type 0} (xs : List X) → xs ++ [] ≡ xs
append_nil [] = refl
append_nil (x ∷ xs) = ap (λ ys. x ∷ ys) (append_nil xs)

-- the row that a use of an option leaves behind the others
row_used : (options : List OptionRow) (name value text : Text) (given : List Use) → is_used given name ≡ false → text ≡ text_of (is_flag options name) value
    → with_values name (reading_of NonEmptyString) CommandLine (text ∷ []) (without name (rows_of_uses options given))
    ≡ rows_of_uses options (given ++ record { name = name; value = value } ∷ [])
row_used options name value text given fresh is =
    let no_row : has_row name (rows_of_uses options given) ≡ false = used_rows options given name ∙ fresh in
    let out : without name (rows_of_uses options given) ≡ rows_of_uses options given =
    row_behind name (λ _. []) [] (rows_of_uses options given) no_row ∙ append_nil (rows_of_uses options given) in
    ap (with_values name (reading_of NonEmptyString) CommandLine (text ∷ [])) out
    ∙ row_behind name (more_values CommandLine (text ∷ [])) (record {
      id =
          name;
      values = text ∷ [];
      count = None;
      source = Some CommandLine;
      reading = reading_of NonEmptyString;
    } ∷ []) (rows_of_uses options given) no_row
    ∙ ap (λ (t : Text). rows_of_uses options given ++ record {
      id =
          name;
      values = t ∷ [];
      count = None;
      source = Some CommandLine;
      reading = reading_of NonEmptyString;
    } ∷ []) is
    ∙ rows_append options given (record { name = name; value = value } ∷ [])

pub used_behind : (options : List OptionRow) (name : Text) (is_needed : Bool) (v : Text) (given : List Use) → is_used given name ≡ false
    → is_flag options name ≡ false
    → used (rule_named name is_needed true) (v ∷ []) (rows_of_uses options given) ≡ rows_of_uses options (given ++ record { name = name; value = v } ∷ [])
used_behind options name is_needed v given fresh other = row_used options name v v given fresh (ap (λ (t : Bool). text_of t v) (sym other))

pub flag_behind : (options : List OptionRow) (name : Text) (is_needed : Bool) (given : List Use) → is_used given name ≡ false → is_flag options name ≡ true
    → used (rule_named name is_needed false) [] (rows_of_uses options given) ≡ rows_of_uses options (given ++ record { name = name; value = [] } ∷ [])
flag_behind options name is_needed given fresh is = row_used options name [] (codes "true") given fresh (ap (λ (t : Bool). text_of t []) (sym is))

-- ---- the rows at the end: a flag that isn't used has one too

-- the rows with those of the flags that aren't used
abbrev pub finished_rows : List OptionRow → List Row → List Row
finished_rows options rows = fold with_default rows (rules_for options)

-- the row of a flag that isn't used
abbrev pub unused_row : Text → Row
unused_row name = record { id = name; values = codes "false" ∷ []; count = None; source = Some DefaultValue; reading = reading_of NonEmptyString }

-- what an option does to the rows at the end: nothing, or a row behind the others where there is none
pub default_is : (P : List Row → Type 0) (rows : List Row) (row : OptionRow) → P rows
    → (row.has_value ≡ false → has_row row.name rows ≡ false → P (rows ++ unused_row row.name ∷ [])) → P (with_default rows (rule_for row))
default_is P rows row same more = go (has_row row.name rows) refl row.has_value refl
  where
    go : (there : Bool) → has_row row.name rows ≡ there → (value : Bool) → row.has_value ≡ value → P (with_default rows (rule_for row))
    go true there value e = rw there same
    go false there true e = rw (there, e) same
    go false there false e =
        let behind = row_behind row.name (more_values DefaultValue (codes "false" ∷ [])) (unused_row row.name ∷ []) rows there in
        rw (there, e) (subst P (sym behind) (more e there))

-- such a row is no use
given_push : (name : Text) (rows : List Row) (r : Row) → explicit_source r.source ≡ false → is_given name (rows ++ r ∷ []) ≡ is_given name rows
given_push name [] r default =
    elim (bytes_eq r.id name) as (λ t. option_map_or (λ (x : Row). explicit_source x.source) (cond t (Some r) None) false ≡ false) [
      | true ↦ default
      | false ↦ refl
    ]
given_push name (x ∷ rows) r default =
    let rest = given_push name rows r default in
    elim (bytes_eq x.id name) as (λ t.
    option_map_or (λ (y : Row). explicit_source y.source) (cond t (Some x) (find (λ (y : Row). bytes_eq y.id name) (rows ++ r ∷ []))) false
    ≡ option_map_or (λ (y : Row). explicit_source y.source) (cond t (Some x) (find (λ (y : Row). bytes_eq y.id name) rows)) false) [
      | true ↦ refl
      | false ↦ rest
    ]

pub given_finished : (name : Text) (rows : List Row) (options : List OptionRow) → is_given name (finished_rows options rows) ≡ is_given name rows
given_finished name rows [] = refl
given_finished name rows (row ∷ options) =
    given_finished name (with_default rows (rule_for row)) options
    ∙ default_is (λ (after : List Row). is_given name after ≡ is_given name rows) rows row refl (λ value there. given_push name rows (unused_row row.name) refl)

no_default_fault : (rows : List Row) (row : OptionRow) → default_fault rows (rule_for row) ≡ []
no_default_fault rows row = go (has_row row.name rows) row.has_value
  where
    go : (there value : Bool)
        → ◌≡◌ {A = Kinds} (if there || is_empty (flag_text value (codes "false")) then []
        else given_default_fault (rule_named row.name row.is_needed value) (flag_text value (codes "false"))) []
    go true value = refl
    go false true = refl
    go false false = refl

pub defaults_pass : (rows : List Row) (options : List OptionRow) → ◌≡◌ {A = Kinds} (defaults_fault rows (rules_for options)) []
unfolding defaults_fault
defaults_pass rows [] = refl
defaults_pass rows (row ∷ options) =
    ap (λ (k : Kinds). or_else k (defaults_fault (with_default rows (rule_for row)) (rules_for options))) (no_default_fault rows row)
    ∙ defaults_pass (with_default rows (rule_for row)) options

-- each option that must be there is used
abbrev pub is_complete : List OptionRow → List Use → Bool
is_complete options uses = list_all (λ (row : OptionRow). not row.is_needed || is_used uses row.name) options

missing_bits : (is_needed is_there is_missing is_whole : Bool) → is_missing ≡ not is_whole
    → ((is_needed && not is_there) || is_missing) ≡ not ((not is_needed || is_there) && is_whole)
missing_bits true true is_missing is_whole e = e
missing_bits true false is_missing is_whole e = refl
missing_bits false true is_missing is_whole e = e
missing_bits false false is_missing is_whole e = e

is_missing : (options : List OptionRow) (uses : List Use) (rows : List Row) → ((name : Text) → is_given name rows ≡ is_used uses name)
    → list_any (λ (a : Rule). a.required && not (is_given a.id rows)) (rules_for options) ≡ not (is_complete options uses)
is_missing [] uses rows are = refl
is_missing (row ∷ options) uses rows are =
    rw (are row.name) (missing_bits row.is_needed (is_used uses row.name) _ (is_complete options uses) (is_missing options uses rows are))

check_bits : (is_missing : Bool) → none (check_kinds false false is_missing) ≡ not is_missing
check_bits true = refl
check_bits false = refl

not_not : (b : Bool) → not (not b) ≡ b
not_not true = refl
not_not false = refl

pub check_passes : (row : CommandRow) (uses : List Use)
    → none (check_fault (shape_for row) (finished_rows row.options (rows_of_uses row.options uses)) false) ≡ is_complete row.options uses
check_passes row uses =
    let rows = finished_rows row.options (rows_of_uses row.options uses) in
    check_bits (list_any (λ (a : Rule). a.required && not (is_given a.id rows)) (rules_for row.options))
    ∙ ap (λ (b : Bool). not b)
    (is_missing row.options uses rows (λ name. given_finished name (rows_of_uses row.options uses) row.options ∙ given_rows row.options uses name))
    ∙ not_not (is_complete row.options uses)
