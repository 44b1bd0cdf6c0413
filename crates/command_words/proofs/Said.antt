-- What is made of the rows of a command is what it says with the uses.
use Rattle.std.proofs.Common.{◌≡◌, Bool, true, false, not, ◌||◌, cond, List, [], ◌∷◌, ◌++◌, refl, ap, ◌∙◌, subst}
use Rattle.std.specs.Prelude.{⊤, Option, Some, None, option_map, option_and_then, find, slice_get, unwrap_or, bytes_eq, codes}
use Rattle.std.specs.List.{list_all}
use Rattle.std.specs.Option.{option_map_or}
use Rattle.std.proofs.lemmas.Bool.{and_parts}
use Rattle.std.proofs.lemmas.Slice.Eq.{bytes_eq-Decides}
use Rattle.clap.specs.Words.{Row, Text, first_of}
use Rattle.clap.specs.Walk.{with_default}
use Rattle.command_words.specs.Uses.{OptionRow, Use, is_flag}
use Rattle.command_words.specs.Numbers.{number_from, number_or}
use Rattle.command_words.specs.Readings.{CommandRow, audit_row, audit_said, batch_row, batch_said, command_of, commands, files_of, files_said, init_row}
use Rattle.command_words.specs.Readings.{is_used, migrate_row, migrate_said, dossier_row, dossier_said, check_row, check_said}
use Rattle.command_words.specs.Readings.{runs_init, selfrun_row, selfrun_said, serve_row, serve_said, standby_row, standby_said, value_of}
use Rattle.command_words.specs.Matched.{command_with, files_in, says_true}
use Rattle.command_words.proofs.Options.{default_is, finished_rows, rows_of_uses, row_of_use, rule_for, text_of, unused_row}
use Rattle.command_words.proofs.Walks.{rows_at_end}

-- no flag has this name
abbrev pub is_valued : List OptionRow → Text → Bool
is_valued options name = list_all (λ (row : OptionRow). row.has_value || not (bytes_eq row.name name)) options

valued_bits : (has_value same : Bool) → (has_value || not same) ≡ true → has_value ≡ false → same ≡ false
valued_bits true same e value = absurd (cc)
valued_bits false true e value = absurd (cc)
valued_bits false false e value = refl

valued_same : (has_value : Bool) → (has_value || false) ≡ true → not has_value ≡ false
valued_same true e = refl
valued_same false e = absurd (cc)

no_flag : (options : List OptionRow) (name : Text) → is_valued options name ≡ true → is_flag options name ≡ false
no_flag [] name valued = refl
no_flag (row ∷ options) name valued =
    let parts = and_parts (row.has_value || not (bytes_eq row.name name)) (is_valued options name) valued in
    let rest = no_flag options name parts.1 in
    elim (bytes_eq row.name name) as (λ t. (row.has_value || not t) ≡ true
    → option_map_or (λ (r : OptionRow). not r.has_value) (cond t (Some row) (find (λ (r : OptionRow). bytes_eq r.name name) options)) false ≡ false) [
      | true ↦ λ e. valued_same row.has_value e
      | false ↦ λ e. rest
    ] parts.0

-- ---- the rows of uses

-- the value that a row has is that of the use
value_row : (options : List OptionRow) (uses : List Use) (name : Text) → is_flag options name ≡ false
    → first_of name (rows_of_uses options uses) ≡ value_of uses name
value_row options [] name other = refl
value_row options (u ∷ uses) name other =
    let rest = value_row options uses name other in
    elim (bytes_eq u.name name) as (λ t. bytes_eq u.name name ≡ t
    → option_and_then (λ (r : Row). slice_get r.values 0)
    (cond t (Some (row_of_use options u)) (find (λ (r : Row). bytes_eq r.id name) (rows_of_uses options uses)))
    ≡ option_map (λ (v : Use). v.value) (cond t (Some u) (find (λ (v : Use). bytes_eq v.name name) uses))) [
      | true ↦ λ same. ap (λ (f : Bool). Some (text_of f u.value)) (ap (is_flag options) ((bytes_eq-Decides u.name name).0 same) ∙ other)
      | false ↦ λ different. rest
    ] refl

-- a flag's row says that it is used
flag_row : (options : List OptionRow) (uses : List Use) (name : Text) → is_flag options name ≡ true
    → says_true (first_of name (rows_of_uses options uses)) ≡ is_used uses name
flag_row options [] name is = refl
flag_row options (u ∷ uses) name is =
    let rest = flag_row options uses name is in
    elim (bytes_eq u.name name) as (λ t. bytes_eq u.name name ≡ t
    → says_true (option_and_then (λ (r : Row). slice_get r.values 0)
    (cond t (Some (row_of_use options u)) (find (λ (r : Row). bytes_eq r.id name) (rows_of_uses options uses)))) ≡ (t || is_used uses name)) [
      | true ↦ λ same. ap (λ (f : Bool). says_true (Some (text_of f u.value))) (ap (is_flag options) ((bytes_eq-Decides u.name name).0 same) ∙ is)
      | false ↦ λ different. rest
    ] refl

-- ---- the rows at the end

-- a row of another name changes no value
other_row : (rows : List Row) (r : Row) (name : Text) → bytes_eq r.id name ≡ false → first_of name (rows ++ r ∷ []) ≡ first_of name rows
other_row [] r name other = rw other refl
other_row (x ∷ rows) r name other =
    let rest = other_row rows r name other in
    elim (bytes_eq x.id name) as (λ t.
    option_and_then (λ (y : Row). slice_get y.values 0) (cond t (Some x) (find (λ (y : Row). bytes_eq y.id name) (rows ++ r ∷ [])))
    ≡ option_and_then (λ (y : Row). slice_get y.values 0) (cond t (Some x) (find (λ (y : Row). bytes_eq y.id name) rows))) [
      | true ↦ refl
      | false ↦ rest
    ]

-- the row of a flag that isn't used says no more than none
unused_says : (rows : List Row) (id name : Text) → says_true (first_of name (rows ++ unused_row id ∷ [])) ≡ says_true (first_of name rows)
unused_says [] id name =
    elim (bytes_eq id name) as (λ t. says_true (option_and_then (λ (y : Row). slice_get y.values 0) (cond t (Some (unused_row id)) None)) ≡ false) [
      | true ↦ refl
      | false ↦ refl
    ]
unused_says (x ∷ rows) id name =
    let rest = unused_says rows id name in
    elim (bytes_eq x.id name) as (λ t.
    says_true (option_and_then (λ (y : Row). slice_get y.values 0) (cond t (Some x) (find (λ (y : Row). bytes_eq y.id name) (rows ++ unused_row id ∷ []))))
    ≡ says_true (option_and_then (λ (y : Row). slice_get y.values 0) (cond t (Some x) (find (λ (y : Row). bytes_eq y.id name) rows)))) [
      | true ↦ refl
      | false ↦ rest
    ]

value_at_end : (name : Text) (rows : List Row) (options : List OptionRow) → is_valued options name ≡ true
    → first_of name (finished_rows options rows) ≡ first_of name rows
value_at_end name rows [] valued = refl
value_at_end name rows (row ∷ options) valued =
    let parts = and_parts (row.has_value || not (bytes_eq row.name name)) (is_valued options name) valued in
    value_at_end name (with_default rows (rule_for row)) options parts.1
    ∙ default_is (λ (after : List Row). first_of name after ≡ first_of name rows) rows row refl
    (λ value there. other_row rows (unused_row row.name) name (valued_bits row.has_value (bytes_eq row.name name) parts.0 value))

flag_at_end : (name : Text) (rows : List Row) (options : List OptionRow)
    → says_true (first_of name (finished_rows options rows)) ≡ says_true (first_of name rows)
flag_at_end name rows [] = refl
flag_at_end name rows (row ∷ options) =
    flag_at_end name (with_default rows (rule_for row)) options
    ∙ default_is (λ (after : List Row). says_true (first_of name after)
    ≡ says_true (first_of name rows)) rows row refl (λ value there. unused_says rows row.name name)

-- the value of an option at the end is the one that is used
value_at : (options : List OptionRow) (uses : List Use) (name : Text) → is_valued options name ≡ true
    → first_of name (rows_at_end options uses) ≡ value_of uses name
value_at options uses name valued = value_at_end name (rows_of_uses options uses) options valued ∙ value_row options uses name (no_flag options name valued)

-- a flag is set at the end where it is used
flag_at : (options : List OptionRow) (uses : List Use) (name : Text) → is_flag options name ≡ true
    → says_true (first_of name (rows_at_end options uses)) ≡ is_used uses name
flag_at options uses name is = flag_at_end name (rows_of_uses options uses) options ∙ flag_row options uses name is

-- ---- the commands

files_are : (options : List OptionRow) (uses : List Use) → is_valued options (codes "policy") ≡ true → is_valued options (codes "facts") ≡ true
    → is_valued options (codes "journals") ≡ true
    → files_in (rows_at_end options uses) ≡ files_of uses
files_are options uses policy facts journals =
    λ i. files_said (value_at options uses (codes "policy") policy i) (value_at options uses (codes "facts") facts i)
    (value_at options uses (codes "journals") journals i)

-- a row makes of the uses what it says
abbrev IsSaid : List Use → CommandRow → Type 0
IsSaid uses row = command_with row.name (rows_at_end row.options uses) ≡ row.says uses

batch_is : (uses : List Use) → IsSaid uses batch_row
batch_is uses =
    let options = batch_row.options in
    λ i. batch_said (files_are options uses refl refl refl i) (number_or 4 1 64 (value_at options uses (codes "workers") refl i))
    (value_at options uses (codes "standby") refl i)

audit_is : (uses : List Use) → IsSaid uses audit_row
audit_is uses =
    let options = audit_row.options in
    λ i. audit_said (files_are options uses refl refl refl i) (value_at options uses (codes "user") refl i) (flag_at options uses (codes "json") refl i)

selfrun_is : (uses : List Use) → IsSaid uses selfrun_row
selfrun_is uses =
    let options = selfrun_row.options in
    λ i. selfrun_said (number_from 0 4294967295 (value_at options uses (codes "seed") refl i))
    (number_from 1 256 (value_at options uses (codes "users") refl i))
    (number_from 1 10000 (value_at options uses (codes "asks") refl i))

serve_is : (uses : List Use) → IsSaid uses serve_row
serve_is uses =
    let options = serve_row.options in
    λ i. serve_said (files_are options uses refl refl refl i) (value_at options uses (codes "listen") refl i)
    (number_or 4 1 64 (value_at options uses (codes "workers") refl i))
    (number_or 1073741824 1 1000000 (value_at options uses (codes "sessions") refl i))
    (value_at options uses (codes "standby") refl i)

standby_is : (uses : List Use) → IsSaid uses standby_row
standby_is uses =
    let options = standby_row.options in
    λ i. standby_said (files_are options uses refl refl refl i) (value_at options uses (codes "listen") refl i)
    (number_or 1073741824 1 1000000 (value_at options uses (codes "sessions") refl i))

migrate_is : (uses : List Use) → IsSaid uses migrate_row
migrate_is uses =
    let options = migrate_row.options in
    λ i. migrate_said (files_are options uses refl refl refl i) (value_at options uses (codes "to") refl i)

dossier_is : (uses : List Use) → IsSaid uses dossier_row
dossier_is uses =
    let options = dossier_row.options in
    λ i. dossier_said (files_are options uses refl refl refl i) (value_at options uses (codes "user") refl i)

check_is : (uses : List Use) → IsSaid uses check_row
check_is uses =
    let options = check_row.options in
    λ i. check_said (value_at options uses (codes "policy") refl i) (value_at options uses (codes "facts") refl i)
    (value_at options uses (codes "user") refl i)

-- what all commands of a table have
abbrev Each : (CommandRow → Type 0) → List CommandRow → Type 0
Each P [] = ⊤
Each P (row ∷ table) = P row × Each P table

in_table : (P : CommandRow → Type 0) (table : List CommandRow) (word : Text) (row : CommandRow)
    → find (λ (r : CommandRow). bytes_eq r.name word) table ≡ Some row → Each P table → P row
in_table P [] word row is each = absurd (cc)
in_table P (first ∷ table) word row is each =
    elim (bytes_eq first.name word) as (λ t. cond t (Some first) (find (λ (r : CommandRow). bytes_eq r.name word) table) ≡ Some row → P row) [
      | true ↦ λ e. subst P (ap (λ (o : Option CommandRow). unwrap_or o first) e) each.0
      | false ↦ λ e. in_table P table word row e each.1
    ] is

-- what is made of the rows of a command is what it says
pub command_reading : (word : Text) (row : CommandRow) (uses : List Use) → command_of word ≡ Some row
    → command_with row.name (rows_at_end row.options uses) ≡ row.says uses
command_reading word row uses known =
    in_table (IsSaid uses) commands word row known (
      refl,
      (
        ap (option_map runs_init) (files_are init_row.options uses refl refl refl),
        (
          batch_is uses,
          (
            audit_is uses,
            (selfrun_is uses, (serve_is uses, (migrate_is uses, (dossier_is uses, (check_is uses, (standby_is uses, tt)))))),
          ),
        ),
      ),
    )
