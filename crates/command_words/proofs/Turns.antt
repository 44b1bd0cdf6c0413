-- One word of the walk over the options of a command.
use Rattle.std.proofs.Common.{◌≡◌, ℕ, ◌==◌, Bool, true, false, not, ◌&&◌, List, [], ◌∷◌, refl, sym, ap, ◌∙◌, subst, eqb-true}
use Rattle.std.specs.Prelude.{Option, Some, None, option_map, option_and_then, fold, bytes_eq, if◌then◌else◌}
use Rattle.std.specs.List.{before_first, after_first}
use Rattle.std.proofs.lemmas.Bool.{not-false}
use Rattle.std.proofs.lemmas.Slice.Eq.{bytes_eq-Decides}
use Rattle.clap.specs.Words.{Row, Rule, Shape, Text, Kinds}
use Rattle.clap.specs.Lexer.{has_byte, long_of, long_of_rest, short_of, short_of_rest, strip_byte}
use Rattle.clap.specs.Walk.{Held, Walk, arg_by_id, arg_by_long, finished, option, reacted, settled, walk_from, walked}
use Rattle.clap.specs.Kinds.{or_else}
use Rattle.clap.specs.Faults.{check_fault, defaults_fault, settle_fault, turn_fault, use_fault, walk_fault}
use Rattle.command_words.specs.Uses.{behind_hyphen, name_and_value, option_of, is_equals, with_value, followed}
use Rattle.command_words.specs.Readings.{CommandRow}
use Rattle.command_words.specs.Matched.{is_short}
use Rattle.command_words.proofs.Options.{Sort, by_id, by_index, by_long, needs, none, none_first, none_nil, rule_named, rule_of_sort, rules_for, shape_for}

-- what stands to be checked after the words
abbrev pub tail_fault : Shape → Held → Kinds
tail_fault s end = or_else (settle_fault s.rules s.args_override_self end)
    (or_else (defaults_fault (settled s.rules end).rows s.rules) (check_fault s (finished s.rules end) false))

-- the words pass from a state of the walk on
abbrev pub passes : CommandRow → Walk → List Text → Bool
passes row w words = none (or_else (walk_fault (shape_for row) [] w words) (tail_fault (shape_for row) (fold (walked (rules_for row.options) []) w words).held))

-- the rows at the end of the words
abbrev pub ends : CommandRow → Walk → List Text → List Row
ends row w words = finished (rules_for row.options) (fold (walked (rules_for row.options) []) w words).held

-- the first word passes
abbrev pub turns : CommandRow → Walk → Text → Bool
turns row w word = none (turn_fault (shape_for row) [] w word)

pub passes_step : (row : CommandRow) (w : Walk) (word : Text) (rest : List Text)
    → passes row w (word ∷ rest) ≡ (turns row w word && passes row (walked (rules_for row.options) [] w word) rest)
unfolding walk_fault
passes_step row w word rest =
    none_first (turn_fault (shape_for row) [] w word) (walk_fault (shape_for row) [] (walked (rules_for row.options) [] w word) rest) _

-- a word that names no option
pub record IsPlain (word : Text) : Type 0 where
  pub long : ◌≡◌ {A = Option (Text × Option Text)} (long_of word) None
  pub short : ◌≡◌ {A = Option Text} (short_of word) None
  pub no_end : bytes_eq word (45 ∷ 45 ∷ []) ≡ false
  pub names_none : ◌≡◌ {A = Option (Text × Option Text)} (option_of word) None
  pub as_value : (name : Text) → followed name word ≡ with_value name word

-- a word that names an option, or doesn't
pub data Named : Text → Type 0 where
  plain_word : {word : Text} → IsPlain word → Named word
  option_word : (x : ℕ) (xs : Text) → Named (45 ∷ 45 ∷ x ∷ xs)

one_byte : (a : ℕ) → IsPlain (a ∷ [])
one_byte a = record {
  long = elim (a == 45) as (λ t.
      ◌≡◌ {A = Option (Text × Option Text)} (option_and_then long_of_rest (option_and_then (strip_byte 45) (if t then Some [] else None))) None) [
        | true ↦ refl
        | false ↦ refl
      ];
  short = elim (a == 45) as (λ t. ◌≡◌ {A = Option Text} (option_and_then short_of_rest (if t then Some [] else None)) None) [
    | true ↦ refl
    | false ↦ refl
  ];
  no_end = elim (a == 45) as (λ t. (t && false) ≡ false) [
    | true ↦ refl
    | false ↦ refl
  ];
  names_none = elim (a == 45) as (λ t.
      ◌≡◌ {A = Option (Text × Option Text)} (option_and_then name_and_value (option_and_then behind_hyphen (if t then Some [] else None))) None) [
        | true ↦ refl
        | false ↦ refl
      ];
  as_value = λ name. refl;
}

other_start : (a b : ℕ) (rest : Text) → (a == 45) ≡ false → IsPlain (a ∷ b ∷ rest)
other_start a b rest other = record {
  long = rw other refl;
  short = rw other refl;
  no_end = rw other refl;
  names_none = rw other refl;
  as_value = λ name. rw other refl;
}

pub named : (word : Text) → is_short word ≡ false → Named word
named [] long = plain_word (record { long = refl; short = refl; no_end = refl; names_none = refl; as_value = λ name. refl })
named (a ∷ []) long = plain_word (one_byte a)
named (a ∷ b ∷ []) long = plain_word (other_start a b [] long)
named (a ∷ b ∷ c ∷ rest) long =
    elim (a == 45) as (λ t. (a == 45) ≡ t → (t && not (b == 45)) ≡ false → Named (a ∷ b ∷ c ∷ rest)) [
      | true ↦ λ first second.
          let a_is = eqb-true a 45 first in
          let b_is = eqb-true b 45 (not-false (b == 45) second) in
          subst (λ x. Named (x ∷ b ∷ c ∷ rest)) (sym a_is) (subst (λ y. Named (45 ∷ y ∷ c ∷ rest)) (sym b_is) (option_word c rest))
      | false ↦ λ other any. plain_word (other_start a b (c ∷ rest) other)
    ] refl long

-- the state in which an option waits for its value
abbrev pub awaiting : Text → Held → Walk
awaiting name h = record { held = record h { pending = Some (name, []) }; waiting = option name; position = 1; is_trailing = false; stopped = None }

-- a stray word fails, and changes nothing
pub idle_plain : (row : CommandRow) (h : Held) (word : Text) → IsPlain word
    → (turns row (walk_from h) word ≡ false) × (walked (rules_for row.options) [] (walk_from h) word ≡ walk_from h)
unfolding walked
idle_plain row h word plain = rw (plain.no_end, plain.long, plain.short, by_index row.options 1) (refl, refl)

-- a word that names an option
abbrev pub option_at : ℕ → Text → Text
option_at x xs = 45 ∷ 45 ∷ x ∷ xs

abbrev pub name_at : ℕ → Text → Text
name_at x xs = before_first is_equals (x ∷ xs)

abbrev pub value_at : ℕ → Text → Text
value_at x xs = after_first is_equals (x ∷ xs)

-- no rule has the name
no_rule : (row : CommandRow) (name : Text) → needs row.options name ≡ None → ◌≡◌ {A = Option Rule} (arg_by_long (rules_for row.options) name) None
no_rule row name unknown = by_long row.options name ∙ ap (option_map (rule_of_sort name)) unknown

long_rule : (row : CommandRow) (name : Text) (s : Sort) → needs row.options name ≡ Some s
    → arg_by_long (rules_for row.options) name ≡ Some (rule_of_sort name s)
long_rule row name s known = by_long row.options name ∙ ap (option_map (rule_of_sort name)) known

pub id_rule : (row : CommandRow) (name : Text) (s : Sort) → needs row.options name ≡ Some s
    → arg_by_id (rules_for row.options) name ≡ Some (rule_of_sort name s)
id_rule row name s known = by_id row.options name ∙ ap (option_map (rule_of_sort name)) known

-- a name that no option has fails, and changes nothing
pub idle_unknown : (row : CommandRow) (h : Held) (x : ℕ) (xs : Text) → needs row.options (name_at x xs) ≡ None
    → (turns row (walk_from h) (option_at x xs) ≡ false) × (walked (rules_for row.options) [] (walk_from h) (option_at x xs) ≡ walk_from h)
unfolding walked
idle_unknown row h x xs unknown = rw (no_rule row (name_at x xs) unknown, by_index row.options 1) (refl, refl)

none_three : (a b : Kinds) → none (or_else (or_else a b) []) ≡ (none a && none b)
none_three [] b = none_nil b
none_three (k ∷ ks) b = refl

-- an option with its value in the word
pub idle_attached : (row : CommandRow) (h : Held) (x : ℕ) (xs : Text) (is_needed : Bool) → needs row.options (name_at x xs) ≡ Some (is_needed, true)
    → has_byte 61 (x ∷ xs) ≡ true
    → (turns row (walk_from h) (option_at x xs)
    ≡ (none (settle_fault (rules_for row.options) false h)
    && none (use_fault false (rule_named (name_at x xs) is_needed true) (value_at x xs ∷ []) (settled (rules_for row.options) h).rows)))
    × (walked (rules_for row.options) [] (walk_from h) (option_at x xs)
    ≡ walk_from (reacted (rules_for row.options) (rule_named (name_at x xs) is_needed true) (value_at x xs ∷ []) h))
unfolding walked
idle_attached row h x xs is_needed known has =
    rw (long_rule row (name_at x xs) (is_needed, true) known, has) (none_three (settle_fault (rules_for row.options) false h) _, refl)

-- a flag
pub idle_flag : (row : CommandRow) (h : Held) (x : ℕ) (xs : Text) (is_needed : Bool) → needs row.options (name_at x xs) ≡ Some (is_needed, false)
    → has_byte 61 (x ∷ xs) ≡ false
    → (turns row (walk_from h) (option_at x xs)
    ≡ (none (settle_fault (rules_for row.options) false h)
    && none (use_fault false (rule_named (name_at x xs) is_needed false) [] (settled (rules_for row.options) h).rows)))
    × (walked (rules_for row.options) [] (walk_from h) (option_at x xs)
    ≡ walk_from (reacted (rules_for row.options) (rule_named (name_at x xs) is_needed false) [] h))
unfolding walked
idle_flag row h x xs is_needed known has =
    rw (long_rule row (name_at x xs) (is_needed, false) known, has) (none_three (settle_fault (rules_for row.options) false h) _, refl)

-- a flag with a value in the word fails, and changes nothing
pub idle_flag_valued : (row : CommandRow) (h : Held) (x : ℕ) (xs : Text) (is_needed : Bool) → needs row.options (name_at x xs) ≡ Some (is_needed, false)
    → has_byte 61 (x ∷ xs) ≡ true
    → (turns row (walk_from h) (option_at x xs) ≡ false) × (walked (rules_for row.options) [] (walk_from h) (option_at x xs) ≡ walk_from h)
unfolding walked
idle_flag_valued row h x xs is_needed known has = rw (long_rule row (name_at x xs) (is_needed, false) known, has, by_index row.options 1) (refl, refl)

-- an option whose value is to follow
pub idle_apart : (row : CommandRow) (h : Held) (x : ℕ) (xs : Text) (is_needed : Bool) → needs row.options (name_at x xs) ≡ Some (is_needed, true)
    → has_byte 61 (x ∷ xs) ≡ false
    → (turns row (walk_from h) (option_at x xs) ≡ none (settle_fault (rules_for row.options) false h))
    × (walked (rules_for row.options) [] (walk_from h) (option_at x xs) ≡ awaiting (name_at x xs) (settled (rules_for row.options) h))
unfolding walked
idle_apart row h x xs is_needed known has =
    rw (long_rule row (name_at x xs) (is_needed, true) known, has) (none_nil (settle_fault (rules_for row.options) false h), refl)

-- no word follows an option that waits for one
pub awaiting_end : (row : CommandRow) (name : Text) (h : Held) (is_needed : Bool) → needs row.options name ≡ Some (is_needed, true)
    → passes row (awaiting name h) [] ≡ false
unfolding walk_fault
awaiting_end row name h is_needed known = rw (id_rule row name (is_needed, true) known) refl

-- an option follows one that waits for a value
pub awaiting_option : (row : CommandRow) (name : Text) (h : Held) (is_needed : Bool) (x : ℕ) (xs : Text) → needs row.options name ≡ Some (is_needed, true)
    → turns row (awaiting name h) (option_at x xs) ≡ false
awaiting_option row name h is_needed x xs known = go (needs row.options (name_at x xs)) refl (has_byte 61 (x ∷ xs)) refl
  where
    go : (o : Option Sort) → needs row.options (name_at x xs) ≡ o → (t : Bool) → has_byte 61 (x ∷ xs) ≡ t → turns row (awaiting name h) (option_at x xs) ≡ false
    go None unknown t has = rw (no_rule row (name_at x xs) unknown) refl
    go (Some (other, true)) found true has = rw (long_rule row (name_at x xs) (other, true) found, has, id_rule row name (is_needed, true) known) refl
    go (Some (other, true)) found false has = rw (long_rule row (name_at x xs) (other, true) found, has, id_rule row name (is_needed, true) known) refl
    go (Some (other, false)) found true has = rw (long_rule row (name_at x xs) (other, false) found, has) refl
    go (Some (other, false)) found false has = rw (long_rule row (name_at x xs) (other, false) found, has, id_rule row name (is_needed, true) known) refl

-- a value follows
pub awaiting_plain : (row : CommandRow) (name : Text) (h : Held) (is_needed : Bool) (word : Text) → needs row.options name ≡ Some (is_needed, true)
    → IsPlain word
    → (turns row (awaiting name h) word ≡ true)
    × (walked (rules_for row.options) [] (awaiting name h) word ≡ walk_from (record h { pending = Some (name, word ∷ []) }))
unfolding walked
awaiting_plain row name h is_needed word known plain =
    let same : bytes_eq name name ≡ true = (bytes_eq-Decides name name).1 refl in
    rw (plain.no_end, plain.long, plain.short, id_rule row name (is_needed, true) known, same) (refl, refl)
