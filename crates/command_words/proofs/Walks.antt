-- The walk over the options of a command gives the uses that the words make.
use Rattle.std.proofs.Common.{◌≡◌, ℕ, Bool, true, false, not, ◌&&◌, ◌||◌, List, [], ◌∷◌, ◌++◌, refl, sym, ap, ◌∙◌, true≢false, arith, append_assoc}
use Rattle.std.specs.Prelude.{Option, Some, None, is_some, nat_lt, length, unwrap_or, if◌then◌else◌}
use Rattle.std.specs.List.{list_any}
use Rattle.std.specs.Option.{option_map_or}
use Rattle.std.proofs.Math.Bool.{and-false, and-true}
use Rattle.std.proofs.lemmas.Bool.{lt-ltb, or_parts}
use Rattle.clap.specs.Words.{Row, Rule, Text, Kinds}
use Rattle.clap.specs.Lexer.{has_byte}
use Rattle.clap.specs.Walk.{Held, Walk, settled, used, used_by_id, walk_from, walked}
use Rattle.clap.specs.Faults.{check_fault, defaults_fault, settle_fault, use_fault, walk_fault}
use Rattle.command_words.specs.Uses.{OptionRow, Use, alone, in_front, is_flag, uses_of, with_value, followed, is_value_word}
use Rattle.command_words.specs.Readings.{CommandRow, is_used}
use Rattle.command_words.specs.Matched.{is_short}
use Rattle.command_words.proofs.Options.{Sort, append_nil, check_passes, defaults_pass, finished_rows, flag_behind, flag_is, flag_passes, is_complete, needs}
use Rattle.command_words.proofs.Options.{none, none_both, rows_of_uses, rule_named, rules_for, shape_for, use_passes, used_behind}
use Rattle.command_words.proofs.Turns.{IsPlain, Named, plain_word, option_word, named, option_at, name_at, value_at, passes, ends, turns, passes_step}
use Rattle.command_words.proofs.Turns.{idle_plain, idle_unknown, idle_attached, idle_apart, idle_flag, idle_flag_valued, awaiting, awaiting_end}
use Rattle.command_words.proofs.Turns.{awaiting_option, awaiting_plain, id_rule}

-- what an idle state and the same with its last use settled have in common
pub record Settles (row : CommandRow) (h : Held) (words : List Text) : Type 0 where
  pub passes : passes row (walk_from h) words
      ≡ (none (settle_fault (rules_for row.options) false h) && passes row (walk_from (settled (rules_for row.options) h)) words)
  pub ends : ends row (walk_from h) words ≡ ends row (walk_from (settled (rules_for row.options) h)) words

and_assoc : (a b c : Bool) → ((a && b) && c) ≡ (a && (b && c))
and_assoc true b c = refl
and_assoc false b c = refl

-- the first word, and the others from the state behind it
join : (row : CommandRow) (w : Walk) (word : Text) (rest : List Text) (t : Bool) (next : Walk) → turns row w word ≡ t
    → walked (rules_for row.options) [] w word ≡ next
    → passes row w (word ∷ rest) ≡ (t && passes row next rest)
join row w word rest t next turned moved = passes_step row w word rest ∙ (λ i. turned i && passes row (moved i) rest)

-- the first word fails, and changes nothing
both_fail : (row : CommandRow) (h : Held) (word : Text) (rest : List Text)
    → (turns row (walk_from h) word ≡ false) × (walked (rules_for row.options) [] (walk_from h) word ≡ walk_from h)
    → (turns row (walk_from (settled (rules_for row.options) h)) word ≡ false)
    × (walked (rules_for row.options) [] (walk_from (settled (rules_for row.options) h)) word ≡ walk_from (settled (rules_for row.options) h))
    → Settles row h rest → Settles row h (word ∷ rest)
both_fail row h word rest one two later = record {
  passes = join row (walk_from h) word rest false (walk_from h) one.0 one.1
      ∙ sym (and-false (none (settle_fault (rules_for row.options) false h)))
      ∙ ap (λ (b : Bool). none (settle_fault (rules_for row.options) false h)
      && b) (sym (join row (walk_from (settled (rules_for row.options) h)) word rest false _ two.0 two.1));
  ends = ap (λ (w : Walk). ends row w rest) one.1 ∙ later.ends ∙ sym (ap (λ (w : Walk). ends row w rest) two.1);
}

-- the first word is used behind what is settled
both_use : (row : CommandRow) (h : Held) (word : Text) (rest : List Text) (good : Bool) (next : Walk)
    → (turns row (walk_from h) word ≡ (none (settle_fault (rules_for row.options) false h) && good))
    × (walked (rules_for row.options) [] (walk_from h) word ≡ next)
    → (turns row (walk_from (settled (rules_for row.options) h)) word ≡ good)
    × (walked (rules_for row.options) [] (walk_from (settled (rules_for row.options) h)) word ≡ next)
    → Settles row h (word ∷ rest)
both_use row h word rest good next one two = record {
  passes = join row (walk_from h) word rest _ _ one.0 one.1
      ∙ and_assoc (none (settle_fault (rules_for row.options) false h)) good _
      ∙ ap (λ (b : Bool). none (settle_fault (rules_for row.options) false h)
      && b) (sym (join row (walk_from (settled (rules_for row.options) h)) word rest _ _ two.0 two.1));
  ends = ap (λ (w : Walk). ends row w rest) one.1 ∙ sym (ap (λ (w : Walk). ends row w rest) two.1);
}

-- the word names an option
option_settles : (row : CommandRow) (h : Held) (x : ℕ) (xs : Text) (rest : List Text) (o : Option Sort) → needs row.options (name_at x xs) ≡ o → (t : Bool)
    → has_byte 61 (x ∷ xs) ≡ t
    → Settles row h rest → Settles row h (option_at x xs ∷ rest)
option_settles row h x xs rest None unknown t has later =
    both_fail row h (option_at x xs) rest (idle_unknown row h x xs unknown) (idle_unknown row (settled (rules_for row.options) h) x xs unknown) later
option_settles row h x xs rest (Some (is_needed, true)) known true has later =
    both_use row h (option_at x xs) rest _ _ (idle_attached row h x xs is_needed known has)
    (idle_attached row (settled (rules_for row.options) h) x xs is_needed known has)
option_settles row h x xs rest (Some (is_needed, true)) known false has later =
    let one = idle_apart row h x xs is_needed known has in
    let two = idle_apart row (settled (rules_for row.options) h) x xs is_needed known has in record {
      passes = join row (walk_from h) (option_at x xs) rest _ _ one.0 one.1
          ∙ ap (λ (b : Bool). none (settle_fault (rules_for row.options) false h)
          && b) (sym (join row (walk_from (settled (rules_for row.options) h)) (option_at x xs) rest _ _ two.0 two.1));
      ends = ap (λ (w : Walk). ends row w rest) one.1 ∙ sym (ap (λ (w : Walk). ends row w rest) two.1);
    }
option_settles row h x xs rest (Some (is_needed, false)) known true has later =
    both_fail row h (option_at x xs) rest (idle_flag_valued row h x xs is_needed known has)
    (idle_flag_valued row (settled (rules_for row.options) h) x xs is_needed known has) later
option_settles row h x xs rest (Some (is_needed, false)) known false has later =
    both_use row h (option_at x xs) rest _ _ (idle_flag row h x xs is_needed known has)
    (idle_flag row (settled (rules_for row.options) h) x xs is_needed known has)

word_settles : (row : CommandRow) (h : Held) (word : Text) (rest : List Text) → Named word → Settles row h rest → Settles row h (word ∷ rest)
word_settles row h word rest (plain_word plain) later =
    both_fail row h word rest (idle_plain row h word plain) (idle_plain row (settled (rules_for row.options) h) word plain) later
word_settles row h word rest (option_word x xs) later = option_settles row h x xs rest (needs row.options (name_at x xs)) refl (has_byte 61 (x ∷ xs)) refl later

pub settles : (row : CommandRow) (h : Held) (words : List Text) → list_any is_short words ≡ false → Settles row h words
unfolding walk_fault
settles row h [] long = record { passes = none_both (settle_fault (rules_for row.options) false h) _; ends = refl }
settles row h (word ∷ rest) long =
    let parts = or_parts (is_short word) (list_any is_short rest) long in
    word_settles row h word rest (named word parts.0) (settles row h rest parts.1)

-- uses that follow others are of options, and none is used again
abbrev pub extends : List OptionRow → List Use → List Use → Bool
extends options given [] = true
extends options given (u ∷ uses) = is_some (needs options u.name) && (not (is_used given u.name) && extends options (given ++ u ∷ []) uses)

-- uses that follow others are good, and whole with them
abbrev pub completes : List OptionRow → List Use → Option (List Use) → Bool
completes options given None = false
completes options given (Some uses) = extends options given uses && is_complete options (given ++ uses)

-- the state after these uses
abbrev pub held : List OptionRow → List Use → Held
held options given = record { rows = rows_of_uses options given; pending = None; skip = 0 }

-- the rows at the end of these uses
abbrev pub rows_at_end : List OptionRow → List Use → List Row
rows_at_end options uses = finished_rows options (rows_of_uses options uses)

-- what the walk gives after these uses
pub record Gives (row : CommandRow) (given : List Use) (words : List Text) : Type 0 where
  pub passes : passes row (walk_from (held row.options given)) words ≡ completes row.options given (uses_of row.options words)
  pub ends : (uses : List Use) → uses_of row.options words ≡ Some uses → extends row.options given uses ≡ true
      → ends row (walk_from (held row.options given)) words ≡ rows_at_end row.options (given ++ uses)

-- the same where the next use and the uses behind it are known
pub record GivesAs (row : CommandRow) (given : List Use) (w : Walk) (words : List Text) (o : Option (List Use)) (first : Bool) : Type 0 where
  pub passes : (first && passes row w words) ≡ completes row.options given o
  pub ends : (uses : List Use) → o ≡ Some uses → extends row.options given uses ≡ true → ends row w words ≡ rows_at_end row.options (given ++ uses)

front_used : (options : List OptionRow) (given : List Use) (u : Use) (o : Option (List Use)) → is_used given u.name ≡ true
    → completes options given (in_front (Some u) o) ≡ false
front_used options given u None again = refl
front_used options given u (Some uses) again =
    let known = is_some (needs options u.name) in
    rw again (ap (λ (b : Bool). b && is_complete options (given ++ u ∷ uses)) (and-false known))

front_fresh : (options : List OptionRow) (given : List Use) (u : Use) (o : Option (List Use)) (s : Sort) → needs options u.name ≡ Some s
    → is_used given u.name ≡ false
    → completes options (given ++ u ∷ []) o ≡ completes options given (in_front (Some u) o)
front_fresh options given u None s known fresh = refl
front_fresh options given u (Some uses) s known fresh =
    rw (known, fresh) (ap (λ (all : List Use). extends options (given ++ u ∷ []) uses && is_complete options all) (append_assoc given (u ∷ []) uses))

-- a first use of no option
front_unknown : (options : List OptionRow) (given : List Use) (w : Option Use) → ((u : Use) → w ≡ Some u → needs options u.name ≡ None)
    → (o : Option (List Use))
    → (completes options given (in_front w o) ≡ false) × ((uses : List Use) → in_front w o ≡ Some uses → extends options given uses ≡ false)
front_unknown options given None unknown o = (refl, λ uses none. absurd (cc))
front_unknown options given (Some u) unknown None = (refl, λ uses none. absurd (cc))
front_unknown options given (Some u) unknown (Some more) =
    let missing = unknown u refl in (
      rw missing refl,
      λ uses are.
          let all : u ∷ more ≡ uses = ap (λ (o : Option (List Use)). unwrap_or o []) are in
          let first : extends options given (u ∷ more) ≡ false = rw missing refl in
          ap (extends options given) (sym all) ∙ first,
    )

same_use : (u w : Use) → Some u ≡ Some w → u ≡ w
same_use u w e = ap (λ (o : Option Use). unwrap_or o u) e

value_name : (name v : Text) (u : Use) → with_value name v ≡ Some u → name ≡ u.name
value_name name [] u none = absurd (cc)
value_name name (b ∷ v) u is = ap (λ (w : Use). w.name) (same_use _ u is)

followed_name : (name next : Text) (u : Use) → followed name next ≡ Some u → name ≡ u.name
followed_name name next u =
    elim (is_value_word next) as (λ t. (if t then Some (record { name = name; value = next }) else None) ≡ Some u → name ≡ u.name) [
      | true ↦ λ is. ap (λ (w : Use). w.name) (same_use _ u is)
      | false ↦ λ none. absurd (cc)
    ]

-- the uses behind the first one
behind_front : (given : List Use) (options : List OptionRow) (u : Use) (more : List Use) (s : Sort) → needs options u.name ≡ Some s
    → extends options given (u ∷ more) ≡ true
    → (is_used given u.name ≡ false) × (extends options (given ++ u ∷ []) more ≡ true)
behind_front given options u more s known good =
    elim (is_used given u.name) as (λ t. (is_some (needs options u.name) && (not t && extends options (given ++ u ∷ []) more)) ≡ true → (t ≡ false)
    × (extends options (given ++ u ∷ []) more ≡ true)) [
      | true ↦ λ e. absurd (true≢false (sym e ∙ and-false (is_some (needs options u.name))))
      | false ↦ λ e. (refl, (rw known at e))
    ] good

-- the state with these rows
abbrev state_of : List Row → Walk
state_of rows = walk_from (record { rows = rows; pending = None; skip = 0 })

-- a use that is the first of its name, or is refused, and the words behind it
use_gives : (row : CommandRow) (given : List Use) (u : Use) (s : Sort) (rest : List Text) (first : Bool) (rows : List Row) → needs row.options u.name ≡ Some s
    → first ≡ not (is_used given u.name) → (is_used given u.name ≡ false → rows ≡ rows_of_uses row.options (given ++ u ∷ []))
    → ((more : List Use) → Gives row more rest) → GivesAs row given (state_of rows) rest (in_front (Some u) (uses_of row.options rest)) first
use_gives row given u s rest first rows known is behind later = record {
  passes = passed (is_used given u.name) refl;
  ends = λ uses are good. ended uses good (uses_of row.options rest) refl are;
}
  where
    passed : (t : Bool) → is_used given u.name ≡ t
        → (first && passes row (state_of rows) rest) ≡ completes row.options given (in_front (Some u) (uses_of row.options rest))
    passed true again =
        ap (λ (t : Bool). t && passes row (state_of rows) rest) (is ∙ ap (λ (t : Bool). not t) again)
        ∙ sym (front_used row.options given u (uses_of row.options rest) again)
    passed false fresh =
        ap (λ (t : Bool). t && passes row (state_of rows) rest) (is ∙ ap (λ (t : Bool). not t) fresh)
        ∙ ap (λ (l : List Row). passes row (state_of l) rest) (behind fresh)
        ∙ (later (given ++ u ∷ [])).passes
        ∙ front_fresh row.options given u (uses_of row.options rest) s known fresh

    ended : (uses : List Use) → extends row.options given uses ≡ true → (o : Option (List Use)) → uses_of row.options rest ≡ o → in_front (Some u) o ≡ Some uses
        → ends row (state_of rows) rest ≡ rows_at_end row.options (given ++ uses)
    ended uses good None are bad = absurd (cc)
    ended uses good (Some more) are same =
        let all : u ∷ more ≡ uses = ap (λ (o : Option (List Use)). unwrap_or o []) same in
        let parts = behind_front given row.options u more s known (ap (extends row.options given) all ∙ good) in
        ap (λ (l : List Row). ends row (state_of l) rest) (behind parts.0)
        ∙ (later (given ++ u ∷ [])).ends more are parts.1
        ∙ ap (rows_at_end row.options) (append_assoc given (u ∷ []) more)
        ∙ ap (λ (l : List Use). rows_at_end row.options (given ++ l)) all

-- an option of the sort with a value, or without one
flag_known : (options : List OptionRow) (name : Text) (is_needed has_value : Bool) → needs options name ≡ Some (is_needed, has_value)
    → is_flag options name ≡ not has_value
flag_known options name is_needed has_value known = flag_is options name ∙ ap (λ (o : Option Sort). option_map_or (λ (s : Sort). not s.1) o false) known

flag_unknown : (options : List OptionRow) (name : Text) → needs options name ≡ None → is_flag options name ≡ false
flag_unknown options name unknown = flag_is options name ∙ ap (λ (o : Option Sort). option_map_or (λ (s : Sort). not s.1) o false) unknown

-- a use of an option with this value, and the words behind it
value_gives : (row : CommandRow) (given : List Use) (name v : Text) (is_needed : Bool) (rest : List Text) → needs row.options name ≡ Some (is_needed, true)
    → ((more : List Use) → Gives row more rest)
    → GivesAs row given (state_of (used (rule_named name is_needed true) (v ∷ []) (rows_of_uses row.options given))) rest
    (in_front (with_value name v) (uses_of row.options rest))
    (none (use_fault false (rule_named name is_needed true) (v ∷ []) (rows_of_uses row.options given)))
value_gives row given name [] is_needed rest known later = record {
  passes = ap (λ (t : Bool). t
      && passes row (state_of (used (rule_named name is_needed true) ([] ∷ []) (rows_of_uses row.options given))) rest)
      (use_passes row.options name is_needed [] given ∙ and-false (not (is_used given name)));
  ends = λ uses none good. absurd (cc);
}
value_gives row given name (b ∷ v) is_needed rest known later =
    let is_there : nat_lt 0 (length (b ∷ v)) ≡ true = lt-ltb 0 (length (b ∷ v)) (omega arith) in
    use_gives row given (record { name = name; value = b ∷ v }) (is_needed, true) rest _ _ known
    (use_passes row.options name is_needed (b ∷ v) given ∙ ap (λ (t : Bool). not (is_used given name) && t) is_there ∙ and-true (not (is_used given name)))
    (λ fresh. used_behind row.options name is_needed (b ∷ v) given fresh (flag_known row.options name is_needed true known))
    later

-- the uses of the words, by the first
uses_plain : (options : List OptionRow) (word : Text) (rest : List Text) → IsPlain word → ◌≡◌ {A = Option (List Use)} (uses_of options (word ∷ rest)) None
unfolding uses_of
uses_plain options word [] plain = rw plain.names_none refl
uses_plain options word (next ∷ rest) plain = rw plain.names_none refl

-- a word with the value of its option, or of a flag
pub uses_attached : (options : List OptionRow) (x : ℕ) (xs : Text) (rest : List Text) (flag : Bool) → is_flag options (name_at x xs) ≡ flag
    → has_byte 61 (x ∷ xs) ≡ true
    → uses_of options (option_at x xs ∷ rest) ≡ in_front (alone flag (name_at x xs) (Some (value_at x xs))) (uses_of options rest)
unfolding uses_of
uses_attached options x xs [] flag is has = rw (has, is) refl
uses_attached options x xs (next ∷ rest) true is has = rw (has, is) refl
uses_attached options x xs (next ∷ rest) false is has = rw (has, is) refl

-- a flag
pub uses_flag : (options : List OptionRow) (x : ℕ) (xs : Text) (rest : List Text) → is_flag options (name_at x xs) ≡ true → has_byte 61 (x ∷ xs) ≡ false
    → uses_of options (option_at x xs ∷ rest) ≡ in_front (Some (record { name = name_at x xs; value = [] })) (uses_of options rest)
unfolding uses_of
uses_flag options x xs [] is has = rw (has, is) refl
uses_flag options x xs (next ∷ rest) is has = rw (has, is) refl

uses_alone : (options : List OptionRow) (x : ℕ) (xs : Text) → is_flag options (name_at x xs) ≡ false → has_byte 61 (x ∷ xs) ≡ false → ◌≡◌ {A =
    Option (List Use)} (uses_of options (option_at x xs ∷ [])) None
unfolding uses_of
uses_alone options x xs is has = rw (has, is) refl

pub uses_apart : (options : List OptionRow) (x : ℕ) (xs next : Text) (rest : List Text) → is_flag options (name_at x xs) ≡ false → has_byte 61 (x ∷ xs) ≡ false
    → uses_of options (option_at x xs ∷ next ∷ rest) ≡ in_front (followed (name_at x xs) next) (uses_of options rest)
unfolding uses_of
uses_apart options x xs next rest is has = rw (has, is) refl

-- words that make no use
no_use : (row : CommandRow) (given : List Use) (words : List Text) → passes row (walk_from (held row.options given)) words ≡ false → ◌≡◌ {A =
    Option (List Use)} (uses_of row.options words) None → Gives row given words
no_use row given words fails none = record {
  passes = fails ∙ sym (ap (completes row.options given) none);
  ends = λ uses are good. let bad : ◌≡◌ {A = Option (List Use)} None (Some uses) = sym none ∙ are in absurd (cc);
}

-- no words are left
nothing_left : (row : CommandRow) (given : List Use) → Gives row given []
unfolding walk_fault uses_of
nothing_left row given = record {
  passes = none_both (defaults_fault (rows_of_uses row.options given) (rules_for row.options))
      (check_fault (shape_for row) (rows_at_end row.options given) false)
      ∙ ap (λ (k : Kinds). none k
      && none (check_fault (shape_for row) (rows_at_end row.options given) false)) (defaults_pass (rows_of_uses row.options given) row.options)
      ∙ check_passes row given
      ∙ ap (is_complete row.options) (sym (append_nil given));
  ends = λ uses are good.
      let all : [] ≡ uses = ap (λ (o : Option (List Use)). unwrap_or o []) are in
      ap (rows_at_end row.options) (sym (append_nil given)) ∙ ap (λ (l : List Use). rows_at_end row.options (given ++ l)) all;
}

-- a word that is a use, and the words behind it
word_gives : (row : CommandRow) (given : List Use) (word : Text) (rest : List Text) (first : Bool) (next : Walk) (o : Option (List Use))
    → (turns row (walk_from (held row.options given)) word ≡ first) × (walked (rules_for row.options) [] (walk_from (held row.options given)) word ≡ next)
    → uses_of row.options (word ∷ rest) ≡ o → GivesAs row given next rest o first → Gives row given (word ∷ rest)
word_gives row given word rest first next o turn uses behind = record {
  passes = join row (walk_from (held row.options given)) word rest _ _ turn.0 turn.1 ∙ behind.passes ∙ ap (completes row.options given) (sym uses);
  ends = λ all are good. ap (λ (w : Walk). ends row w rest) turn.1 ∙ behind.ends all (sym uses ∙ are) good;
}

-- an option with its value in the word
attached_gives : (row : CommandRow) (given : List Use) (x : ℕ) (xs : Text) (rest : List Text) (is_needed : Bool)
    → needs row.options (name_at x xs) ≡ Some (is_needed, true) → has_byte 61 (x ∷ xs) ≡ true
    → ((more : List Use) → Gives row more rest) → Gives row given (option_at x xs ∷ rest)
attached_gives row given x xs rest is_needed known has later =
    word_gives row given (option_at x xs) rest _ _ _ (idle_attached row (held row.options given) x xs is_needed known has)
    (uses_attached row.options x xs rest false (flag_known row.options (name_at x xs) is_needed true known) has)
    (value_gives row given (name_at x xs) (value_at x xs) is_needed rest known later)

-- a flag
flag_gives : (row : CommandRow) (given : List Use) (x : ℕ) (xs : Text) (rest : List Text) (is_needed : Bool)
    → needs row.options (name_at x xs) ≡ Some (is_needed, false) → has_byte 61 (x ∷ xs) ≡ false
    → ((more : List Use) → Gives row more rest) → Gives row given (option_at x xs ∷ rest)
flag_gives row given x xs rest is_needed known has later =
    let is = flag_known row.options (name_at x xs) is_needed false known in
    word_gives row given (option_at x xs) rest _ _ _ (idle_flag row (held row.options given) x xs is_needed known has)
    (uses_flag row.options x xs rest is has)
    (use_gives row given (record { name = name_at x xs; value = [] }) (is_needed, false) rest _ _ known (flag_passes row.options (name_at x xs) is_needed given)
    (λ fresh. flag_behind row.options (name_at x xs) is_needed given fresh is) later)

-- a flag with a value
flag_valued : (row : CommandRow) (given : List Use) (x : ℕ) (xs : Text) (rest : List Text) (is_needed : Bool)
    → needs row.options (name_at x xs) ≡ Some (is_needed, false) → has_byte 61 (x ∷ xs) ≡ true
    → Gives row given (option_at x xs ∷ rest)
flag_valued row given x xs rest is_needed known has =
    let turn = idle_flag_valued row (held row.options given) x xs is_needed known has in
    no_use row given (option_at x xs ∷ rest) (join row (walk_from (held row.options given)) (option_at x xs) rest false _ turn.0 turn.1)
    (uses_attached row.options x xs rest true (flag_known row.options (name_at x xs) is_needed false known) has)

-- uses that are those of a use in front of others
gives_none : (row : CommandRow) (given : List Use) (words : List Text) → passes row (walk_from (held row.options given)) words ≡ false
    → (w : Option Use) (o : Option (List Use)) → uses_of row.options words ≡ in_front w o
    → ((u : Use) → w ≡ Some u → needs row.options u.name ≡ None) → Gives row given words
gives_none row given words fails w o is unknown =
    let front = front_unknown row.options given w unknown o in record {
      passes = fails ∙ sym front.0 ∙ ap (completes row.options given) (sym is);
      ends = λ uses are good. absurd (true≢false (sym good ∙ front.1 uses (sym is ∙ are)));
    }

-- a name that no option has
unknown_gives : (row : CommandRow) (given : List Use) (x : ℕ) (xs : Text) (rest : List Text) (t : Bool) → has_byte 61 (x ∷ xs) ≡ t
    → needs row.options (name_at x xs) ≡ None → Gives row given (option_at x xs ∷ rest)
unknown_gives row given x xs rest t has unknown = by_form rest t has
  where
    other : is_flag row.options (name_at x xs) ≡ false
    other = flag_unknown row.options (name_at x xs) unknown

    fails : (words : List Text) → passes row (walk_from (held row.options given)) (option_at x xs ∷ words) ≡ false
    fails words =
        let turn = idle_unknown row (held row.options given) x xs unknown in
        join row (walk_from (held row.options given)) (option_at x xs) words false _ turn.0 turn.1

    by_form : (words : List Text) (t : Bool) → has_byte 61 (x ∷ xs) ≡ t → Gives row given (option_at x xs ∷ words)
    by_form words true has =
        gives_none row given (option_at x xs ∷ words) (fails words) (with_value (name_at x xs) (value_at x xs)) (uses_of row.options words)
        (uses_attached row.options x xs words false other has)
        (λ u is. ap (needs row.options) (sym (value_name (name_at x xs) (value_at x xs) u is)) ∙ unknown)
    by_form [] false has = no_use row given (option_at x xs ∷ []) (fails []) (uses_alone row.options x xs other has)
    by_form (next ∷ words) false has =
        gives_none row given (option_at x xs ∷ next ∷ words) (fails (next ∷ words)) (followed (name_at x xs) next) (uses_of row.options words)
        (uses_apart row.options x xs next words other has)
        (λ u is. ap (needs row.options) (sym (followed_name (name_at x xs) next u is)) ∙ unknown)

-- an option whose value is the next word
apart_gives : (row : CommandRow) (given : List Use) (x : ℕ) (xs next : Text) (rest : List Text) (is_needed : Bool)
    → needs row.options (name_at x xs) ≡ Some (is_needed, true) → has_byte 61 (x ∷ xs) ≡ false
    → list_any is_short rest ≡ false → Named next → ((more : List Use) → Gives row more rest) → Gives row given (option_at x xs ∷ next ∷ rest)
apart_gives row given x xs next rest is_needed known has long (plain_word plain) later =
    let name = name_at x xs in
    let start = held row.options given in
    let first = idle_apart row start x xs is_needed known has in
    let second = awaiting_plain row name start is_needed next known plain in
    let settle = settles row (record start { pending = Some (name, next ∷ []) }) rest long in
    let rule = id_rule row name (is_needed, true) known in
    let value = value_gives row given name next is_needed rest known later in
    let uses = uses_apart row.options x xs next rest (flag_known row.options name is_needed true known) has
    ∙ ap (λ (w : Option Use). in_front w (uses_of row.options rest)) (plain.as_value name) in record {
      passes = join row (walk_from start) (option_at x xs) (next ∷ rest) _ _ first.0 first.1
          ∙ join row (awaiting name start) next rest _ _ second.0 second.1
          ∙ settle.passes
          ∙ (λ i. none (option_map_or (λ (a : Rule). use_fault false a (next ∷ []) (rows_of_uses row.options given)) (rule i) [])
          && passes row (state_of (used_by_id (rule i) (next ∷ []) (rows_of_uses row.options given))) rest)
          ∙ value.passes
          ∙ ap (completes row.options given) (sym uses);
      ends = λ all are good.
          ap (λ (w : Walk). ends row w (next ∷ rest)) first.1
          ∙ ap (λ (w : Walk). ends row w rest) second.1
          ∙ settle.ends
          ∙ ap (λ (r : Option Rule). ends row (state_of (used_by_id r (next ∷ []) (rows_of_uses row.options given))) rest) rule
          ∙ value.ends all (sym uses ∙ are) good;
    }
apart_gives row given x xs next rest is_needed known has long (option_word y ys) later =
    let name = name_at x xs in
    let start = held row.options given in
    let first = idle_apart row start x xs is_needed known has in
    no_use row given (option_at x xs ∷ option_at y ys ∷ rest)
    (join row (walk_from start) (option_at x xs) (option_at y ys ∷ rest) _ _ first.0 first.1
    ∙ passes_step row (awaiting name start) (option_at y ys) rest
    ∙ ap (λ (t : Bool). t
    && passes row (walked (rules_for row.options) [] (awaiting name start) (option_at y ys)) rest) (awaiting_option row name start is_needed y ys known))
    (uses_apart row.options x xs (option_at y ys) rest (flag_known row.options name is_needed true known) has)

plain_gives : (row : CommandRow) (given : List Use) (word : Text) (rest : List Text) → IsPlain word → Gives row given (word ∷ rest)
plain_gives row given word rest plain =
    let turn = idle_plain row (held row.options given) word plain in
    no_use row given (word ∷ rest) (join row (walk_from (held row.options given)) word rest false _ turn.0 turn.1) (uses_plain row.options word rest plain)

last_gives : (row : CommandRow) (given : List Use) (x : ℕ) (xs : Text) (o : Option Sort) → needs row.options (name_at x xs) ≡ o → (t : Bool)
    → has_byte 61 (x ∷ xs) ≡ t → Gives row given (option_at x xs ∷ [])
last_gives row given x xs None unknown t has = unknown_gives row given x xs [] t has unknown
last_gives row given x xs (Some (is_needed, true)) known true has = attached_gives row given x xs [] is_needed known has (λ more. nothing_left row more)
last_gives row given x xs (Some (is_needed, true)) known false has =
    let start = held row.options given in
    let first = idle_apart row start x xs is_needed known has in
    no_use row given (option_at x xs ∷ [])
    (join row (walk_from start) (option_at x xs) [] _ _ first.0 first.1 ∙ awaiting_end row (name_at x xs) start is_needed known)
    (uses_alone row.options x xs (flag_known row.options (name_at x xs) is_needed true known) has)
last_gives row given x xs (Some (is_needed, false)) known true has = flag_valued row given x xs [] is_needed known has
last_gives row given x xs (Some (is_needed, false)) known false has = flag_gives row given x xs [] is_needed known has (λ more. nothing_left row more)

next_gives : (row : CommandRow) (given : List Use) (x : ℕ) (xs next : Text) (rest : List Text) (o : Option Sort) → needs row.options (name_at x xs) ≡ o
    → (t : Bool) → has_byte 61 (x ∷ xs) ≡ t
    → list_any is_short rest ≡ false → Named next → ((more : List Use) → Gives row more (next ∷ rest)) → ((more : List Use) → Gives row more rest)
    → Gives row given (option_at x xs ∷ next ∷ rest)
next_gives row given x xs next rest None unknown t has long other later behind = unknown_gives row given x xs (next ∷ rest) t has unknown
next_gives row given x xs next rest (Some (is_needed, true)) known true has long other later behind =
    attached_gives row given x xs (next ∷ rest) is_needed known has later
next_gives row given x xs next rest (Some (is_needed, true)) known false has long other later behind =
    apart_gives row given x xs next rest is_needed known has long other behind
next_gives row given x xs next rest (Some (is_needed, false)) known true has long other later behind =
    flag_valued row given x xs (next ∷ rest) is_needed known has
next_gives row given x xs next rest (Some (is_needed, false)) known false has long other later behind =
    flag_gives row given x xs (next ∷ rest) is_needed known has later

last_word : (row : CommandRow) (given : List Use) (word : Text) → Named word → Gives row given (word ∷ [])
last_word row given word (plain_word plain) = plain_gives row given word [] plain
last_word row given word (option_word x xs) = last_gives row given x xs (needs row.options (name_at x xs)) refl (has_byte 61 (x ∷ xs)) refl

next_word : (row : CommandRow) (given : List Use) (word next : Text) (rest : List Text) → Named word → list_any is_short rest ≡ false → Named next
    → ((more : List Use) → Gives row more (next ∷ rest)) → ((more : List Use) → Gives row more rest) → Gives row given (word ∷ next ∷ rest)
next_word row given word next rest (plain_word plain) long other later behind = plain_gives row given word (next ∷ rest) plain
next_word row given word next rest (option_word x xs) long other later behind =
    next_gives row given x xs next rest (needs row.options (name_at x xs)) refl (has_byte 61 (x ∷ xs)) refl long other later behind

-- the walk over words with no short form, after uses
pub gives : (row : CommandRow) (given : List Use) (words : List Text) → list_any is_short words ≡ false → Gives row given words
gives row given [] long = nothing_left row given
gives row given (word ∷ []) long = last_word row given word (named word (or_parts (is_short word) false long).0)
gives row given (word ∷ next ∷ rest) long =
    let parts = or_parts (is_short word) (is_short next || list_any is_short rest) long in
    let others = or_parts (is_short next) (list_any is_short rest) parts.1 in
    next_word row given word next rest (named word parts.0) others.1 (named next others.0) (λ more. gives row more (next ∷ rest) parts.1)
    (λ more. gives row more rest others.1)
