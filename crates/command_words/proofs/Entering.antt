-- The walk over all words enters the command that the first one names.
use Rattle.std.proofs.Common.{◌≡◌, true, false, ◌&&◌, ◌||◌, cond, List, [], ◌∷◌, ◌++◌, map, refl, sym, ap, ◌∙◌, true≢false, append_assoc}
use Rattle.std.specs.Prelude.{Option, Some, None, option_map, is_some, find, fold, unwrap_or, bytes_eq, codes}
use Rattle.std.proofs.Math.Bool.{and-false}
use Rattle.std.proofs.lemmas.Slice.Eq.{bytes_eq-Decides}
use Rattle.clap.specs.Words.{App, Shape, Text, Kinds, fault_of, subcommand_of}
use Rattle.clap.specs.Simple.{built, entered, label_of, new_shape, rows_at}
use Rattle.clap.specs.Walk.{Names, Walk, answers_to, finished, nothing_held, settled, walk_from, walked}
use Rattle.clap.specs.Kinds.{or_else}
use Rattle.clap.specs.Faults.{check_fault, defaults_fault, entered_fault, settle_fault, turn_fault, walk_fault}
use Rattle.command_words.specs.Readings.{CommandRow, command_of, commands}
use Rattle.command_words.specs.Matched.{program, with_settings}
use Rattle.command_words.proofs.Options.{append_nil, none, none_nil, shape_for}
use Rattle.command_words.proofs.Turns.{Named, plain_word, option_word, passes, ends}
use Rattle.command_words.proofs.Walks.{held}

-- the program as it is built
abbrev top : Shape
top = record (with_settings (new_shape (codes "cqe"))) { is_leaf = false; is_built = true }

abbrev built_program : App
built_program = record { top = top; subs = map shape_for commands }

built_is : built program ≡ built_program
built_is = refl

-- the names of its commands
abbrev names : Names
names = map label_of (map shape_for commands)

-- the kinds of fault by the state at the end, and those of the walk
abbrev whole : Walk → Kinds → Kinds
whole w walking = or_else walking (or_else (entered_fault built_program w.stopped) (or_else (settle_fault [] false w.held)
    (or_else (defaults_fault (settled [] w.held).rows []) (check_fault top (finished [] w.held) (is_some (entered built_program w.stopped))))))

abbrev walk_of : List Text → Walk
walk_of words = fold (walked [] names) (walk_from nothing_held) words

fault_is : (words : List Text) → fault_of program words ≡ whole (walk_of words) (walk_fault top names (walk_from nothing_held) words)
fault_is words = refl

-- the command that a word names
met : (table : List CommandRow) (word : Text)
    → find (answers_to word) (map label_of (map shape_for table))
    ≡ option_map (λ (row : CommandRow). (row.name, [])) (find (λ (row : CommandRow). bytes_eq row.name word) table)
met [] word = refl
met (row ∷ table) word =
    elim (bytes_eq row.name word) as (λ t. cond (t || false) (Some (label_of (shape_for row))) (find (answers_to word) (map label_of (map shape_for table)))
    ≡ option_map (λ (r : CommandRow). (r.name, [])) (cond t (Some row) (find (λ (r : CommandRow). bytes_eq r.name word) table))) [
      | true ↦ refl
      | false ↦ met table word
    ]

found_shape : (table : List CommandRow) (name : Text)
    → find (λ (s : Shape). answers_to name (label_of s)) (map shape_for table)
    ≡ option_map shape_for (find (λ (row : CommandRow). bytes_eq row.name name) table)
found_shape [] name = refl
found_shape (row ∷ table) name =
    elim (bytes_eq row.name name) as (λ t. cond (t || false) (Some (shape_for row)) (find (λ (s : Shape). answers_to name (label_of s)) (map shape_for table))
    ≡ option_map shape_for (cond t (Some row) (find (λ (r : CommandRow). bytes_eq r.name name) table))) [
      | true ↦ refl
      | false ↦ found_shape table name
    ]

found_name : (table : List CommandRow) (name : Text) (row : CommandRow) → find (λ (r : CommandRow). bytes_eq r.name name) table ≡ Some row → row.name ≡ name
found_name [] name row = λ bad. absurd (cc)
found_name (first ∷ table) name row =
    elim (bytes_eq first.name name) as (λ t. bytes_eq first.name name ≡ t
    → cond t (Some first) (find (λ (r : CommandRow). bytes_eq r.name name) table) ≡ Some row → row.name ≡ name) [
      | true ↦ λ same is.
          let it : first ≡ row = ap (λ (o : Option CommandRow). unwrap_or o first) is in
          ap (λ (r : CommandRow). r.name) (sym it) ∙ (bytes_eq-Decides first.name name).0 same
      | false ↦ λ other is. found_name table name row is
    ] refl

-- the state behind a command and these words
abbrev stopped_at : Text → List Text → Walk
stopped_at name words = record (walk_from nothing_held) { stopped = Some (name, words) }

-- words behind a command are kept for it
kept : (name : Text) (before words : List Text) → fold (walked [] names) (stopped_at name before) words ≡ stopped_at name (before ++ words)
unfolding walked
kept name before [] = ap (stopped_at name) (sym (append_nil before))
kept name before (word ∷ words) = kept name (before ++ word ∷ []) words ∙ ap (stopped_at name) (append_assoc before (word ∷ []) words)

kept_fault : (name : Text) (before words : List Text) → ◌≡◌ {A = Kinds} (walk_fault top names (stopped_at name before) words) []
unfolding walked walk_fault
kept_fault name before [] = refl
kept_fault name before (word ∷ words) = kept_fault name (before ++ word ∷ []) words

first_fails : (a b c : Kinds) → none a ≡ false → none (or_else (or_else a b) c) ≡ false
first_fails [] b c e = absurd (true≢false e)
first_fails (k ∷ ks) b c e = refl

-- the first word is no command
pub no_command : (word : Text) (words : List Text) → Named word → command_of word ≡ None → none (fault_of program (word ∷ words)) ≡ false
unfolding walk_fault
no_command word words (plain_word plain) unknown =
    let none_met : ◌≡◌ {A = Option (Text × List Text)} (find (answers_to word) names) None =
    met commands word ∙ ap (option_map (λ (row : CommandRow). (row.name, []))) unknown in
    let turn : none (turn_fault top names (walk_from nothing_held) word) ≡ false = rw (none_met, plain.no_end, plain.long, plain.short) refl in
    first_fails (turn_fault top names (walk_from nothing_held) word) _ _ turn
no_command word words (option_word x xs) unknown = refl

-- the first word is one
pub record Enters (row : CommandRow) (word : Text) (words : List Text) : Type 0 where
  pub faults : none (fault_of program (word ∷ words)) ≡ passes row (walk_from (held row.options [])) words
  pub matched : subcommand_of program (word ∷ words) ≡ Some (row.name, ends row (walk_from (held row.options [])) words)

pub enters : (row : CommandRow) (word : Text) (words : List Text) → command_of word ≡ Some row → Enters row word words
unfolding walked walk_fault defaults_fault
enters row word words known =
    let is_met : find (answers_to word) names ≡ Some (row.name, []) = met commands word ∙ ap (option_map (λ (r : CommandRow). (r.name, []))) known in
    let found : find (λ (s : Shape). answers_to row.name (label_of s)) (map shape_for commands) ≡ Some (shape_for row) =
    found_shape commands row.name ∙ ap (option_map shape_for) (ap command_of (found_name commands word row known) ∙ known) in
    let no_help : (bytes_eq row.name (codes "help") && false) ≡ false = and-false (bytes_eq row.name (codes "help")) in
    let turn : ◌≡◌ {A = Kinds} (turn_fault top names (walk_from nothing_held) word) [] = rw (is_met, no_help) refl in
    let moved : walked [] names (walk_from nothing_held) word ≡ stopped_at row.name [] = rw is_met refl in
    let walk_is : walk_of (word ∷ words) ≡ stopped_at row.name words = ap (λ (w : Walk). fold (walked [] names) w words) moved ∙ kept row.name [] words in
    let fault_is : ◌≡◌ {A = Kinds} (walk_fault top names (walk_from nothing_held) (word ∷ words)) [] =
    (λ i. or_else (turn i) (walk_fault top names (moved i) words)) ∙ kept_fault row.name [] words in
    let inner : none (whole (stopped_at row.name words) []) ≡ passes row (walk_from (held row.options [])) words = rw found (none_nil _) in record {
      faults = (λ i. none (whole (walk_is i) (fault_is i))) ∙ inner;
      matched = ap (λ (w : Walk). entered built_program w.stopped) walk_is ∙ ap (option_map (λ (s : Shape). rows_at s words)) found;
    }

-- there are no words
pub no_words : none (fault_of program []) ≡ false
unfolding walk_fault defaults_fault
no_words = refl
