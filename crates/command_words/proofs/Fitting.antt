-- What clap answers on all words is their reading.
use Rattle.std.proofs.Common.{◌≡◌, ◌==◌, Bool, true, false, not, ◌&&◌, ◌||◌, cond, List, [], ◌∷◌, ◌++◌, refl, sym, ap, ◌∙◌, true≢false, eqb-true, ⊎_elim}
use Rattle.std.specs.Prelude.{Option, Some, None, option_map, option_and_then, is_some, find, bytes_eq, if◌then◌else◌}
use Rattle.std.specs.List.{list_all, list_any}
use Rattle.std.proofs.Math.Bool.{and-false}
use Rattle.std.proofs.lemmas.Bool.{and_parts, or_parts, not-true}
use Rattle.std.proofs.lemmas.Slice.Eq.{bytes_eq-Decides}
use Rattle.clap.specs.Words.{HasKind, Row, Text, Kinds, fault_of, kind_of, subcommand_of}
use Rattle.clap.specs.declared.error.Error.{Error}
use Rattle.clap.specs.declared.error.kind.ErrorKind.TheVariants.{OutOfMemory}
use Rattle.clap.specs.Lexer.{has_byte}
use Rattle.command_words.specs.Uses.{OptionRow, Use, alone, name_and_value, option_of, is_flag, is_value_word, in_front, uses_of, followed}
use Rattle.command_words.specs.Readings.{CommandRow, Reading, command_of, do_fit, has_no_repeat, is_used, reading_by, reading_of, reading_with}
use Rattle.command_words.specs.Matched.{command_with, is_short, program}
use Rattle.command_words.proofs.Options.{is_complete, needs, none, sort_of}
use Rattle.command_words.proofs.Turns.{Named, plain_word, option_word, named, option_at, name_at, value_at}
use Rattle.command_words.proofs.Walks.{completes, extends, gives, uses_apart, uses_attached, uses_flag}
use Rattle.command_words.proofs.Entering.{enters, no_command, no_words}
use Rattle.command_words.proofs.Said.{command_reading}

-- the options of which the uses are
abbrev is_known : List OptionRow → Text → Bool
is_known options name = list_any (λ (row : OptionRow). bytes_eq row.name name) options

known_is : (options : List OptionRow) (name : Text) → is_some (needs options name) ≡ is_known options name
known_is [] name = refl
known_is (row ∷ options) name =
    elim (bytes_eq row.name name) as (λ t. is_some (option_map sort_of (cond t (Some row) (find (λ (r : OptionRow). bytes_eq r.name name) options)))
    ≡ (t || is_known options name)) [
      | true ↦ refl
      | false ↦ known_is options name
    ]

-- no use is of an option that was used before
abbrev are_fresh : List Use → List Use → Bool
are_fresh given uses = list_all (λ (u : Use). not (is_used given u.name)) uses

used_push : (given : List Use) (u : Use) (name : Text) → is_used (given ++ u ∷ []) name ≡ (is_used given name || bytes_eq u.name name)
used_push [] u name = elim (bytes_eq u.name name) as (λ t. (t || false) ≡ t) [ true ↦ refl | false ↦ refl ]
used_push (g ∷ given) u name =
    elim (bytes_eq g.name name) as (λ t. (t || is_used (given ++ u ∷ []) name) ≡ ((t || is_used given name) || bytes_eq u.name name)) [
      | true ↦ refl
      | false ↦ used_push given u name
    ]

same_test : (a b : Text) → bytes_eq a b ≡ bytes_eq b a
same_test a b = go (bytes_eq a b) refl (bytes_eq b a) refl
  where
    go : (s : Bool) → bytes_eq a b ≡ s → (t : Bool) → bytes_eq b a ≡ t → bytes_eq a b ≡ bytes_eq b a
    go true e true f = e ∙ sym f
    go false e false f = e ∙ sym f
    go true e false f = absurd (true≢false (sym ((bytes_eq-Decides b a).1 (sym ((bytes_eq-Decides a b).0 e))) ∙ f))
    go false e true f = absurd (true≢false (sym ((bytes_eq-Decides a b).1 (sym ((bytes_eq-Decides b a).0 f))) ∙ e))

fresh_bits : (a b c d : Bool) → (not (a || b) && (not c && d)) ≡ (not (b || c) && (not a && d))
fresh_bits true true c d = refl
fresh_bits true false true d = refl
fresh_bits true false false d = refl
fresh_bits false true c d = refl
fresh_bits false false true d = refl
fresh_bits false false false d = refl

fresh_push : (given : List Use) (u : Use) (uses : List Use) → are_fresh (given ++ u ∷ []) uses ≡ (not (is_used uses u.name) && are_fresh given uses)
fresh_push given u [] = refl
fresh_push given u (v ∷ uses) =
    (λ i. not (used_push given u v.name i) && fresh_push given u uses i)
    ∙ ap (λ (t : Bool). not (is_used given v.name || t) && (not (is_used uses u.name) && are_fresh given uses)) (same_test u.name v.name)
    ∙ fresh_bits (is_used given v.name) (bytes_eq v.name u.name) (is_used uses u.name) (are_fresh given uses)

step_bits : (k f ks ns r fs : Bool) → (k && (f && (ks && (ns && (r && fs))))) ≡ ((k && ks) && ((r && ns) && (f && fs)))
step_bits false f ks ns r fs = refl
step_bits true f false ns r fs = and-false f
step_bits true false true ns r fs = sym (and-false (r && ns))
step_bits true true true true true fs = refl
step_bits true true true false true fs = refl
step_bits true true true ns false fs = and-false ns

-- uses that follow others, in other words
extends_is : (options : List OptionRow) (given uses : List Use)
    → extends options given uses ≡ (list_all (λ (u : Use). is_known options u.name) uses && (has_no_repeat uses && are_fresh given uses))
extends_is options given [] = refl
extends_is options given (u ∷ uses) =
    (λ i. known_is options u.name i && (not (is_used given u.name) && extends_is options (given ++ u ∷ []) uses i))
    ∙ ap (λ (t : Bool). is_known options u.name
    && (not (is_used given u.name) && (list_all (λ (v : Use). is_known options v.name) uses && (has_no_repeat uses && t)))) (fresh_push given u uses)
    ∙ step_bits (is_known options u.name) (not (is_used given u.name)) _ (has_no_repeat uses) (not (is_used uses u.name)) (are_fresh given uses)

all_fresh : (uses : List Use) → are_fresh [] uses ≡ true
all_fresh [] = refl
all_fresh (u ∷ uses) = all_fresh uses

whole_bits : (ks ns w : Bool) → ((ks && (ns && true)) && w) ≡ (ks && (ns && w))
whole_bits false ns w = refl
whole_bits true false w = refl
whole_bits true true w = refl

-- uses from the start fit by the definition
fits : (options : List OptionRow) (uses : List Use) → (extends options [] uses && is_complete options uses) ≡ do_fit options uses
fits options uses =
    ap (λ (t : Bool). t && is_complete options uses) (extends_is options [] uses
    ∙ ap (λ (t : Bool). list_all (λ (u : Use). is_known options u.name) uses && (has_no_repeat uses && t)) (all_fresh uses))
    ∙ whole_bits _ (has_no_repeat uses) (is_complete options uses)

-- a word of a short form is no option, no value and no command
short_word : (word : Text) → is_short word ≡ true → (◌≡◌ {A = Option (Text × Option Text)} (option_of word) None) × (is_value_word word ≡ false)
short_word [] e = absurd (cc)
short_word (a ∷ []) e = absurd (cc)
short_word (a ∷ b ∷ []) e =
    let no_option : ◌≡◌ {A = Option (Text × Option Text)} (option_of (a ∷ b ∷ [])) None =
    rw e (elim (b == 45) as (λ t.
    ◌≡◌ {A = Option (Text × Option Text)} (option_and_then name_and_value (if t then Some [] else None)) None) [ true ↦ refl | false ↦ refl ]) in
    (no_option, rw e refl)
short_word (a ∷ b ∷ c ∷ rest) e =
    let parts = and_parts (a == 45) (not (b == 45)) e in
    let second : (b == 45) ≡ false = not-true (b == 45) parts.1 in
    let no_option : ◌≡◌ {A = Option (Text × Option Text)} (option_of (a ∷ b ∷ c ∷ rest)) None = rw (parts.0, second) refl in
    (no_option, rw parts.0 refl)

short_command : (word : Text) → is_short word ≡ true → ◌≡◌ {A = Option CommandRow} (command_of word) None
short_command [] e = absurd (cc)
short_command (a ∷ []) e = absurd (cc)
short_command (a ∷ b ∷ []) e =
    let first : a ≡ 45 = eqb-true a 45 e in
    rw first refl
short_command (a ∷ b ∷ c ∷ rest) e =
    let first : a ≡ 45 = eqb-true a 45 (and_parts (a == 45) (not (b == 45)) e).0 in
    rw first refl

front_none : (w : Option Use) → ◌≡◌ {A = Option (List Use)} (in_front w None) None
front_none None = refl
front_none (Some u) = refl

or_right : (a b : Bool) → (a || b) ≡ true → a ≡ false → b ≡ true
or_right true b e first = absurd (true≢false first)
or_right false b e first = e

-- a word before others of which one has a short form
short_behind : (options : List OptionRow) (word next : Text) (rest : List Text) → Named word → list_any is_short (next ∷ rest) ≡ true → ◌≡◌ {A =
    Option (List Use)} (uses_of options (next ∷ rest)) None
    → (list_any is_short rest ≡ true → ◌≡◌ {A =
    Option (List Use)} (uses_of options rest) None) → ◌≡◌ {A = Option (List Use)} (uses_of options (word ∷ next ∷ rest)) None
unfolding uses_of
short_behind options word next rest (plain_word plain) e attached apart = rw plain.names_none refl
short_behind options word next rest (option_word x xs) e attached apart =
    by_form (is_flag options (name_at x xs)) refl (has_byte 61 (x ∷ xs)) refl (is_short next) refl
  where
    by_form : (flag : Bool) → is_flag options (name_at x xs) ≡ flag → (t : Bool) → has_byte 61 (x ∷ xs) ≡ t → (s : Bool) → is_short next ≡ s
        → ◌≡◌ {A = Option (List Use)} (uses_of options (option_at x xs ∷ next ∷ rest)) None
    by_form flag is true has s short =
        uses_attached options x xs (next ∷ rest) flag is has ∙ ap (in_front (alone flag (name_at x xs) (Some (value_at x xs)))) attached ∙ front_none _
    by_form true is false has s short = uses_flag options x xs (next ∷ rest) is has ∙ ap (in_front (Some (record { name = name_at x xs; value = [] }))) attached
    by_form false is false has true short =
        let no_value : ◌≡◌ {A = Option Use} (followed (name_at x xs) next) None = rw (short_word next short).1 refl in
        uses_apart options x xs next rest is has ∙ ap (λ (w : Option Use). in_front w (uses_of options rest)) no_value
    by_form false is false has false long =
        uses_apart options x xs next rest is has
        ∙ ap (in_front (followed (name_at x xs) next)) (apart (or_right (is_short next) (list_any is_short rest) e long)) ∙ front_none _

-- words with one of a short form make no uses
short_uses : (options : List OptionRow) (words : List Text) → list_any is_short words ≡ true → ◌≡◌ {A = Option (List Use)} (uses_of options words) None
unfolding uses_of
short_uses options [] e = absurd (cc)
short_uses options (word ∷ []) e = only (is_short word) refl e
  where
    only : (t : Bool) → is_short word ≡ t → (t || false) ≡ true → ◌≡◌ {A = Option (List Use)} (uses_of options (word ∷ [])) None
    only true short e = rw (short_word word short).0 refl
    only false long e = absurd (true≢false (sym e))
short_uses options (word ∷ next ∷ rest) e = first (short_uses options (next ∷ rest)) (short_uses options rest) (is_short word) refl
  where
    first : (list_any is_short (next ∷ rest) ≡ true → ◌≡◌ {A = Option (List Use)} (uses_of options (next ∷ rest)) None)
        → (list_any is_short rest ≡ true → ◌≡◌ {A = Option (List Use)} (uses_of options rest) None)
        → (t : Bool) → is_short word ≡ t → ◌≡◌ {A = Option (List Use)} (uses_of options (word ∷ next ∷ rest)) None
    first attached apart true short = rw (short_word word short).0 refl
    first attached apart false long =
        let others : list_any is_short (next ∷ rest) ≡ true = or_right (is_short word) (list_any is_short (next ∷ rest)) e long in
        short_behind options word next rest (named word long) others (attached others) apart

short_words : (o : Option CommandRow) (words : List Text) → list_any is_short words ≡ true → ◌≡◌ {A = Option Reading} (reading_with o words) None
short_words None words e = refl
short_words (Some row) words e = ap (reading_by row) (short_uses row.options words e)

-- words with one of a short form have no reading
pub short_reading : (words : List Text) → list_any is_short words ≡ true → ◌≡◌ {A = Option Reading} (reading_of words) None
unfolding reading_of
short_reading [] e = absurd (cc)
short_reading (word ∷ words) e = first (is_short word) refl
  where
    first : (t : Bool) → is_short word ≡ t → ◌≡◌ {A = Option Reading} (reading_of (word ∷ words)) None
    first true short = ap (λ (o : Option CommandRow). reading_with o words) (short_command word short)
    first false long = short_words (command_of word) words (or_right (is_short word) (list_any is_short words) e long)

-- the reading of what was matched
abbrev pub matched_reading : Option (Text × List Row) → Option Reading
matched_reading = option_and_then (λ found. command_with found.0 found.1)

-- words that clap takes
pub taken : (words : List Text) → list_any is_short words ≡ false → ◌≡◌ {A =
    Kinds} (fault_of program words) [] → matched_reading (subcommand_of program words) ≡ reading_of words
unfolding reading_of
taken [] long free = absurd (true≢false (sym (ap none free) ∙ no_words))
taken (word ∷ words) long free = by_command (command_of word) refl
  where
    by_uses : (row : CommandRow) → command_of word ≡ Some row → (o : Option (List Use)) → uses_of row.options words ≡ o → completes row.options [] o ≡ true
        → matched_reading (subcommand_of program (word ∷ words)) ≡ reading_of (word ∷ words)
    by_uses row known None is bad = absurd (cc)
    by_uses row known (Some uses) is good =
        let parts = and_parts (extends row.options [] uses) (is_complete row.options uses) good in
        let rows = (gives row [] words (or_parts (is_short word) (list_any is_short words) long).1).ends uses is parts.0 in
        let fit : do_fit row.options uses ≡ true = sym (fits row.options uses) ∙ good in
        let reading : reading_by row (Some uses) ≡ row.says uses = rw fit refl in
        ap matched_reading ((enters row word words known).matched ∙ ap (λ (r : List Row). Some (row.name, r)) rows)
        ∙ command_reading word row uses known
        ∙ sym reading
        ∙ ap (reading_by row) (sym is)
        ∙ ap (λ (o : Option CommandRow). reading_with o words) (sym known)

    by_command : (o : Option CommandRow) → command_of word ≡ o → matched_reading (subcommand_of program (word ∷ words)) ≡ reading_of (word ∷ words)
    by_command None unknown =
        absurd (true≢false (sym (ap none free) ∙ no_command word words (named word (or_parts (is_short word) (list_any is_short words) long).0) unknown))
    by_command (Some row) known =
        let given = gives row [] words (or_parts (is_short word) (list_any is_short words) long).1 in
        by_uses row known (uses_of row.options words) refl (sym given.passes ∙ sym (enters row word words known).faults ∙ ap none free)

-- words that it refuses
pub refused : (words : List Text) → list_any is_short words ≡ false → none (fault_of program words) ≡ false → ◌≡◌ {A = Option Reading} (reading_of words) None
unfolding reading_of
refused [] long fails = refl
refused (word ∷ words) long fails = by_command (command_of word) refl
  where
    by_uses : (row : CommandRow) (o : Option (List Use)) → completes row.options [] o ≡ false → ◌≡◌ {A = Option Reading} (reading_by row o) None
    by_uses row None bad = refl
    by_uses row (Some uses) bad =
        let unfit : do_fit row.options uses ≡ false = sym (fits row.options uses) ∙ bad in
        rw unfit refl

    by_command : (o : Option CommandRow) → command_of word ≡ o → ◌≡◌ {A = Option Reading} (reading_of (word ∷ words)) None
    by_command None unknown = ap (λ (o : Option CommandRow). reading_with o words) unknown
    by_command (Some row) known =
        let given = gives row [] words (or_parts (is_short word) (list_any is_short words) long).1 in
        ap (λ (o : Option CommandRow). reading_with o words) known
        ∙ by_uses row (uses_of row.options words) (sym given.passes ∙ sym (enters row word words known).faults ∙ fails)

-- an error that isn't want of memory is a fault of the words
pub fault_there : (kinds : Kinds) (e : Error) → HasKind kinds e → (kind_of e ≡ OutOfMemory → ⊥) → none kinds ≡ false
fault_there [] e why other = ⊎_elim (λ memory. absurd (other memory)) (λ bad. absurd bad) why
fault_there (k ∷ kinds) e why other = refl
