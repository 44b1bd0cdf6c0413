-- The journals of two directories have other names, since no name of a user has a slash.
use Rattle.std.proofs.Common.{◌≡◌, ◌∙◌, sym, ap, subst, refl, ℕ, zero, suc, List, [], ◌∷◌, ◌++◌}
use Rattle.std.proofs.Common.{Bool, true, false, ◌||◌, ◌&&◌, not, nat_le, length, ◌==◌, Some, None, slice_get, bytes_eq}
use Rattle.std.proofs.Common.{codes, eqb-true}
use Rattle.std.specs.Char.{is_ascii_alphabetic}
use Rattle.std.specs.List.{list_all, list_any}
use Rattle.std.proofs.lemmas.Bool.{false_from_ne_true, false≢true}
use Rattle.std.proofs.lemmas.List.Folds.{list_any-append}
use Rattle.std.proofs.lemmas.Slice.Eq.{bytes_eq-Decides}
use Rattle.cqe_base.proofs.Truths.{and_first, and_second}
use Rattle.cqe_base.specs.Schema.{contains_text, is_identifier, is_name_byte, is_schema_name, keywords, printed_variables}
use Rattle.log_journal.specs.Names.{journal_name}
use Rattle.init_engine.proofs.Apart.{same_some}

-- a slash is in the text
abbrev has_slash : List ℕ → Bool
has_slash text = list_any (λ b. b == 47) text

not_slash : (test : ℕ → Bool) (b : ℕ) → test b ≡ true → test 47 ≡ false → (b == 47) ≡ false
not_slash test b is none = at (b == 47) refl
  where
    at : (t : Bool) → (b == 47) ≡ t → t ≡ false
    at true e = absurd (false≢true (sym none ∙ ap test (sym (eqb-true b 47 e)) ∙ is))
    at false e = refl

rest_has_none : (rest : List ℕ) → list_all is_name_byte rest ≡ true → has_slash rest ≡ false
rest_has_none [] all = refl
rest_has_none (b ∷ rest) all =
    λ i. not_slash is_name_byte b (and_first (is_name_byte b) (list_all is_name_byte rest) all) refl i
    || rest_has_none rest (and_second (is_name_byte b) (list_all is_name_byte rest) all) i

name_has_none : (name : List ℕ) → is_schema_name name ≡ true → has_slash name ≡ false
name_has_none [] proper = refl
name_has_none (b ∷ rest) proper =
    let name = b ∷ rest in
    let short = nat_le (length name) 32 in
    let word = not (contains_text keywords name) in
    let identifier : is_identifier name ≡ true =
    and_first (is_identifier name) short (and_first (is_identifier name && short) word
    (and_first (is_identifier name && short && word) (not (contains_text printed_variables name)) proper)) in
    λ i. not_slash is_ascii_alphabetic b (and_first (is_ascii_alphabetic b) (list_all is_name_byte rest) identifier) refl i
    || rest_has_none rest (and_second (is_ascii_alphabetic b) (list_all is_name_byte rest) identifier) i

log_has_none : (name : List ℕ) → is_schema_name name ≡ true → has_slash (name ++ codes ".log") ≡ false
log_has_none name proper =
    list_any-append (λ b. b == 47) name (codes ".log") ∙ ap (λ t. t || has_slash (codes ".log")) (name_has_none name proper)

or_last : (t : Bool) → (t || true) ≡ true
or_last true = refl
or_last false = refl

has_one : (front rest : List ℕ) → has_slash (front ++ 47 ∷ rest) ≡ true
has_one [] rest = refl
has_one (b ∷ front) rest = ap (λ t. (b == 47) || t) (has_one front rest) ∙ or_last (b == 47)

-- what stands before the last slash is one text
before_last : (d e a b : List ℕ) → has_slash a ≡ false → has_slash b ≡ false → d ++ 47 ∷ a ≡ e ++ 47 ∷ b → d ≡ e
before_last [] [] a b none none' same = refl
before_last [] (y ∷ e) a b none none' same =
    let rest : a ≡ e ++ 47 ∷ b = cc in absurd (false≢true (sym none ∙ ap has_slash rest ∙ has_one e b))
before_last (x ∷ d) [] a b none none' same =
    let rest : d ++ 47 ∷ a ≡ b = cc in absurd (false≢true (sym none' ∙ ap has_slash (sym rest) ∙ has_one d a))
before_last (x ∷ d) (y ∷ e) a b none none' same =
    let heads : x ≡ y = cc in
    let tails : d ++ 47 ∷ a ≡ e ++ 47 ∷ b = cc in
    λ i. heads i ∷ before_last d e a b none none' tails i

directories_apart : (from to first second : List ℕ) → bytes_eq from to ≡ false → is_schema_name first ≡ true → is_schema_name second ≡ true
    → bytes_eq (journal_name from first) (journal_name to second) ≡ false
directories_apart from to first second apart one two =
    false_from_ne_true (bytes_eq (journal_name from first) (journal_name to second)) (λ same.
    false≢true (sym apart ∙ (bytes_eq-Decides from to).1
    (before_last from to (first ++ codes ".log") (second ++ codes ".log") (log_has_none first one) (log_has_none second two)
    ((bytes_eq-Decides (journal_name from first) (journal_name to second)).0 same))))

each_proper : (names : List (List ℕ)) → list_all is_schema_name names ≡ true → (i : ℕ) (name : List ℕ) → slice_get names i ≡ Some name
    → is_schema_name name ≡ true
each_proper [] proper i name is = let clash : None ≡ Some name = is in absurd cc
each_proper (first ∷ names) proper zero name is = subst (λ n. is_schema_name n ≡ true) (same_some first name is) (and_first _ _ proper)
each_proper (first ∷ names) proper (suc i) name is = each_proper names (and_second _ _ proper) i name is

-- no old journal of these users has the name of a new one
abbrev pub AreApart : List ℕ → List ℕ → List (List ℕ) → Type 0
AreApart from to names = (i k : ℕ) (first second : List ℕ) → slice_get names i ≡ Some first → slice_get names k ≡ Some second
    → bytes_eq (journal_name from first) (journal_name to second) ≡ false

pub are_apart : (from to : List ℕ) (names : List (List ℕ)) → bytes_eq from to ≡ false → list_all is_schema_name names ≡ true → AreApart from to names
are_apart from to names apart proper i k first second is is' =
    directories_apart from to first second apart (each_proper names proper i first is) (each_proper names proper k second is')
