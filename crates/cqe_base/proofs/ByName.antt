-- Constants under their names: what a map gains by one more constant, and by those of one more domain.
use Rattle.std.proofs.Common.{◌≡◌, ℕ, ◌+◌, ◌≤◌, Bool, true, false, cond, List, ◌∷◌, map, length, drop, refl, sym, ap, ◌∙◌, is_some, String}
use Rattle.std.specs.Prelude.{Option, Some, None, option_map, position, bytes_eq, string_bytes}
use Rattle.std.specs.List.{position_from}
use Rattle.std.specs.Option.{option_or}
use Rattle.std.specs.Map.{update}
use Rattle.std.specs.Cmp.Lexicographic.{same_text}
use Rattle.std.specs.declared.alloc.Global.{Global}
use Rattle.std.proofs.lemmas.List.{drop_all}
use Rattle.std.proofs.lemmas.Iterator.Adapters.{position_from-zero}
use Rattle.cqe_base.specs.declared.sentence.Constant.{Constant}
use Rattle.cqe_base.specs.declared.schema.Domain.{Domain}
use Rattle.cqe_base.specs.Schema.{Text, constant_in}
use Rattle.cqe_base.specs.Memory.{named_domain_of}
use Rattle.cqe_base.proofs.Names.{position-map}

pub or_none : {X : Type 0} (found : Option X) → option_or found None ≡ found
or_none None = refl
or_none (Some x) = refl

pub or_grouped : {X : Type 0} (a b c : Option X) → option_or (option_or a b) c ≡ option_or a (option_or b c)
or_grouped None b c = refl
or_grouped (Some x) b c = refl

-- one constant under its name, and nothing at any other text
abbrev pub only_at : Text → Constant → Text → Option Constant
only_at name constant text = cond (bytes_eq name text) (Some constant) None

-- a name that has a constant keeps it
pub first_stays : (found : Text → Option Constant) (name : Text) (constant : Constant) (text : Text) → is_some (found name) ≡ true
    → found text ≡ option_or (found text) (only_at name constant text)
first_stays found name constant text some = by (bytes_eq name text) refl (found text) refl
  where
    by : (same : Bool) → bytes_eq name text ≡ same → (o : Option Constant) → found text ≡ o → o ≡ option_or o (cond same (Some constant) None)
    by same e (Some x) f = refl
    by false e None f = refl
    by true e None f =
        let none : found name ≡ None = ap found (same_text name text (sym e)) ∙ f in
        let clash : false ≡ true = sym (ap is_some none) ∙ some in
        absurd cc

-- a name that has none gets it
pub new_joins : (found : Text → Option Constant) (name : Text) (constant : Constant) (text : Text) → is_some (found name) ≡ false
    → cond (bytes_eq name text) (Some constant) (found text) ≡ option_or (found text) (only_at name constant text)
new_joins found name constant text none = by (bytes_eq name text) refl (found text) refl
  where
    by : (same : Bool) → bytes_eq name text ≡ same → (o : Option Constant) → found text ≡ o
        → cond same (Some constant) o ≡ option_or o (cond same (Some constant) None)
    by true e None f = refl
    by false e None f = refl
    by false e (Some x) f = refl
    by true e (Some x) f =
        let some : found name ≡ Some x = ap found (same_text name text (sym e)) ∙ f in
        let clash : true ≡ false = sym (ap is_some some) ∙ none in
        absurd cc

-- what a map has after an update at a name that had nothing
pub gained : (old new : Text → Option Constant) (key name : Text) (constant : Constant) → key ≡ name
    → ((text : Text) → new text ≡ update bytes_eq old key (Some constant) text) → is_some (old name) ≡ false
    → (text : Text) → new text ≡ option_or (old text) (only_at name constant text)
gained old new key name constant is updates none text =
    updates text ∙ ap (λ k. cond (bytes_eq k text) (Some constant) (old text)) is ∙ new_joins old name constant text none

-- the constant of that name in a domain whose names from this place on are these
abbrev pub from_place : ℕ → ℕ → List (String Global) → Text → Option Constant
from_place domain place names text = option_map (λ i. record { domain = domain; index = i }) (position_from (λ n. bytes_eq (string_bytes n) text) place names)

pub next_place : (domain place : ℕ) (name : String Global) (names : List (String Global)) (text : Text)
    → from_place domain place (name ∷ names) text
    ≡ option_or (only_at (string_bytes name) (record { domain = domain; index = place }) text) (from_place domain (place + 1) names text)
next_place domain place name names text = by (bytes_eq (string_bytes name) text)
  where
    by : (same : Bool)
        → option_map (λ i. record { domain = domain; index = i })
        (cond same (Some place) (position_from (λ n. bytes_eq (string_bytes n) text) (place + 1) names))
        ≡ option_or (cond same (Some (record { domain = domain; index = place })) None) (from_place domain (place + 1) names text)
    by true = refl
    by false = refl

-- the names from the first one on are all of them
pub all_places : (domain : ℕ) (names : List (String Global)) (text : Text)
    → from_place domain 0 names text ≡ option_map (λ i. record { domain = domain; index = i }) (position (λ n. bytes_eq (string_bytes n) text) names)
all_places domain names text =
    ap (option_map (λ i. record { domain = domain; index = i })) (sym (position_from-zero (λ n. bytes_eq (string_bytes n) text) names))

-- the constants of a domain come before those of the domains behind it
pub next_domain : (number : ℕ) (domain : Domain) (domains : List Domain) (text : Text)
    → constant_in number (map named_domain_of (domain ∷ domains)) text
    ≡ option_or (option_map (λ i. record { domain = number; index = i }) (position (λ n. bytes_eq (string_bytes n) text) domain.constants.items))
    (constant_in (number + 1) (map named_domain_of domains) text)
next_domain number domain domains text =
    ap (λ place. option_or (option_map (λ i. record { domain = number; index = i }) place) (constant_in (number + 1) (map named_domain_of domains) text))
    (position-map (λ t. bytes_eq t text) string_bytes domain.constants.items)

-- what a map has after the last name of a domain
pub all_added : (found before : Text → Option Constant) (domain place : ℕ) (names : List (String Global)) → length names ≤ place
    → ((text : Text) → option_or (found text) (from_place domain place (drop place names) text) ≡ option_or (before text) (from_place domain 0 names text))
    → (text : Text) → found text ≡ option_or (before text) (option_map (λ i. record {
      domain =
          domain;
      index = i;
    }) (position (λ n. bytes_eq (string_bytes n) text) names))
all_added found before domain place names end so_far text =
    sym (or_none (found text))
    ∙ ap (λ rest. option_or (found text) (from_place domain place rest text)) (sym (drop_all place names end))
    ∙ so_far text
    ∙ ap (option_or (before text)) (all_places domain names text)

-- what is left of the domains once those of one more have been added
pub domain_added : (found new total : Text → Option Constant) (number : ℕ) (domains : List Domain) (domain : Domain) (names : List (String Global))
    → drop number domains ≡ domain ∷ drop (number + 1) domains → names ≡ domain.constants.items
    → ((text : Text) → new text ≡ option_or (found text) (option_map (λ i. record {
      domain =
          number;
      index = i;
    }) (position (λ n. bytes_eq (string_bytes n) text) names)))
    → ((text : Text) → option_or (found text) (constant_in number (map named_domain_of (drop number domains)) text) ≡ total text)
    → (text : Text) → option_or (new text) (constant_in (number + 1) (map named_domain_of (drop (number + 1) domains)) text) ≡ total text
domain_added found new total number domains domain names split same added so_far text =
    let own : List (String Global)
    → Option Constant = λ ns. option_map (λ i. record { domain = number; index = i }) (position (λ n. bytes_eq (string_bytes n) text) ns) in
    let rest : Option Constant = constant_in (number + 1) (map named_domain_of (drop (number + 1) domains)) text in
    ap (λ o. option_or o rest) (added text)
    ∙ or_grouped (found text) (own names) rest
    ∙ ap (λ ns. option_or (found text) (option_or (own ns) rest)) same
    ∙ ap (option_or (found text)) (sym (next_domain number domain (drop (number + 1) domains) text))
    ∙ ap (λ ds. option_or (found text) (constant_in number (map named_domain_of ds) text)) (sym split)
    ∙ so_far text
