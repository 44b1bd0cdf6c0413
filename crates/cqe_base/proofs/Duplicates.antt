-- A text that stands twice, found by the texts that were seen.
use Rattle.std.proofs.Common.{◌≡◌, ◌∙◌, ap, sym, refl, ℕ, suc, List, [], ◌∷◌, drop, Bool, true, false, cond, ◌||◌, Option, Some, is_some, bytes_eq, Bor}
use Rattle.std.specs.Cmp.Lexicographic.{slice_cmp}
use Rattle.std.specs.Ordering.{nat_cmp}
use Rattle.std.specs.BTreeMap as tree
use Rattle.std.specs.List.{list_any}
use Rattle.std.specs.Map.{update, lookup}
use Rattle.cqe_base.specs.Schema.{Text, contains_text, has_duplicate}
use Rattle.cqe_base.specs.Memory.{texts_of}
use Rattle.cqe_base.proofs.Lists.{or_assoc}

-- the texts that were seen: the keys of a map
abbrev pub seen_in : tree.BTreeMap (Bor Text) Unit → Text → Bool
seen_in map text = is_some (tree.get_by (λ k. slice_cmp nat_cmp text k.now) map)

-- one text more was seen
pub sees_one : (old new : Text → Bool) (text : Text) (texts : List Text)
    → ((t : Text) → new t ≡ (bytes_eq text t || old t))
    → list_any new texts ≡ (list_any old texts || contains_text texts text)
sees_one old new text [] sees = refl
sees_one old new text (t ∷ texts) sees = (λ i. sees t i || sees_one old new text texts sees i) ∙ swap (bytes_eq text t) (old t) _ _
  where
    swap : (a b c d : Bool) → ((a || b) || (c || d)) ≡ ((b || c) || (a || d))
    swap true true c d = refl
    swap true false true d = refl
    swap true false false d = refl
    swap false true c d = refl
    swap false false c d = refl

-- the texts from a place on, where the first of them wasn't seen
pub goes_on : (old new : Text → Bool) (text : Text) (texts : List Text)
    → ((t : Text) → new t ≡ (bytes_eq text t || old t)) → old text ≡ false
    → (list_any old (text ∷ texts) || has_duplicate (text ∷ texts)) ≡ (list_any new texts || has_duplicate texts)
goes_on old new text texts sees unseen =
    ap (λ b. (b || list_any old texts) || (contains_text texts text || has_duplicate texts)) unseen
    ∙ sym (or_assoc (list_any old texts) (contains_text texts text) (has_duplicate texts))
    ∙ ap (λ b. b || has_duplicate texts) (sym (sees_one old new text texts sees))

-- whether a text stands twice, by the texts that were seen and those from a place on
abbrev pub Twice : List (Bor Text) → ℕ → tree.BTreeMap (Bor Text) Unit → Type 0
Twice texts index seen =
    has_duplicate (texts_of texts) ≡ (list_any (seen_in seen) (texts_of (drop index texts)) || has_duplicate (texts_of (drop index texts)))

-- at first no text was seen
pub none_seen : (map : tree.BTreeMap (Bor Text) Unit) → map.entries ≡ [] → (texts : List Text) → list_any (seen_in map) texts ≡ false
none_seen map empty [] = refl
none_seen map empty (text ∷ texts) = (λ i. is_some (lookup (tree.is_at (λ k. slice_cmp nat_cmp text k.now)) (empty i)) || none_seen map empty texts i)

-- a text more is known of a map in which it was inserted
pub inserted : (old new : tree.BTreeMap (Bor Text) Unit) (text : Text) (value : Unit)
    → ((q : List ℕ) → tree.get_by (λ k. slice_cmp nat_cmp q k.now) new
    ≡ update bytes_eq (λ ds. tree.get_by (λ k. slice_cmp nat_cmp ds k.now) old) text (Some value) q)
    → (t : Text) → seen_in new t ≡ (bytes_eq text t || seen_in old t)
inserted old new text value updates t = ap is_some (updates t) ∙ by (bytes_eq text t) _
  where
    by : (b : Bool) (found : Option Unit) → is_some (cond b (Some value) found) ≡ (b || is_some found)
    by true found = refl
    by false found = refl

-- the text at a place was new, and is seen from now on
pub next_text : (texts : List (Bor Text)) (index : ℕ) (text : Bor Text) (value : Unit) (old new : tree.BTreeMap (Bor Text) Unit)
    → drop index texts ≡ text ∷ drop (suc index) texts
    → ((q : List ℕ) → tree.get_by (λ k. slice_cmp nat_cmp q k.now) new
    ≡ update bytes_eq (λ ds. tree.get_by (λ k. slice_cmp nat_cmp ds k.now) old) text.now (Some value) q)
    → seen_in old text.now ≡ false
    → Twice texts index old → Twice texts (suc index) new
next_text texts index text value old new first updates unseen twice =
    twice
    ∙ ap (λ rest. list_any (seen_in old) (texts_of rest) || has_duplicate (texts_of rest)) first
    ∙ goes_on (seen_in old) (seen_in new) text.now (texts_of (drop (suc index) texts)) (inserted old new text.now value updates) unseen
