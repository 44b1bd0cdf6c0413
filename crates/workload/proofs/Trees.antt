-- Tables beside the trees that they stand for.
use Rattle.std.proofs.Common.{◌≡◌, ◌∙◌, sym, ap, refl, ℕ, ◌+◌, ◌*◌, ◌≤◌, max, List, [], ◌∷◌, ◌++◌, map, codes, decimal, String, string_bytes, Global, Ordering}
use Rattle.std.proofs.Common.{Less, Equal, Greater, arith}
use Rattle.std.specs.Ordering.{match_ordering}
use Rattle.std.specs.BTreeMap.{insert_entry}
use Rattle.std.specs.String.{string_cmp}
use Rattle.std.specs.List.{range_with_len}
use Rattle.std.proofs.lemmas.List.{map-append}
use Rattle.toml.specs.Data.{string, table, member, items_depth, members_depth}
use Rattle.toml.specs.View.{view, items_of, members_view}
use Rattle.toml.specs.declared.value.Value.{Value, String as StringValue}
use Rattle.toml.proofs.Views.{Entry, view-String}
use Rattle.cqe_base.specs.Schema.{Text}
use Rattle.workload.specs.Stated.{numbered}
use Rattle.workload.specs.Trees.{user_members, user_tree, root_members, user_trees, insert_member}
use Rattle.workload.specs.Draws.{drawn}
use Rattle.workload.proofs.Drawing.{range_to}

by_order : (o : Ordering) (a b c : List Entry) → members_view (match_ordering o a b c) ≡ match_ordering o (members_view a) (members_view b) (members_view c)
by_order Less a b c = refl
by_order Equal a b c = refl
by_order Greater a b c = refl

-- a value that is put under a key
pub inserted : (es : List Entry) (key : String Global) (value : Value)
    → members_view (insert_entry string_cmp es key value) ≡ insert_member (string_bytes key) (view value) (members_view es)
inserted [] key value = refl
inserted (e ∷ es) key value =
    by_order (string_cmp key e.0) ((key, value) ∷ e ∷ es) ((e.0, value) ∷ es) (e ∷ insert_entry string_cmp es key value)
    ∙ ap (λ more. match_ordering (string_cmp key e.0) (member (string_bytes key) (view value) (members_view (e ∷ es)))
    (member (string_bytes e.0) (view value) (members_view es)) (member (string_bytes e.0) (view e.1) more))
    (inserted es key value)

-- texts, and one more
pub one_text : (values : List Value) (texts : List Text) (text : String Global) (next : Text) → map view values ≡ map string texts → string_bytes text ≡ next
    → map view (values ++ StringValue text ∷ []) ≡ map string (texts ++ next ∷ [])
one_text values texts text next so_far is =
    map-append view values (StringValue text ∷ []) ∙ (λ i. so_far i ++ (view-String text ∙ ap string is) i ∷ []) ∙ sym (map-append string texts (next ∷ []))

-- names with numbers, and one more
pub numbered_more : (letter : Text) (n : ℕ) → numbered letter (n + 1) ≡ numbered letter n ++ (letter ++ decimal n) ∷ []
numbered_more letter n = ap (map (λ k. letter ++ decimal k)) (range_to n) ∙ map-append (λ k. letter ++ decimal k) (range_with_len 0 n) (n ∷ [])

-- ---- how deep they are nested

flat : (texts : List Text) → items_depth (items_of (map string texts)) ≡ 0
flat [] = refl
flat (text ∷ texts) = ap (λ (n : ℕ). max 0 n) (flat texts)

users_depth : (seed : ℕ) (numbers : List ℕ) → items_depth (items_of (map (user_tree seed) numbers)) ≤ 2
users_depth seed [] = omega arith
users_depth seed (number ∷ numbers) = let rest = users_depth seed numbers in omega (arith, rest)

-- the document isn't nested too deep to be read
pub root_depth : (seed : ℕ) (numbers : List ℕ) → members_depth (root_members (map (user_tree seed) numbers)) ≤ 80
root_depth seed numbers =
    let users = users_depth seed numbers in
    let persons = flat (numbered (codes "p") 40) in
    let diseases = flat (numbered (codes "d") 12) in
    omega (arith, users, persons, diseases)

pub no_trees : (seed : ℕ) → user_trees seed 0 ≡ []
unfolding user_trees
no_trees seed = refl

-- one user more
pub trees_more : (seed n : ℕ) → user_trees seed (n + 1) ≡ user_trees seed n ++ user_tree seed n ∷ []
unfolding user_trees
trees_more seed n = ap (map (user_tree seed)) (range_to n) ∙ map-append (user_tree seed) (range_with_len 0 n) (n ∷ [])

-- a table whose three persons are those of a user of the seed
pub one_tree : (seed k n : ℕ) (persons : List ℕ) → n ≡ 620 + 3 * k → persons ≡ drawn seed n 40 ∷ drawn seed (n + 1) 40 ∷ drawn seed (n + 2) 40 ∷ []
    → table (user_members k persons) ≡ user_tree seed k
one_tree seed k n persons place are =
    ap (λ p. table (user_members k p)) (are ∙ (λ i. drawn seed (at 0 i) 40 ∷ drawn seed (next 1 i) 40 ∷ drawn seed (next 2 i) 40 ∷ []))
  where
    at : (j : ℕ) → n ≡ 620 + 3 * k + 0
    at j = omega (arith, place)

    next : (j : ℕ) → n + j ≡ 620 + 3 * k + j
    next j = omega (arith, place)
