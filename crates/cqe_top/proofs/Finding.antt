-- The user of a name.
use Rattle.std.proofs.Common.{◌≡◌, ℕ, suc, ◌+◌, ◌<◌, Bool, true, false, not, List, [], ◌∷◌, map, length, get_or, None, Some, refl, sym, ap, ◌∙◌, arith}
use Rattle.std.specs.Prelude.{find, cond, position, nat_lt, bytes_eq, option_map, string_bytes}
use Rattle.std.specs.List.{prefix_len}
use Rattle.std.proofs.lemmas.Bool.{lt-ltb, false≢true}
use Rattle.std.proofs.lemmas.Slice.Eq.{bytes_eq-Decides}
use Rattle.cqe_base.specs.Schema.{Text}
use Rattle.cqe_base.specs.declared.user.User.{User}
use Rattle.policy_files.specs.Memory.{policy_user_of}
use Rattle.policy_files.specs.Policies.{PolicyUser}
use Rattle.cqe_top.specs.Files.{user_named}

module _ {X : Type 0} (p : X → Bool) where
  -- how many elements stand before the first that passes
  abbrev before : List X → ℕ
  before xs = prefix_len (λ x. not (p x)) xs

  first_at : (xs : List X) (k : ℕ) (d : X) → before xs ≡ k → k < length xs → find p xs ≡ Some (get_or xs k d)
  first_at [] k d is low = absurd (omega (arith, low))
  first_at (x ∷ xs) k d is low = by (p x) refl (first_at xs (before xs) d refl)
    where
      by : (b : Bool) → p x ≡ b → (before xs < length xs → find p xs ≡ Some (get_or xs (before xs) d)) → find p (x ∷ xs) ≡ Some (get_or (x ∷ xs) k d)
      by true passes further =
          let none : k ≡ 0 = sym is ∙ ap (λ b. cond (not b) (1 + before xs) 0) passes in
          ap (λ b. cond b (Some x) (find p xs)) passes ∙ ap (λ n. Some (get_or (x ∷ xs) n d)) (sym none)
      by false fails further =
          let more : k ≡ 1 + before xs = sym is ∙ ap (λ b. cond (not b) (1 + before xs) 0) fails in
          let next : k ≡ suc (before xs) = omega (arith, more) in
          ap (λ b. cond b (Some x) (find p xs)) fails ∙ further (omega (arith, more, low)) ∙ ap (λ n. Some (get_or (x ∷ xs) n d)) (sym next)

  none_before : (xs : List X) → nat_lt (before xs) (length xs) ≡ false → find p xs ≡ None
  none_before [] none = refl
  none_before (x ∷ xs) none = by (p x) refl (none_before xs)
    where
      by : (b : Bool) → p x ≡ b → (nat_lt (before xs) (length xs) ≡ false → find p xs ≡ None) → find p (x ∷ xs) ≡ None
      by true passes further =
          let first : before (x ∷ xs) ≡ 0 = ap (λ b. cond (not b) (1 + before xs) 0) passes in
          absurd (false≢true (sym none ∙ lt-ltb (before (x ∷ xs)) (length (x ∷ xs)) (omega (arith, first))))
      by false fails further =
          let first : before (x ∷ xs) ≡ 1 + before xs = ap (λ b. cond (not b) (1 + before xs) 0) fails in
          ap (λ b. cond b (Some x) (find p xs)) fails ∙ further (later (nat_lt (before xs) (length xs)) refl first)
        where
          later : (t : Bool) → nat_lt (before xs) (length xs) ≡ t → before (x ∷ xs) ≡ 1 + before xs → nat_lt (before xs) (length xs) ≡ false
          later false is first = is
          later true is first =
              absurd (false≢true (sym none ∙ lt-ltb (before (x ∷ xs)) (length (x ∷ xs)) (let low : before xs < length xs = grind (arith, is) in
              omega (arith, first, low))))

-- whether a user in memory has the name
abbrev pub is_named : Text → User → Bool
is_named name user = bytes_eq (string_bytes user.name) name

named_among : (name : Text) (users : List User) → user_named name (map policy_user_of users) ≡ option_map policy_user_of (find (is_named name) users)
named_among name [] = refl
named_among name (user ∷ users) = by (is_named name user) (named_among name users)
  where
    by : (b : Bool) → user_named name (map policy_user_of users) ≡ option_map policy_user_of (find (is_named name) users)
        → cond b (Some (policy_user_of user)) (user_named name (map policy_user_of users))
        ≡ option_map policy_user_of (cond b (Some user) (find (is_named name) users))
    by true is = refl
    by false is = is

-- the user at the place of a name is the one who has it
pub one_named : (name : Text) (users : List User) (place : ℕ) (user d : User) → Some place ≡ position (is_named name) users → user ≡ get_or users place d
    → place < length users
    → user_named name (map policy_user_of users) ≡ Some (policy_user_of user)
one_named name users place user d found is low =
    named_among name users
    ∙ ap (option_map policy_user_of) (first_at (is_named name) users place d (at (nat_lt (before (is_named name) users) (length users)) found) low)
    ∙ ap (λ u. Some (policy_user_of u)) (sym is)
  where
    at : (b : Bool) → Some place ≡ cond b (Some (before (is_named name) users)) None → before (is_named name) users ≡ place
    at true same = cc
    at false same = let clash : Some place ≡ None = same in absurd cc

-- without a place nobody has the name
pub nobody_named : (name : Text) (users : List User) → None ≡ position (is_named name) users → user_named name (map policy_user_of users) ≡ None
nobody_named name users none =
    named_among name users
    ∙ ap (option_map policy_user_of) (none_before (is_named name) users (past (nat_lt (before (is_named name) users) (length users)) none))
  where
    past : (b : Bool) → None ≡ cond b (Some (before (is_named name) users)) None → b ≡ false
    past true same = let clash : None ≡ Some (before (is_named name) users) = same in absurd cc
    past false same = refl

-- he who is found has the name
pub has_name : (name : Text) (users : List PolicyUser) (user : PolicyUser) → user_named name users ≡ Some user → user.name ≡ name
has_name name [] user found = let clash : None ≡ Some user = found in absurd cc
has_name name (one ∷ users) user found = by (bytes_eq one.name name) refl (has_name name users user) found
  where
    by : (b : Bool) → bytes_eq one.name name ≡ b → (user_named name users ≡ Some user → user.name ≡ name)
        → cond b (Some one) (user_named name users) ≡ Some user → user.name ≡ name
    by true is later same = let here : one ≡ user = cc in ap (λ u. u.name) (sym here) ∙ (bytes_eq-Decides one.name name).0 is
    by false is later further = later further

-- he who stands at the place of a name has it
pub named_at : (name : Text) (users : List User) (place : ℕ) (user : User) → Some place ≡ position (is_named name) users → place < length users
    → user ≡ get_or users place user → string_bytes user.name ≡ name
named_at name users place user found low is = has_name name (map policy_user_of users) (policy_user_of user) (one_named name users place user user found is low)
