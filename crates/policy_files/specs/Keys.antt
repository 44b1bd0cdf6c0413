-- The keys of a policy, and how a step refuses one.
use Rattle.std.specs.Prelude.{ℕ, ◌&&◌, nat_le, List, [], ◌∷◌, Option, Some, None, Result, Ok, Err}
use Rattle.std.specs.Prelude.{codes, if◌then◌else◌}
use Rattle.cqe_base.specs.declared.text.TextError.{TextError}
use Rattle.cqe_base.specs.Schema.{Text}
use Rattle.toml.specs.Data.{Data}
use Rattle.policy_files.specs.Tree.{members, unknown_key}
use Rattle.policy_files.specs.declared.keys.PolicyVersion.{PolicyVersion}
use Rattle.policy_files.specs.declared.keys.PolicyVersion.TheVariants.{One, Two}
use Rattle.policy_files.specs.declared.error.KeyPlace.{KeyPlace}
use Rattle.policy_files.specs.declared.error.PolicyError.{PolicyError}
use Rattle.policy_files.specs.declared.error.PolicyError.TheVariants.{MissingKey, WrongKind}
use Rattle.policy_files.specs.declared.error.PolicyError.TheVariants.{UnknownKey, Limit}

-- what a step of reading a policy gives, or why it refuses the policy
abbrev pub Step : Type 0 → Type 0
Step A = Result A PolicyError

infixl 10 ◌>>=◌
-- one step after another; the first that refuses ends them
abbrev pub ◌>>=◌ : {A B : Type 0} → Step A → (A → Step B) → Step B
(Ok x) >>= f = f x
(Err e) >>= f = Err e

-- the place of a key, in the user of this number or in the document itself
abbrev pub key_place : Option ℕ → Text → KeyPlace
key_place user key = record { user = user; key = key; index = None; text = None }

-- the place of a text in the array at a user's key, with why it is no sentence, if that is the
-- cause
abbrev pub text_place : ℕ → Text → ℕ → Option TextError → KeyPlace
text_place user key index why =
    record { user = Some user; key = key; index = Some index; text = why }

-- the keys of a document
abbrev pub root_keys : List Text
root_keys = codes "version" ∷ codes "domains" ∷ codes "relations" ∷ codes "users" ∷ []

-- the keys of a user in version 1
abbrev pub first_user_keys : List Text
first_user_keys = codes "name" ∷ codes "method" ∷ codes "know" ∷ codes "secrets" ∷ codes "budget"
    ∷ codes "token" ∷ []

-- the keys of a user; `secrecies` is one from version 2 on
abbrev pub user_keys : PolicyVersion → List Text
user_keys One = first_user_keys
user_keys Two = codes "secrecies" ∷ first_user_keys

-- the keys in the user of this number, or of the document itself
abbrev pub keys_at : PolicyVersion → Option ℕ → List Text
keys_at version None = root_keys
keys_at version (Some user) = user_keys version

-- the least key that has no meaning there is refused
abbrev pub without_unknown : Option ℕ → Option Text → Step (Unit {0})
without_unknown user None = Ok tt
without_unknown user (Some key) = Err (UnknownKey (key_place user key))

-- a table has no other key than those that have a meaning there
abbrev pub only_keys : PolicyVersion → Option ℕ → Data → Step (Unit {0})
only_keys version user value =
    without_unknown user (unknown_key (keys_at version user) (members value))

-- a value of the kind that is wanted
abbrev pub of_kind : {A : Type 0} → KeyPlace → Option A → Step A
of_kind place None = Err (WrongKind place)
of_kind place (Some x) = Ok x

-- the value that must stand at a key
abbrev pub there : KeyPlace → Option Data → Step Data
there place None = Err (MissingKey place)
there place (Some value) = Ok value

-- the same, of the kind that is wanted
abbrev pub required : {A : Type 0} → (Data → Option A) → KeyPlace → Option Data → Step A
required kind place value = there place value >>= λ found. of_kind place (kind found)

-- a number from the least to the greatest
abbrev pub within : ℕ → ℕ → KeyPlace → ℕ → Step ℕ
within least greatest place n =
    if nat_le least n && nat_le n greatest then Ok n else Err (Limit place)
