-- Values in memory, and the tree that they are.
use Rattle.std.proofs.Common.{◌≡◌, ℕ, false, List, [], ◌∷◌, refl, ap, inl, inr}
use Rattle.std.specs.Prelude.{IsUtf8}
use Rattle.std.specs.Str.{is_utf8}
use Rattle.std.proofs.lemmas.Bool.{cases_Bool}
use Rattle.std.proofs.lemmas.Str.{IsUtf8-from_is_utf8, is_utf8-from_IsUtf8}
use Rattle.toml.specs.Data.{Data}
use Rattle.toml.specs.View.{items_of}
use Rattle.toml.proofs.Views.{view-Table}
use Rattle.policy_files.specs.Tree.{listed}

pub listed-items_of : (values : List Data) → listed (items_of values) ≡ values
listed-items_of [] = refl
listed-items_of (value ∷ values) = ap (λ (rest : List Data). value ∷ rest) (listed-items_of values)

pub isnt_utf8 : (bytes : List ℕ) → ¬ (IsUtf8 bytes) → is_utf8 bytes ≡ false
isnt_utf8 bytes none = elim (cases_Bool (is_utf8 bytes)) [ inl is ↦ absurd (none (IsUtf8-from_is_utf8 bytes is)) | inr not ↦ not ]

pub ruleset the_documents = (isnt_utf8, is_utf8-from_IsUtf8, view-Table)
