-- The history with which a user's journal is opened.
use Rattle.std.specs.Prelude.{◌≡◌, ◌⊎◌, ℕ, List, []}
use Rattle.cqe_base.specs.Schema.{DatabaseSchema}
use Rattle.cqe_base.specs.Facts.{FactSet}
use Rattle.cqe_base.specs.History.{UserProfile, History}
use Rattle.user_desk.specs.Causes.{Opens}

module _ (schema : DatabaseSchema) (world : FactSet) (user : UserProfile) (header : List ℕ) where
  -- the bytes open a desk with no entries whatever
  abbrev pub OpensNone : List ℕ → Type 0
  OpensNone bytes = (entries : History) → Opens schema world user header entries bytes → ⊥

  -- the history with which a user's journal is opened, by its bytes: the legal one that they stand
  -- for, and the empty one where they open no desk
  abbrev pub OpensWith : List ℕ → History → Type 0
  OpensWith bytes opened =
      Opens schema world user header opened bytes ⊎ (OpensNone bytes × (opened ≡ []))
