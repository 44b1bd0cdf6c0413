-- A dossier that one call wrote and another checked.
use Rattle.std.specs.Prelude.{◌≡◌, ◌⊎◌, ◌≤◌, ℕ, true, List, [], ◌++◌, length, Some}
use Rattle.cqe_base.specs.Censor.{admitted}
use Rattle.cqe_base.specs.Facts.{FactSet}
use Rattle.cqe_base.specs.History.{History}
use Rattle.cqe_base.specs.Schema.{Text}
use Rattle.command_words.specs.Readings.{FileNames, reading_of, runs_check, runs_dossier}
use Rattle.dossier_engine.specs.Checks.{sound_text}
use Rattle.policy_files.specs.Policies.{PolicyUser, PolicyValue}
use Rattle.user_desk.specs.Causes.{Opens}
use Rattle.cqe_top.specs.Files.{both, said_on, journals_of}
use Rattle.cqe_top.specs.Promise.{Promise}
use Rattle.cqe_top.specs.Scene.{Scene, Output, HasRisen}
use Rattle.cqe_top.specs.Files.{user_named}

module _ (files : FileNames) (user : Text) (policy : PolicyValue) (world : FactSet)
    (header : List ℕ) (one : PolicyUser) where
  -- A call of `dossier` of this user ended with 0, over files that say this, on an output that
  -- tells and was empty. He is admitted, and the bytes of his journal open a desk with these
  -- entries.
  pub record HasWritten (words : List Text) (s : Scene) (status : ℕ) (entries : History)
      : Type 0 where
    pub read : reading_of words ≡ Some (runs_dossier files user)
    pub shelf : s.shelf.tells
    pub output : s.output.tells
    pub said : said_on s.shelf files ≡ both policy world header
    pub named : user_named user policy.users ≡ Some one
    pub is_admitted : admitted policy.schema world one.profile ≡ true
    pub opens : Opens policy.schema world one.profile header entries
        ((journals_of s.shelf files).bytes one.name)
    pub empty : s.output.written ≡ []
    pub done : status ≡ 0

  -- A call of `check` of a dossier of his over the same two files, which say the same, had this
  -- text as its input, which isn't too long. Its objects tell, and none of their counts rose.
  pub record HasChecked (words : List Text) (s : Scene) (text : Text) : Type 0 where
    pub read : reading_of words ≡ Some (runs_check files.policy files.facts user)
    pub shelf : s.shelf.tells
    pub input : s.input.tells
    pub output : s.output.tells
    pub said : said_on s.shelf files ≡ both policy world header
    pub text_is : s.input.left ≡ text
    pub short : length text ≤ 67108864
    pub shelf_whole : HasRisen s.shelf.faults → ⊥
    pub input_whole : HasRisen s.input.faults → ⊥
    pub output_whole : HasRisen s.output.faults → ⊥

-- Whatever `top` promised of a call of `dossier` and of a call of `check`: where the second had as
-- its input what the first wrote, it found that sound, with as many items as the user has entries,
-- or memory was wanting.
abbrev pub WrittenIsFoundSound : Scene → Output → Scene → Output → Type 0
WrittenIsFoundSound s complaints s' complaints' =
    (words words' : List Text) (status status' : ℕ) (files : FileNames) (user : Text)
    (policy : PolicyValue) (world : FactSet) (header : List ℕ) (one : PolicyUser)
    (entries : History)
    → Promise words s complaints status → Promise words' s' complaints' status'
    → HasWritten files user policy world header one words s status entries
    → HasChecked files user policy world header one words' s' s.output.written'
    → (status' ≡ 13) ⊎ ((status' ≡ 0)
    × (s'.output.written' ≡ s'.output.written ++ sound_text (length entries)))
