-- Texts with the form of a dossier whose blocks are right, whoever wrote them: what is accepted.
use Rattle.std.specs.Prelude.{◌≡◌, ◌⊎◌, ◌↔◌, ◌==◌, true, false, List, [], ◌∷◌, ◌++◌, length}
use Rattle.std.specs.Prelude.{map, Some, Ok, codes}
use Rattle.std.specs.List.{list_all, list_any}
use Rattle.cqe_base.specs.Schema.{DatabaseSchema, Text, is_valid_schema}
use Rattle.cqe_base.specs.Facts.{FactSet}
use Rattle.cqe_base.specs.History.{UserProfile, AnsweredQuery, History, known}
use Rattle.cqe_base.specs.Censor.{Probe, guarded, probes_against, IsAdmissible}
use Rattle.cqe_base.specs.Limits.{KeepsSizes}
use Rattle.log_journal.specs.Records.{Recorded, is_record}
use Rattle.user_desk.specs.Entries.{entry_of}
use Rattle.soundness.specs.Sound.{IsSound}
use Rattle.dossier.specs.Checked.{checked}
use Rattle.dossier.specs.Written.{IsRightBlock, item_head, item_probes, head_text, done_text}

-- blocks of these probes, one after the other, each of them right
abbrev pub AreRightBlocks : DatabaseSchema → List Probe → Text → Type 0
AreRightBlocks schema [] text = text ≡ []
AreRightBlocks schema (probe ∷ more) text =
    (first rest : Text) × IsRightBlock schema probe first × AreRightBlocks schema more rest
    × (text ≡ first ++ rest)

module _ (schema : DatabaseSchema) (user : UserProfile) where
  -- a text of an item behind the items before it, with right blocks
  abbrev pub IsRightItem : (before : History) → AnsweredQuery → (said : Text) → Text → Type 0
  IsRightItem before entry said text =
      (blocks : Text)
      × AreRightBlocks schema (item_probes schema user before entry.mark entry.query) blocks
      × (text ≡ item_head entry.mark said ++ blocks)

  -- texts of the items of records, one after the other, with right blocks
  abbrev pub AreRightItems : (before : History) → List Recorded → Text → Type 0
  AreRightItems before [] text = text ≡ []
  AreRightItems before (next ∷ more) text =
      (entry : AnsweredQuery) × (entry_of schema next ≡ Some entry)
      × (first rest : Text) × IsRightItem before entry next.1 first
      × AreRightItems (before ++ entry ∷ []) more rest × (text ≡ first ++ rest)

-- the line of a user's admission, with right blocks
abbrev pub IsRightAdmission : DatabaseSchema → UserProfile → Text → Type 0
IsRightAdmission schema user text =
    (blocks : Text) × AreRightBlocks schema (probes_against (known user) (guarded user)) blocks
    × (text ≡ codes "admission\n" ++ blocks)

-- a dossier of a user with these records, each block of which is right
abbrev pub IsRightDossier : DatabaseSchema → Text → UserProfile → List Recorded → Text → Type 0
IsRightDossier schema name user records text =
    (admission items : Text) × IsRightAdmission schema user admission
    × AreRightItems schema user [] records items
    × (text ≡ head_text name user (codes "open") ++ admission ++ items
    ++ done_text (length records))

-- a text, or it with its last line feed, is such a dossier of records that stand for these items
abbrev pub HasDossier : DatabaseSchema → Text → UserProfile → History → Text → Type 0
HasDossier schema name user entries text =
    (records : List Recorded) × (list_all (is_record 5) records ≡ true)
    × (map (entry_of schema) records ≡ map Some entries)
    × (IsRightDossier schema name user records text
    ⊎ IsRightDossier schema name user records (text ++ codes "\n"))

-- a text shows this history exactly where the user is admissible, the history is sound and within
-- the limits, and the text has a dossier of it
abbrev pub DossiersAreChecked : Type 0
DossiersAreChecked =
    (schema : DatabaseSchema) (world : FactSet) (name : Text) (user : UserProfile)
    (entries : History) (text : Text)
    → is_valid_schema schema ≡ true → list_any (λ b. b == 10) name ≡ false
    → (checked schema world name user text ≡ Ok entries)
    ↔ (IsAdmissible schema world user × IsSound schema world user entries
    × KeepsSizes schema user entries × HasDossier schema name user entries text)
