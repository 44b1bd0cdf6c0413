-- The readings of a whole text, one after the other.
use Rattle.std.proofs.Common.{◌≡◌, ℕ, length, Result, Ok, Err, refl, sym, ap, subst, ◌∙◌}
use Rattle.cqe_base.specs.Schema.{DatabaseSchema, Text}
use Rattle.cqe_base.specs.Facts.{FactSet}
use Rattle.cqe_base.specs.History.{UserProfile, History}
use Rattle.soundness.specs.Sound.{SoundHistoriesHide}
use Rattle.dossier.specs.Fields.{fields_of}
use Rattle.dossier.specs.Checked.{Awaited, head, checked_from, checked}
use Rattle.dossier.specs.Promised.{counted, IsCheckOf, IsAccepted, CheckedAreSound}
use Rattle.dossier.specs.Reading.{Unread, next_line, fields_left, answer, ReadsOn}
use Rattle.dossier.specs.Items.{ReadsItems}
use Rattle.dossier.specs.declared.error.DossierError.{DossierError}
use Rattle.dossier.specs.declared.error.DossierError.TheVariants as refused

-- a reading over the schema and the user that were kept is one over those that they are
pub reads-at : {X : Type 0} (schema schema' : DatabaseSchema) (world : FactSet) (name : Text) (user user' : UserProfile) (awaited : Result Awaited DossierError)
    (old new : Unread) (then : X → Result Awaited DossierError) (result : Result X DossierError) → schema' ≡ schema → user' ≡ user
    → ReadsOn schema' world name user' awaited old new then result → ReadsOn schema world name user awaited old new then result
reads-at schema schema' world name user user' awaited old new then result s u reads =
    subst (λ x. ReadsOn x world name user awaited old new then result) s (subst (λ x. ReadsOn schema' world name x awaited old new then result) u reads)

-- and so is one of the items, behind those that there were
pub items-at : (schema schema' : DatabaseSchema) (world : FactSet) (name : Text) (user user' : UserProfile) (entries entries' after : History)
    (old new : Unread) (result : Result (Unit {0}) DossierError) → schema' ≡ schema → user' ≡ user → entries' ≡ entries
    → ReadsItems schema' world name user' entries' old new after result → ReadsItems schema world name user entries old new after result
items-at schema schema' world name user user' entries entries' after old new result s u e reads =
    subst (λ x. ReadsItems x world name user entries old new after result) s
    (subst (λ x. ReadsItems schema' world name x entries old new after result) u
    (subst (λ x. ReadsItems schema' world name user' x old new after result) e reads))

module _ (schema : DatabaseSchema) (world : FactSet) (name : Text) (user : UserProfile) (text : Text) (start : Unread) (first : next_line start ≡ 1)
    (fields : fields_left start ≡ fields_of text) where
  -- what the unread text shows at first is what the text shows
  pub begins : answer schema world name user (Ok head) start ≡ checked schema world name user text
  begins = λ i. checked_from schema world name user (Ok head) (first i) (fields i)

  -- want of memory says nothing
  pub memory-check : (why : DossierError) → why ≡ refused.Memory → IsCheckOf schema world name user text (Err why)
  memory-check why is isnt = absurd (isnt (ap Err is))

  -- a refusal that the rest shows is the answer
  pub exact-check : (awaited : Result Awaited DossierError) (left : Unread) (why : DossierError)
      → answer schema world name user (Ok head) start ≡ answer schema world name user awaited left
      → answer schema world name user awaited left ≡ Err why → IsCheckOf schema world name user text (Err why)
  exact-check awaited left why so_far is isnt = ap counted (sym (sym begins ∙ so_far ∙ is))

  -- and so is one of what is read next
  pub refused-check : {X : Type 0} (awaited : Result Awaited DossierError) (left new : Unread) (then : X → Result Awaited DossierError) (why : DossierError)
      → answer schema world name user (Ok head) start ≡ answer schema world name user awaited left
      → ReadsOn schema world name user awaited left new then (Err why) → IsCheckOf schema world name user text (Err why)
  refused-check awaited left new then why so_far next = by why next
    where
      by : (why : DossierError) → ReadsOn schema world name user awaited left new then (Err why) → IsCheckOf schema world name user text (Err why)
      by refused.Memory next = memory-check refused.Memory refl
      by (refused.Form line) next = exact-check awaited left (refused.Form line) so_far next
      by (refused.Text line) next = exact-check awaited left (refused.Text line) so_far next
      by (refused.Verdict line) next = exact-check awaited left (refused.Verdict line) so_far next
      by (refused.Mark line) next = exact-check awaited left (refused.Mark line) so_far next
      by (refused.Admission line) next = exact-check awaited left (refused.Admission line) so_far next
      by (refused.Unsafe line) next = exact-check awaited left (refused.Unsafe line) so_far next

  module _ (entries : History) (whole : answer schema world name user (Ok head) start ≡ Ok entries) where
    shown : checked schema world name user text ≡ Ok entries
    shown = sym begins ∙ whole

    -- the number of the items that were shown is the answer
    pub whole-check : (count : ℕ) → length entries ≡ count → IsCheckOf schema world name user text (Ok count)
    whole-check count size isnt = sym (ap counted shown ∙ ap Ok size)

    -- and all of the claim holds of them
    pub whole-accepted : CheckedAreSound → SoundHistoriesHide → (count : ℕ) → length entries ≡ count → IsAccepted schema world name user text count
    whole-accepted sound hide count size =
        let (admissible, is_sound) = sound schema world name user text entries shown in
        record {
          entries = entries;
          shown = shown;
          are_counted = size;
          admissible = admissible;
          sound = is_sound;
          hides = hide schema world user entries admissible is_sound;
        }
