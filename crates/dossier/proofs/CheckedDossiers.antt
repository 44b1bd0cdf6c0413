-- A text is accepted exactly where it has the dossier of a sound history within the limits.
use Rattle.std.proofs.Common.{◌≡◌, ◌≤◌, ℕ, ◌+◌, Bool, true, false, not, List, [], ◌∷◌, ◌++◌, length, map, Some, Ok, Err, refl, sym, ap, inl}
use Rattle.std.proofs.Common.{inr, ◌⊎◌, ◌∙◌, arith, append_assoc}
use Rattle.std.specs.Prelude.{if◌then◌else◌, bytes_eq, codes}
use Rattle.std.specs.List.{list_all}
use Rattle.std.specs.Cmp.Lexicographic.{same_text}
use Rattle.cqe_base.specs.Schema.{DatabaseSchema, Text}
use Rattle.cqe_base.specs.Facts.{FactSet}
use Rattle.cqe_base.specs.Entailment.{TestIsEntailment}
use Rattle.cqe_base.specs.History.{UserProfile, History, known}
use Rattle.cqe_base.specs.Censor.{guarded, probes_against, knows_truth_by, IsAdmissible}
use Rattle.cqe_base.specs.Limits.{KeepsSizes}
use Rattle.cqe_base.specs.MachineLaws.{RefutationEntails}
use Rattle.cqe_base.proofs.Truths.{length-map}
use Rattle.log_journal.specs.Records.{Recorded, is_record}
use Rattle.user_desk.specs.Entries.{entry_of}
use Rattle.soundness.specs.Sound.{IsSound, EmptyHistoryIsSound, SoundHistoriesGrow}
use Rattle.soundness.specs.Verdicts.{VerdictsGiveMarks}
use Rattle.dossier.specs.Fields.{lines_in, is_alone, field_of}
use Rattle.dossier.specs.Written.{head_text, done_text}
use Rattle.dossier.specs.Right.{AreRightBlocks, IsRightAdmission, IsRightDossier, HasDossier, DossiersAreChecked}
use Rattle.dossier.specs.Checked.{head, admission, item, admitting, head_rest, head_line, awaited_for, checked}
use Rattle.dossier.specs.declared.error.DossierError.TheVariants as refused
use Rattle.dossier.proofs.Kept.{no-sizes}
use Rattle.dossier.proofs.LinesBack.{joined, joined-both, lines-joined}
use Rattle.dossier.proofs.Traced.{word_of_line, rest_of_line, is-alone, is-followed, some-of, Runs, GoesOn, goes-behind, blocks-shown}
use Rattle.dossier.proofs.ItemsTraced.{HasItems, items-shown}
use Rattle.dossier.proofs.Shown.{checked_are_sound}
use Rattle.dossier.proofs.Accepting.{right-accepted, right-accepted-unended}

module _ (schema : DatabaseSchema) (world : FactSet) (name : Text) (user : UserProfile) (all : History) where
  -- ---- the admission

  admission-shown : (n : ℕ) (lines : List Text) → Runs schema world name user all (Ok admission) n lines
      → GoesOn schema world name user all (IsRightAdmission schema user) (Ok (item [])) lines
  admission-shown n [] runs = absurd cc
  admission-shown n (line ∷ lines) runs =
      by (is_alone (field_of n line) (codes "admission")) refl (knows_truth_by user.method schema world (known user)) runs
    where
      by : (a : Bool) → is_alone (field_of n line) (codes "admission") ≡ a → (b : Bool)
          → Runs schema world name user all
          (if not a then Err (refused.Form n)
          else if b then awaited_for schema world name user [] admitting (probes_against (known user) (guarded user)) []
          else Err (refused.Admission n)) (n + 1) lines
          → GoesOn schema world name user all (IsRightAdmission schema user) (Ok (item [])) (line ∷ lines)
      by false is b runs = absurd cc
      by true is false runs = absurd cc
      by true is true runs =
          let (verdicts, blocks) = blocks-shown schema world name user all [] admitting (probes_against (known user) (guarded user)) [] (n + 1) lines runs in
          goes-behind schema world name user all (AreRightBlocks schema (probes_against (known user) (guarded user))) (IsRightAdmission schema user)
          (Ok (item [])) line lines
          (λ text are. (text, are, ap (λ l. (l ++ codes "\n") ++ text) (is-alone n line (codes "admission") is)))
          blocks

  -- ---- the line of the user

  head-shown : (n : ℕ) (line : Text) (lines : List Text) → Runs schema world name user all (head_line schema world name user (field_of n line)) (n + 1) lines
      → (line ++ codes "\n" ≡ head_text name user (codes "open")) × Runs schema world name user all (Ok admission) (n + 1) lines
  head-shown n line lines runs =
      by (bytes_eq (word_of_line line) (codes "dossier")) refl (bytes_eq (rest_of_line line) (head_rest name user (codes "open"))) refl
      (bytes_eq (rest_of_line line) (head_rest name user (codes "closed"))) (bytes_eq (rest_of_line line) (head_rest name user (codes "sealed"))) runs
    where
      by : (a : Bool) → bytes_eq (word_of_line line) (codes "dossier") ≡ a
          → (b : Bool) → bytes_eq (rest_of_line line) (head_rest name user (codes "open")) ≡ b → (c d : Bool)
          → Runs schema world name user all
          (if not a then Err (refused.Form n) else if b then Ok admission else if c then Err (refused.Admission n)
          else if d then Err (refused.Admission n) else Err (refused.Form n)) (n + 1) lines
          → (line ++ codes "\n" ≡ head_text name user (codes "open")) × Runs schema world name user all (Ok admission) (n + 1) lines
      by false is b b_is c d runs = absurd cc
      by true is false b_is true d runs = absurd cc
      by true is false b_is false true runs = absurd cc
      by true is false b_is false false runs = absurd cc
      by true is true b_is c d runs =
          let rest : rest_of_line line ≡ head_rest name user (codes "open") =
          same_text (rest_of_line line) (head_rest name user (codes "open")) (sym b_is) in
          let some : 1 ≤ length (rest_of_line line) = some-of (rest_of_line line) 49 _ rest in (
            ap (λ l. l ++ codes "\n") (is-followed line (codes "dossier") is some ∙ ap (λ t. codes "dossier" ++ 32 ∷ t) rest),
            runs,
          )

  -- ---- the whole text

  -- what such a text is
  text-is : (records : List Recorded) (entries : History) → map (entry_of schema) records ≡ map Some entries
      → (line admits items : Text) (lines first rest : List Text) → line ++ codes "\n" ≡ head_text name user (codes "open") → lines ≡ first ++ rest
      → joined first ≡ admits → joined rest ≡ items ++ done_text (length entries)
      → joined (line ∷ lines) ≡ head_text name user (codes "open") ++ admits ++ items ++ done_text (length records)
  text-is records entries stand line admits items lines first rest head_is parts admits_is items_are =
      let split : joined lines ≡ joined first ++ joined rest = ap joined parts ∙ joined-both first rest in
      let count : length entries ≡ length records =
      sym (length-map Some entries) ∙ ap length (sym stand) ∙ length-map (entry_of schema) records in
      (λ i. head_is i ++ split i)
      ∙ (λ i. head_text name user (codes "open") ++ (admits_is i ++ items_are i))
      ∙ sym (append_assoc (head_text name user (codes "open")) admits (items ++ done_text (length entries)))
      ∙ sym (append_assoc (head_text name user (codes "open") ++ admits) items (done_text (length entries)))
      ∙ ap (λ c. head_text name user (codes "open") ++ admits ++ items ++ done_text c) count

  -- lines that are accepted are such a dossier
  lines-shown : (text : Text) → (joined (lines_in text) ≡ text) ⊎ (joined (lines_in text) ≡ text ++ codes "\n") → (lines : List Text) → lines_in text ≡ lines
      → Runs schema world name user all (Ok head) 1 lines → KeepsSizes schema user all × HasDossier schema name user all text
  lines-shown text joins [] are runs = absurd cc
  lines-shown text joins (line ∷ lines) are runs =
      let (head_is, more) = head-shown 1 line lines runs in
      let admits = admission-shown (1 + 1) lines more in
      let has = items-shown schema world name user all (length admits.rest) [] (no-sizes schema user [] refl) admits.number admits.rest (omega arith)
      admits.further in
      let stand : map (entry_of schema) has.records ≡ map Some all = has.stand ∙ ap (map Some) (sym has.whole) in
      let whole : joined (lines_in text)
      ≡ head_text name user (codes "open") ++ joined admits.first ++ has.items ++ done_text (length has.records) =
      ap joined are
      ∙ text-is has.records all stand line (joined admits.first) has.items lines admits.first admits.rest head_is admits.parts refl has.text_is in
      (has.sizes, (has.records, has.kept, stand, by joins has admits whole))
    where
      by : (joined (lines_in text) ≡ text) ⊎ (joined (lines_in text) ≡ text ++ codes "\n")
          → {rest : List Text} (has : HasItems schema world name user all [] rest)
          → (admits : GoesOn schema world name user all (IsRightAdmission schema user) (Ok (item [])) lines)
          → joined (lines_in text) ≡ head_text name user (codes "open") ++ joined admits.first ++ has.items ++ done_text (length has.records)
          → IsRightDossier schema name user has.records text ⊎ IsRightDossier schema name user has.records (text ++ codes "\n")
      by (inl same) has admits whole = inl (joined admits.first, has.items, admits.is, has.are, sym same ∙ whole)
      by (inr same) has admits whole = inr (joined admits.first, has.items, admits.is, has.are, sym same ∙ whole)

  pub text-shown : (text : Text) → checked schema world name user text ≡ Ok all → KeepsSizes schema user all × HasDossier schema name user all text
  text-shown text runs = lines-shown text (lines-joined text) (lines_in text) refl runs

-- both ways
pub dossiers_are_checked : TestIsEntailment → RefutationEntails → EmptyHistoryIsSound → SoundHistoriesGrow → VerdictsGiveMarks → DossiersAreChecked
dossiers_are_checked test refutes empty grows verdicts schema world name user entries text valid no_feed = (
  λ is.
      let (admissible, sound) = checked_are_sound test refutes empty grows verdicts schema world name user text entries is in
      let (sizes, has) = text-shown schema world name user entries text is in
      (admissible, sound, sizes, has),
  λ given. by given.0 given.1 given.2 given.3.0 given.3.1 given.3.2 given.3.3,
)
  where
    by : IsAdmissible schema world user → IsSound schema world user entries → KeepsSizes schema user entries → (records : List Recorded)
        → list_all (is_record 5) records ≡ true → map (entry_of schema) records ≡ map Some entries
        → IsRightDossier schema name user records text ⊎ IsRightDossier schema name user records (text ++ codes "\n")
        → checked schema world name user text ≡ Ok entries
    by admissible sound sizes records kept stand (inl is) =
        right-accepted schema world name user entries sizes valid no_feed admissible sound records kept stand text is
    by admissible sound sizes records kept stand (inr is) =
        right-accepted-unended schema world name user entries sizes valid no_feed admissible sound records kept stand text is
