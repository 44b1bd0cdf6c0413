-- The dossier of a sound history within the limits is accepted, and so is that of a legal one.
use Rattle.std.proofs.Common.{◌≡◌, ◌≤◌, ◌==◌, ℕ, true, false, List, [], ◌∷◌, ◌++◌, length, map, Some, Ok, Err, Result}
use Rattle.std.proofs.Common.{◌+◌, refl, sym, ap, subst, ◌∙◌, arith, append-nil, append_assoc, length-append}
use Rattle.std.specs.Prelude.{if◌then◌else◌, codes, decimal, bytes_eq}
use Rattle.std.specs.List.{list_all, list_any}
use Rattle.std.proofs.lemmas.Fmt.{decimal_nonempty}
use Rattle.std.proofs.lemmas.List.{append_cancel_right}
use Rattle.cqe_base.specs.declared.user.Method.{Method}
use Rattle.cqe_base.specs.declared.user.Method.TheVariants.{Lying, Refusal, Combined}
use Rattle.cqe_base.specs.Schema.{DatabaseSchema, Text, is_name_byte, is_identifier, is_valid_schema}
use Rattle.cqe_base.specs.Facts.{FactSet}
use Rattle.cqe_base.specs.History.{UserProfile, History, known}
use Rattle.cqe_base.specs.Censor.{guarded, probes_against, IsAdmissible}
use Rattle.cqe_base.specs.Limits.{KeepsSizes}
use Rattle.cqe_base.proofs.Lists.{text_is}
use Rattle.cqe_base.proofs.Truths.{and_first, list_any-map, length-map}
use Rattle.cqe_base.proofs.Limits.{sizes_are_of_schema}
use Rattle.cqe_base.proofs.Confidential.{admitted_are_admissible}
use Rattle.log_journal.specs.Records.{Recorded, is_record}
use Rattle.log_journal.specs.Walk as walk
use Rattle.audit_print.specs.Said.{method_word}
use Rattle.user_desk.specs.Entries.{entry_of}
use Rattle.soundness.specs.Sound.{IsSound}
use Rattle.soundness.proofs.Sounding.{legal_histories_are_sound}
use Rattle.dossier.specs.Fields.{field_of, fields_from}
use Rattle.dossier.specs.Written.{head_text, done_text}
use Rattle.dossier.specs.Right.{IsRightAdmission, AreRightItems, IsRightDossier}
use Rattle.dossier.specs.Checked.{Awaited, head, admission, item, nothing, admitting, head_rest, head_line, admission_line, item_line, awaited_for}
use Rattle.dossier.specs.Checked.{checked_from, checked}
use Rattle.dossier.specs.Accepted.{DossiersAreAccepted, ServedAreAccepted, NamesHaveNoFeed}
use Rattle.dossier.specs.declared.error.DossierError.{DossierError}
use Rattle.dossier.specs.declared.error.DossierError.TheVariants as refused
use Rattle.dossier.proofs.Ended.{none-both, kind-lacks, place-none}
use Rattle.dossier.proofs.Few.{few-items}
use Rattle.dossier.proofs.Lines.{last-part}
use Rattle.dossier.proofs.Numerals.{decimal-lacks}
use Rattle.dossier.proofs.FactTexts.{name-bytes}
use Rattle.dossier.proofs.Leads.{field-with, field-alone, shows, Leads, leads-both, leads-line, leads-one}
use Rattle.dossier.proofs.BlocksLead.{follows, blocks-lead}
use Rattle.dossier.proofs.ItemsLead.{items-lead}
use Rattle.dossier.proofs.RightTexts.{right-dossier}

pub names-have-no-feed : NamesHaveNoFeed
names-have-no-feed name is =
    kind-lacks is_name_byte 10 refl name
    (name-bytes name (and_first (is_identifier name) _ (and_first _ _ (and_first _ _ is))))

method-lacks : (method : Method) → list_any (λ b. b == 10) (method_word method) ≡ false
method-lacks Lying = refl
method-lacks Refusal = refl
method-lacks Combined = refl

module _ (schema : DatabaseSchema) (world : FactSet) (name : Text) (user : UserProfile) where
  abbrev LeadsOn : Result Awaited DossierError → Text → Result Awaited DossierError → Type 0
  LeadsOn first text after = Leads schema world name user first text after

  -- ---- the line of the user

  rest-lacks : list_any (λ b. b == 10) name ≡ false → list_any (λ b. b == 10) (head_rest name user (codes "open")) ≡ false
  rest-lacks none =
      none-both (λ b. b == 10) (codes "1 " ++ name ++ codes " " ++ method_word user.method ++ codes " ") (codes "open")
      (none-both (λ b. b == 10) (codes "1 " ++ name ++ codes " " ++ method_word user.method) (codes " ")
      (none-both (λ b. b == 10) (codes "1 " ++ name ++ codes " ") (method_word user.method)
      (none-both (λ b. b == 10) (codes "1 " ++ name) (codes " ") (none-both (λ b. b == 10) (codes "1 ") name refl none) refl)
      (method-lacks user.method))
      refl)
      refl

  rest-some : 1 ≤ length (head_rest name user (codes "open"))
  rest-some = omega (arith, length-append (codes "1 " ++ name ++ codes " " ++ method_word user.method ++ codes " ") (codes "open"))

  head-leads : list_any (λ b. b == 10) name ≡ false → LeadsOn (Ok head) (head_text name user (codes "open")) (Ok admission)
  head-leads none =
      leads-one schema world name user head (codes "dossier" ++ 32 ∷ head_rest name user (codes "open")) (Ok admission)
      (none-both (λ b. b == 10) (codes "dossier ") (head_rest name user (codes "open")) refl (rest-lacks none))
      (λ n. ap (head_line schema world name user) (field-with n (codes "dossier") (head_rest name user (codes "open")) refl rest-some)
      ∙ ap (λ b. if b then Ok admission else if bytes_eq (head_rest name user (codes "open")) (head_rest name user (codes "closed"))
      then Err (refused.Admission n) else if bytes_eq (head_rest name user (codes "open")) (head_rest name user (codes "sealed"))
      then Err (refused.Admission n) else Err (refused.Form n)) (text_is (head_rest name user (codes "open"))))

  -- ---- his admission

  module _ (valid : is_valid_schema schema ≡ true) where
    admission-leads : IsAdmissible schema world user → (text : Text) → IsRightAdmission schema user text → LeadsOn (Ok admission) text (Ok (item []))
    admission-leads admissible text (blocks, are, is) =
        subst (λ t. LeadsOn (Ok admission) t (Ok (item []))) (sym is)
        (leads-line schema world name user admission (codes "admission") blocks
        (λ n. awaited_for schema world name user [] admitting (probes_against (known user) (guarded user)) []) (Ok (item [])) refl
        (λ n. ap (admission_line schema world name user) (field-alone n (codes "admission") refl)
        ∙ ap (λ b. if b then awaited_for schema world name user [] admitting (probes_against (known user) (guarded user)) [] else Err (refused.Admission n))
        admissible.knows_truth)
        (λ n. blocks-lead schema world name user valid [] admitting (probes_against (known user) (guarded user)) [] blocks are
        (list_any-map (follows schema world name user) (λ goal. record { premises = known user; goal = (goal, true) }) (guarded user)
        ∙ admissible.knows_no_secret)))

  -- ---- the end

  -- the last line, without its line feed
  abbrev last_line : ℕ → Text
  last_line count = codes "done" ++ 32 ∷ decimal count

  last-lacks : (count : ℕ) → count ≤ 4096 → list_any (λ b. b == 10) (last_line count) ≡ false
  last-lacks count few = none-both (λ b. b == 10) (codes "done ") (decimal count) refl (decimal-lacks 10 refl count (omega (arith, few)))

  last-says : (entries : History) (count : ℕ) → count ≡ length entries → count ≤ 4096 → (n : ℕ)
      → item_line schema world name user entries (field_of n (last_line count)) ≡ Ok (nothing entries)
  last-says entries count is few n =
      ap (item_line schema world name user entries) (field-with n (codes "done") (decimal count) refl some-digit)
      ∙ ap (λ c. if bytes_eq (decimal count) (decimal c) then Ok (nothing entries) else Err (refused.Form n)) (sym is)
      ∙ ap (λ b. if b then Ok (nothing entries) else Err (refused.Form n)) (text_is (decimal count))
    where
      some-digit : 1 ≤ length (decimal count)
      some-digit = let some = decimal_nonempty count (omega (arith, few)) in omega (arith, some)

  done-leads : (entries : History) (count : ℕ) → count ≡ length entries → count ≤ 4096 → LeadsOn (Ok (item entries)) (done_text count) (Ok (nothing entries))
  done-leads entries count is few =
      leads-one schema world name user (item entries) (last_line count) (Ok (nothing entries)) (last-lacks count few) (last-says entries count is few)

  -- the last line alone shows the items
  last-shows : (entries : History) (count : ℕ) → count ≡ length entries → count ≤ 4096 → (n : ℕ)
      → shows schema world name user (Ok (item entries)) n (last_line count) ≡ Ok entries
  last-shows entries count is few n =
      ap (λ parts. checked_from schema world name user (Ok (item entries)) n (fields_from n parts))
      (last-part (λ b. b == 10) (last_line count) (place-none (λ b. b == 10) (last_line count) (last-lacks count few)) (omega arith))
      ∙ ap (λ awaited. checked_from schema world name user awaited (n + 1) []) (last-says entries count is few n)

  -- ---- the whole text

  module _ (all : History) (sizes : KeepsSizes schema user all) (valid : is_valid_schema schema ≡ true) (none : list_any (λ b. b == 10) name ≡ false)
      (admissible : IsAdmissible schema world user) (sound : IsSound schema world user all) (records : List Recorded)
      (kept : list_all (is_record 5) records ≡ true) (stands : map (entry_of schema) records ≡ map Some all) where
    counted : length records ≡ length all
    counted = sym (length-map (entry_of schema) records) ∙ ap length stands ∙ length-map Some all

    few : length records ≤ 4096
    few = omega (arith, counted, few-items schema user all sizes)

    -- all but its last line
    front-leads : (first items : Text) → IsRightAdmission schema user first → AreRightItems schema user [] records items
        → LeadsOn (Ok head) (head_text name user (codes "open") ++ first ++ items) (Ok (item all))
    front-leads first items is_first are_items =
        leads-both schema world name user (Ok head) (Ok (item [])) (Ok (item all)) (head_text name user (codes "open") ++ first) items
        (leads-both schema world name user (Ok head) (Ok admission) (Ok (item [])) (head_text name user (codes "open")) first (head-leads none)
        (admission-leads valid admissible first is_first))
        (items-lead schema world name user valid all sizes sound [] all refl records items kept stands are_items)

    pub right-accepted : (text : Text) → IsRightDossier schema name user records text → checked schema world name user text ≡ Ok all
    right-accepted text (first, items, is_first, are_items, is) =
        let leads : LeadsOn (Ok head) text (Ok (nothing all)) =
        subst (λ t. LeadsOn (Ok head) t (Ok (nothing all))) (sym is)
        (leads-both schema world name user (Ok head) (Ok (item all)) (Ok (nothing all)) (head_text name user (codes "open") ++ first ++ items)
        (done_text (length records)) (front-leads first items is_first are_items) (done-leads all (length records) counted few)) in
        ap (shows schema world name user (Ok head) 1) (sym (append-nil text)) ∙ (leads 1 []).1

    -- so is one without its last line feed
    pub right-accepted-unended : (text : Text) → IsRightDossier schema name user records (text ++ codes "\n")
        → checked schema world name user text ≡ Ok all
    right-accepted-unended text (first, items, is_first, are_items, is) =
        let front : Text = head_text name user (codes "open") ++ first ++ items in
        let same : text ≡ front ++ last_line (length records) =
        append_cancel_right text (front ++ last_line (length records)) (codes "\n")
        (is ∙ sym (append_assoc front (last_line (length records)) (codes "\n"))) in
        let leads = front-leads first items is_first are_items 1 (last_line (length records)) in
        ap (shows schema world name user (Ok head) 1) same ∙ leads.1 ∙ last-shows all (length records) counted few leads.0

pub dossiers_are_accepted : DossiersAreAccepted
dossiers_are_accepted schema world name user records entries text valid none limits is_admitted kept stands legal sizes is =
    right-accepted schema world name user entries sizes valid none
    (admitted_are_admissible schema world user valid limits.sentences is_admitted)
    (legal_histories_are_sound schema world user entries valid limits.sentences (sizes_are_of_schema schema user entries sizes) legal)
    records kept stands text (right-dossier schema name user records text is)

pub served_are_accepted : ServedAreAccepted
served_are_accepted schema world name user header bytes entries text valid none limits is_admitted opens is =
    dossiers_are_accepted schema world name user (walk.records bytes) entries text valid none limits is_admitted opens.stands.journal.each opens.stands.are
    opens.legal opens.sizes is
