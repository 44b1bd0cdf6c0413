-- What is kept of a user, from the empty history and item by item.
use Rattle.std.proofs.Common.{◌≡◌, ◌≤◌, ℕ, ◌+◌, Bool, true, false, List, [], ◌∷◌, ◌++◌, length, refl, sym, ap, ◌∙◌, subst, append-nil, arith}
use Rattle.std.proofs.Common.{length-append}
use Rattle.std.specs.Prelude.{◌⊎◌, sum_by, Option, Some, None, Ok, if◌then◌else◌}
use Rattle.std.proofs.Common.{inl, inr}
use Rattle.std.proofs.lemmas.Bool.{both_ways, or_parts}
use Rattle.std.proofs.lemmas.Grind.{common_steps}
use Rattle.cqe_base.specs.declared.user.Mark.{Mark}
use Rattle.cqe_base.specs.declared.user.Mark.TheVariants.{Yes, No, Refused, Undecided, Protected}
use Rattle.cqe_base.specs.declared.user.Purpose.TheVariants.{Asking, Protecting}
use Rattle.cqe_base.specs.Schema.{DatabaseSchema, Text}
use Rattle.cqe_base.specs.Reading.{ReadingsAreSentences}
use Rattle.cqe_base.specs.Run.{marked, history_full, too_large, reply_by, protection_by, standing_open, is_full, is_too_large}
use Rattle.cqe_base.specs.Run.{is_too_large_secret, has_all_secrets}
use Rattle.user_log.specs.Asked.{IsAnswer, IsSomeAnswer}
use Rattle.cqe_base.specs.Facts.{FactSet}
use Rattle.cqe_base.specs.Formula.{Formula}
use Rattle.cqe_base.specs.Truth.{true_in}
use Rattle.cqe_base.specs.Entailment.{Signed}
use Rattle.cqe_base.specs.History.{UserProfile, AnsweredQuery, History, EmptyLogIsKnown, LogsGrow, SecretsGrow, told_by, is_added, user_at, log, view_size}
use Rattle.cqe_base.specs.History.{profile_of, known, with_secrets, secrets_by, added_secrets}
use Rattle.cqe_base.specs.Censor.{AreFindings, FindingsDecide, RulesAddNone, IsLegalItem, EmptyHistoryIsLegal, LegalHistoriesGrow, mark_by, rule}
use Rattle.cqe_base.specs.Censor.{mark_after, safe_after}
use Rattle.cqe_base.specs.Limits.{KeepsLimits, KeepsSizes, KeepsSizesAt}
use Rattle.censors.specs.Guards.{GuardedSentences}
use Rattle.user_log.specs.Kept.{IsConsistentLog, IsAmended}
use Rattle.user_log.specs.Amended.{IsBehind, IsAmendedTo}
use Rattle.user_log.specs.declared.prepared.Amended.{Amended}
use Rattle.user_log.specs.Nodes.{told_nodes}
use Rattle.user_log.proofs.Sizes.{view_size-push}

-- the table gives the rule's mark from findings of what is kept
pub decided : (schema view_schema : DatabaseSchema) (world : FactSet) (user view_user : UserProfile) (log_is view_log : List Signed) (query : Formula)
    (spent : Bool) (implied : Option Bool) (yes_harm no_harm : Bool) → view_schema ≡ schema → view_user ≡ user → view_log ≡ log_is → FindingsDecide
    → AreFindings view_schema view_user view_log query spent implied yes_harm no_harm
    → mark_by user.method spent implied yes_harm no_harm (true_in schema world query) ≡ rule schema world user log_is query
decided schema view_schema world user view_user log_is view_log query spent implied yes_harm no_harm same_schema same_user same_log decide found =
    let of_user = subst (λ u. AreFindings view_schema u view_log query spent implied yes_harm no_harm) same_user found in
    let at_schema = subst (λ s. AreFindings s user view_log query spent implied yes_harm no_harm) same_schema of_user in
    let at_log = subst (λ l. AreFindings schema user l query spent implied yes_harm no_harm) same_log at_schema in
    decide schema world user log_is query spent implied yes_harm no_harm at_log

-- what is kept, of a view with the same log and of the same entries
pub kept_same : (schema : DatabaseSchema) (world : FactSet) (user : UserProfile) (entries entries' : History)
    (view_schema view_schema' : DatabaseSchema) (view_log view_log' : List Signed) (text_bytes view_nodes : ℕ)
    → entries' ≡ entries → view_schema' ≡ view_schema → view_log' ≡ view_log
    → IsConsistentLog schema world user entries view_schema view_log text_bytes view_nodes
    → IsConsistentLog schema world user entries' view_schema' view_log' text_bytes view_nodes
kept_same schema world user entries entries' view_schema view_schema' view_log view_log' text_bytes view_nodes same_entries same_schema same_log kept =
    subst (λ h. IsConsistentLog schema world user h view_schema' view_log' text_bytes view_nodes) (sym same_entries) record {
      limits = kept.limits;
      schema_is = same_schema ∙ kept.schema_is;
      log_is = same_log ∙ kept.log_is;
      text_is = kept.text_is;
      nodes_are = kept.nodes_are;
      legal = kept.legal;
      sizes = kept.sizes;
    }

no_entry : (before : History) (entry : AnsweredQuery) (after : History) → [] ≡ before ++ entry ∷ after → ⊥
no_entry [] entry after e = cc
no_entry (x ∷ before) entry after e = cc

-- before the first ask
pub kept_empty : (schema : DatabaseSchema) (world : FactSet) (user : UserProfile) (entries : History) (view_schema : DatabaseSchema) (view_log : List Signed)
    (view_nodes : ℕ) → entries ≡ [] → KeepsLimits schema user → EmptyHistoryIsLegal → EmptyLogIsKnown → view_schema ≡ schema → view_log ≡ known user
    → view_nodes ≡ view_size schema user [] → IsConsistentLog schema world user entries view_schema view_log 0 view_nodes
kept_empty schema world user entries view_schema view_log view_nodes none limits legal logs same_schema same_log same_nodes =
    subst (λ h. IsConsistentLog schema world user h view_schema view_log 0 view_nodes) (sym none) record {
      limits = limits;
      schema_is = same_schema;
      log_is = same_log ∙ sym (logs user);
      text_is = refl;
      nodes_are = same_nodes;
      legal = legal schema world user;
      sizes = λ before entry after e. absurd (no_entry before entry after e);
    }

-- ---- one more item

module _ {X : Type 0} where
  none_behind : (before : List X) (y : X) (after : List X) → [] ≡ before ++ y ∷ after → ⊥
  none_behind [] y after e = cc
  none_behind (x ∷ before) y after e = cc

  -- the same with one more in front of both
  longer : (x b : X) → b ≡ x → (xs : List X) (last : X) (before : List X) (y : X) → ((before ≡ xs) × (y ≡ last)) ⊎ ((rest : List X) × (xs ≡ before ++ y ∷ rest))
      → ((b ∷ before ≡ x ∷ xs) × (y ≡ last)) ⊎ ((rest : List X) × (x ∷ xs ≡ b ∷ before ++ y ∷ rest))
  longer x b heads xs last before y (inl same) = let front : b ∷ before ≡ x ∷ xs = ap (λ h. h ∷ before) heads ∙ ap (λ t. x ∷ t) same.0 in inl (front, same.1)
  longer x b heads xs last before y (inr (rest, is)) = inr (rest, ap (λ t. x ∷ t) is ∙ ap (λ h. h ∷ (before ++ y ∷ rest)) (sym heads))

  -- in a list with one more at its end, an item is that one or stands before it
  split_last : (xs : List X) (last : X) (before : List X) (y : X) (after : List X) → xs ++ last ∷ [] ≡ before ++ y ∷ after → ((before ≡ xs) × (y ≡ last))
      ⊎ ((rest : List X) × (xs ≡ before ++ y ∷ rest))
  split_last [] last [] y after e = inl (refl, cc)
  split_last [] last (b ∷ before) y after e = let tails : [] ≡ before ++ y ∷ after = cc in absurd (none_behind before y after tails)
  split_last (x ∷ xs) last [] y after e = let heads : x ≡ y = cc in inr (xs, ap (λ h. h ∷ xs) heads)
  split_last (x ∷ xs) last (b ∷ before) y after e =
      let tails : xs ++ last ∷ [] ≡ before ++ y ∷ after = cc in
      let heads : b ≡ x = cc in
      longer x b heads xs last before y (split_last xs last before y after tails)

-- items within the limits and one more
pub sizes_push : (schema : DatabaseSchema) (user : UserProfile) (entries : History) (last : AnsweredQuery) → KeepsSizes schema user entries
    → KeepsSizesAt schema user entries last → KeepsSizes schema user (entries ++ last ∷ [])
sizes_push schema user entries last sizes here before entry after e = at (split_last entries last before entry after e)
  where
    at : ((before ≡ entries) × (entry ≡ last)) ⊎ ((rest : History) × (entries ≡ before ++ entry ∷ rest)) → KeepsSizesAt schema user before entry
    at (inl same) = subst (λ h. KeepsSizesAt schema user h entry) (sym same.0) (subst (λ q. KeepsSizesAt schema user entries q) (sym same.1) here)
    at (inr (rest, is)) = sizes before entry rest is

-- what is kept, with one more item
pub kept_push : (schema : DatabaseSchema) (world : FactSet) (user : UserProfile) (entries entries' : History) (last : AnsweredQuery)
    (view_schema view_schema' : DatabaseSchema) (view_log view_log' : List Signed) (text_bytes view_nodes more_text more_nodes : ℕ)
    → IsConsistentLog schema world user entries view_schema view_log text_bytes view_nodes → LegalHistoriesGrow → LogsGrow → SecretsGrow
    → KeepsSizesAt schema user entries last → IsLegalItem schema world user entries last
    → entries' ≡ entries ++ last ∷ [] → view_schema' ≡ view_schema
    → view_log' ≡ view_log ++ told_by last.mark last.query → more_text ≡ last.length → more_nodes ≡ told_nodes schema last.mark last.query
    → IsConsistentLog schema world user entries' view_schema' view_log' (text_bytes + more_text) (view_nodes + more_nodes)
kept_push schema world user entries entries' last view_schema view_schema' view_log view_log' text_bytes view_nodes more_text more_nodes kept grow logs
    secrets here next pushed same_schema told same_text same_nodes =
    subst (λ h. IsConsistentLog schema world user h view_schema' view_log' (text_bytes + more_text) (view_nodes + more_nodes)) (sym pushed) record {
      limits = kept.limits;
      schema_is = same_schema ∙ kept.schema_is;
      log_is = told ∙ ap (λ l. l ++ told_by last.mark last.query) kept.log_is ∙ sym (logs user entries last);
      text_is = text_of;
      nodes_are = nodes_of;
      legal = grow schema world user entries last kept.legal next;
      sizes = sizes_push schema user entries last kept.sizes here;
    }
  where
    text_of : text_bytes + more_text ≡ sum_by (λ entry. entry.length) (entries ++ last ∷ [])
    text_of = let was = kept.text_is in grind (arith, common_steps, was, same_text)

    nodes_of : view_nodes + more_nodes ≡ view_size schema user (entries ++ last ∷ [])
    nodes_of = let was = kept.nodes_are in let now = view_size-push schema user entries last logs secrets in omega (arith, was, now, same_nodes)

-- what a marked reply says of its query
pub answer_means : (full large : Bool) (told mark : Mark) → (if full then history_full else if large then too_large else marked told) ≡ marked mark
    → (full ≡ false) × (large ≡ false) × (mark ≡ told)
answer_means true large told mark e = absurd cc
answer_means false true told mark e = absurd cc
answer_means false false told mark e = (refl, refl, cc)

-- and what it says of a sentence that was to be added
pub protection_means : (full large most safe : Bool) (mark : Mark) → protection_by full large most safe ≡ marked mark
    → (full ≡ false) × (large ≡ false) × (most ≡ false) × (safe ≡ true) × (mark ≡ Protected)
protection_means true large most safe mark e = absurd cc
protection_means false true most safe mark e = absurd cc
protection_means false false true safe mark e = absurd cc
protection_means false false false false mark e = absurd cc
protection_means false false false true mark e = (refl, refl, refl, refl, cc)

pub secret_means : (schema : DatabaseSchema) (world : FactSet) (user : UserProfile) (entries : History) (text : Text) (secret : Formula) (mark : Mark)
    → IsAnswer schema world user entries Protecting text secret mark
    → (is_full entries (length text) ≡ false) × (is_too_large_secret schema user entries secret ≡ false) × (has_all_secrets user entries ≡ false)
    × (safe_after schema user entries secret ≡ true) × (mark ≡ Protected)
secret_means schema world user entries text secret mark is =
    protection_means (is_full entries (length text)) (is_too_large_secret schema user entries secret) (has_all_secrets user entries)
    (safe_after schema user entries secret) mark
    (ap (reply_by schema world user entries standing_open false Protecting text) (sym is.read) ∙ is.answer)

-- the item of an answer came within the limits, and is legal
pub answer_fits : (schema : DatabaseSchema) (world : FactSet) (user : UserProfile) (entries : History) (text : Text) (query : Formula) (mark : Mark)
    → ReadingsAreSentences → RulesAddNone → IsSomeAnswer schema world user entries text query mark
    → KeepsSizesAt schema user entries (record { query = query; mark = mark; length = length text })
    × IsLegalItem schema world user entries (record { query = query; mark = mark; length = length text })
answer_fits schema world user entries text query mark sentences none (Asking, is) =
    let told : reply_by schema world user entries standing_open false Asking text (Ok query) ≡ marked mark =
    ap (reply_by schema world user entries standing_open false Asking text) (sym is.read) ∙ is.answer in
    let means =
    answer_means (is_full entries (length text)) (is_too_large schema user entries query) (mark_after schema world user entries query) mark told in
    let asked : is_added mark ≡ false = ap is_added means.2 ∙ none schema world (user_at user entries) (log user entries) query in (
      record {
        sentence = sentences schema text query is.read;
        room = means.0;
        small = means.1;
        small_secret = λ added. absurd (both_ways (is_added mark) asked added);
        secret_room = λ added. absurd (both_ways (is_added mark) asked added);
      },
      record { has_mark = λ _. means.2; is_safe = λ added. absurd (both_ways (is_added mark) asked added) },
    )
answer_fits schema world user entries text query mark sentences none (Protecting, is) =
    let means = secret_means schema world user entries text query mark is in (
      record {
        sentence = sentences schema text query is.read;
        room = means.0;
        small = (or_parts (is_too_large schema user entries query) _ means.1).0;
        small_secret = λ _. means.1;
        secret_room = λ _. means.2;
      },
      record { has_mark = λ asked. absurd (both_ways (is_added mark) asked (ap is_added means.4)); is_safe = λ _. means.3 },
    )

-- ---- the user behind one more item

asked_adds : (mark : Mark) (sentence : Formula) → is_added mark ≡ false → secrets_by mark sentence ≡ []
asked_adds Yes sentence asked = refl
asked_adds No sentence asked = refl
asked_adds Refused sentence asked = refl
asked_adds Undecided sentence asked = refl
asked_adds Protected sentence asked = absurd cc

-- behind one that was asked he is as he was
amended_asked : (schema : DatabaseSchema) (user : UserProfile) (entries entries' : History) (item : AnsweredQuery) (current : UserProfile)
    (guards : GuardedSentences) → SecretsGrow → entries' ≡ entries ++ item ∷ [] → is_added item.mark ≡ false
    → IsAmended schema user entries current guards → IsAmended schema user entries' current guards
amended_asked schema user entries entries' item current guards secrets pushed asked was = record {
  current_is = was.current_is
      ∙ ap (with_secrets user) (sym (secrets user entries item ∙ ap (λ more. (user_at user entries).secrets ++ more) (asked_adds item.mark item.query asked)
      ∙ append-nil (user_at user entries).secrets))
      ∙ ap (user_at user) (sym pushed);
  guarding = was.guarding;
}

-- the user in place is the one behind the items that were pushed
pub amended_behind : (schema : DatabaseSchema) (user : UserProfile) (entries entries' : History) (item : AnsweredQuery) (amended : Option Amended)
    (current current' : UserProfile) (guards guards' : GuardedSentences) → SecretsGrow → entries' ≡ entries ++ item ∷ []
    → IsBehind schema user entries item amended → IsAmendedTo amended current guards current' guards' → IsAmended schema user entries current guards
    → IsAmended schema user entries' current' guards'
amended_behind schema user entries entries' item None current current' guards guards' secrets pushed asked to was =
    subst (λ u. IsAmended schema user entries' u guards') (sym to.0)
    (subst (λ g. IsAmended schema user entries' current g) (sym to.1)
    (amended_asked schema user entries entries' item current guards secrets pushed asked was))
amended_behind schema user entries entries' item (Some amended) current current' guards guards' secrets pushed behind to was =
    subst (λ h. IsAmended schema user h current' guards') (sym pushed)
    (subst (λ u. IsAmended schema user (entries ++ item ∷ []) u guards') (sym to.0)
    (subst (λ g. IsAmended schema user (entries ++ item ∷ []) (profile_of amended.user) g) (sym to.1) behind))

-- behind one that was added he has its sentence behind his secrets
pub amended_added : (user : UserProfile) (entries : History) (item : AnsweredQuery) (current made : UserProfile) → SecretsGrow → item.mark ≡ Protected
    → current ≡ user_at user entries → made ≡ with_secrets current (current.secrets ++ item.query ∷ []) → made ≡ user_at user (entries ++ item ∷ [])
amended_added user entries item current made secrets added current_is made_is =
    made_is
    ∙ (λ k. with_secrets (current_is k) ((current_is k).secrets ++ item.query ∷ []))
    ∙ ap (with_secrets user) (sym (secrets user entries item ∙ ap (λ m. (user_at user entries).secrets ++ secrets_by m item.query) added))

-- with no more secrets than before he is as he was
pub amended_none : (user : UserProfile) (entries : History) → length (user_at user entries).secrets ≤ length user.secrets → user_at user entries ≡ user
amended_none user entries few = by (added_secrets entries) refl
  where
    by : (more : List Formula) → added_secrets entries ≡ more → user_at user entries ≡ user
    by [] is = ap (λ more. with_secrets user (user.secrets ++ more)) is ∙ ap (with_secrets user) (append-nil user.secrets)
    by (s ∷ more) is =
        let longer = ap (λ added. length (user.secrets ++ added)) is ∙ length-append user.secrets (s ∷ more) in
        absurd (omega (arith, few, longer))
