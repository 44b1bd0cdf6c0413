-- Entries in memory as a history, cut at a place.
use Rattle.std.proofs.Common.{◌≡◌, ℕ, ◌+◌, ◌<◌, ◌≤◌, arith, List, [], ◌∷◌, ◌++◌, length, get_or, map, take, drop, sym, ap, ◌∙◌, subst, add-one}
use Rattle.std.proofs.lemmas.List.{get_or-map, length-map, take_more, take-append-drop}
use Rattle.std.proofs.lemmas.List.Sums.{sum_by-append}
use Rattle.std.proofs.Math.Seq.{drop-cons}
use Rattle.cqe_base.specs.declared.user.Entry.{Entry}
use Rattle.cqe_base.specs.Schema.{DatabaseSchema}
use Rattle.cqe_base.specs.Entailment.{Signed}
use Rattle.cqe_base.specs.History.{UserProfile, History, answered_query_of, signed_nodes}
use Rattle.entailment.specs.Logs.{log_nodes}
use Rattle.cqe_base.specs.Limits.{KeepsSizesAt, KeepsSizes}

-- the history of entries in memory
abbrev pub history_of : List Entry → History
history_of entries = map answered_query_of entries

module _ (entries : List Entry) (i : ℕ) (entry : Entry) (is : entry ≡ get_or entries i entry) (low : i < length entries) where
  within : i < length (history_of entries)
  within = subst (λ n. i < n) (sym (length-map entries answered_query_of)) low

  at : get_or (history_of entries) i (answered_query_of entry) ≡ answered_query_of entry
  at = get_or-map answered_query_of entries i entry (answered_query_of entry) low ∙ ap answered_query_of (sym is)

  -- the entries before this one, and it
  pub before_and : take (i + 1) (history_of entries) ≡ take i (history_of entries) ++ answered_query_of entry ∷ []
  before_and = take_more (history_of entries) i (answered_query_of entry) within ∙ ap (λ e. take i (history_of entries) ++ e ∷ []) at

  -- the entries before this one, it, and those after it
  around : history_of entries ≡ take i (history_of entries) ++ answered_query_of entry ∷ drop (i + 1) (history_of entries)
  around =
      sym (take-append-drop i (history_of entries))
      ∙ ap (λ rest. take i (history_of entries) ++ rest)
      (drop-cons (history_of entries) i (answered_query_of entry) within ∙ (λ k. at k ∷ drop (sym (add-one i) k) (history_of entries)))

  -- the sizes that this entry keeps
  pub sizes_at : (schema : DatabaseSchema) (user : UserProfile) → KeepsSizes schema user (history_of entries)
      → KeepsSizesAt schema user (take i (history_of entries)) (answered_query_of entry)
  sizes_at schema user sizes = sizes (take i (history_of entries)) (answered_query_of entry) (drop (i + 1) (history_of entries)) around

-- a log with one more sentence that has room
pub nodes_added : (schema schema' : DatabaseSchema) (log log' : List Signed) (s : Signed) → schema' ≡ schema → log' ≡ log ++ s ∷ []
    → log_nodes schema log + signed_nodes schema s.0 s.1 ≤ 60000 → log_nodes schema' log' ≤ 60000
nodes_added schema schema' log log' s same grown room =
    let sum : log_nodes schema (log ++ s ∷ []) ≡ log_nodes schema log + log_nodes schema (s ∷ []) =
    sum_by-append (λ signed. signed_nodes schema signed.0 signed.1) log (s ∷ []) in
    let one : log_nodes schema (s ∷ []) ≡ signed_nodes schema s.0 s.1 = omega arith in
    let whole : log_nodes schema (log ++ s ∷ []) ≤ 60000 = omega arith in
    let path : log_nodes schema' log' ≡ log_nodes schema (log ++ s ∷ []) = λ k. log_nodes (same k) (grown k) in
    subst (λ n. n ≤ 60000) (sym path) whole
