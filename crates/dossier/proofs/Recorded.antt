-- Records that are written one after the other, as items of a legal history.
use Rattle.std.proofs.Common.{◌≡◌, ◌<◌, ◌≤◌, ◌+◌, ℕ, List, [], ◌∷◌, ◌++◌, length, map, take, drop, get_or, sym, ap, subst, ◌∙◌}
use Rattle.std.specs.Prelude.{Some}
use Rattle.std.proofs.lemmas.List.{take_more, take_all, drop_more, map-append, take-append-drop}
use Rattle.cqe_base.specs.Schema.{DatabaseSchema, Text}
use Rattle.cqe_base.specs.Facts.{FactSet}
use Rattle.cqe_base.specs.History.{UserProfile, History}
use Rattle.log_journal.specs.Opening.{recorded}
use Rattle.log_journal.specs.declared.header.Record.{Record}
use Rattle.user_desk.specs.Entries.{entry_of}
use Rattle.dossier.specs.Logs.{past_schema, past_user, past_history, IsPastOfSame}
use Rattle.dossier.specs.Written.{IsItem, AreItems, AreLegal}
use Rattle.dossier.specs.Adding.{IsNextLegal, Grows}
use Rattle.dossier.specs.Adding.{AddsItem}
use Rattle.dossier.specs.declared.past.Past.{Past}
use Rattle.dossier.proofs.Pushed.{grows-then}
use Rattle.dossier.proofs.Sayings.{part-at, items-more}

module _ (records : List Record) (i : ℕ) (next : Record) (is : next ≡ get_or records i next) (low : i < length records) where
  -- the records up to this one
  so-far : map recorded (take (i + 1) records) ≡ map recorded (take i records) ++ recorded next ∷ []
  so-far =
      ap (map recorded) (take_more records i next low ∙ ap (λ r. take i records ++ r ∷ []) (sym is)) ∙ map-append recorded (take i records) (next ∷ [])

  -- all of them, parted there
  parted : map recorded records ≡ map recorded (take i records) ++ recorded next ∷ map recorded (drop (i + 1) records)
  parted =
      ap (map recorded) (sym (take-append-drop i records)) ∙ map-append recorded (take i records) (drop i records)
      ∙ ap (λ rs. map recorded (take i records) ++ map recorded rs)
      (drop_more records i next low ∙ ap (λ r. r ∷ drop (i + 1) records) (sym is))

  -- the next record stands for an item that is legal behind those so far
  pub next-legal : (schema schema' : DatabaseSchema) (world : FactSet) (user user' : UserProfile) (before : History) → schema' ≡ schema → user' ≡ user
      → AreLegal schema world user (map recorded records) → map (entry_of schema) (map recorded (take i records)) ≡ map Some before
      → IsNextLegal schema' world user' before (recorded next)
  next-legal schema schema' world user user' before s u (entries, all, legal, sizes) stands =
      let (entry, after, parts, entry_is) =
      part-at (entry_of schema) (map recorded (take i records)) (recorded next) (map recorded (drop (i + 1) records)) before entries
      (ap (map (entry_of schema)) (sym parted) ∙ all) stands in
      subst (λ x. IsNextLegal x world user' before (recorded next)) (sym s)
      (subst (λ x. IsNextLegal schema world x before (recorded next)) (sym u)
      (entry, entry_is, legal before entry after parts, sizes before entry after parts))

  module _ (start between after : Past) (middle new : Text) (same : IsPastOfSame start between)
      (stands : map (entry_of (past_schema start)) (map recorded (take i records)) ≡ map Some (past_history between))
      (adds : AddsItem (recorded next) between after middle new) where
    pub records-same : IsPastOfSame start after
    records-same =
        let (entry, entry_is, (grown, (of, more))) = adds in
        record { schema = of.schema ∙ same.schema; user = of.user ∙ same.user }

    -- those up to this one stand for the items with one more
    pub records-stand : map (entry_of (past_schema start)) (map recorded (take (i + 1) records)) ≡ map Some (past_history after)
    records-stand =
        let (entry, entry_is, (grown, (of, more))) = adds in
        let here : entry_of (past_schema start) (recorded next) ≡ Some entry = ap (λ s. entry_of s (recorded next)) (sym same.schema) ∙ entry_is in
        ap (map (entry_of (past_schema start))) so-far
        ∙ map-append (entry_of (past_schema start)) (map recorded (take i records)) (recorded next ∷ [])
        ∙ (λ k. stands k ++ here k ∷ [])
        ∙ sym (map-append Some (past_history between) (entry ∷ [])) ∙ ap (map Some) (sym more)

    -- and their text is that of these items
    pub records-more : (old : Text) → Grows (AreItems (past_schema start) (past_user start) [] (map recorded (take i records))) old middle
        → Grows (AreItems (past_schema start) (past_user start) [] (map recorded (take (i + 1) records))) old new
    records-more old so_far =
        let (entry, entry_is, (grown, (of, more))) = adds in
        let here : entry_of (past_schema start) (recorded next) ≡ Some entry = ap (λ s. entry_of s (recorded next)) (sym same.schema) ∙ entry_is in
        let item : Grows (IsItem (past_schema start) (past_user start) (past_history between) entry (recorded next).1) middle new =
        subst (λ s. Grows (IsItem s (past_user start) (past_history between) entry (recorded next).1) middle new) same.schema
        (subst (λ u. Grows (IsItem (past_schema between) u (past_history between) entry (recorded next).1) middle new) same.user grown) in
        grows-then (AreItems (past_schema start) (past_user start) [] (map recorded (take i records)))
        (IsItem (past_schema start) (past_user start) (past_history between) entry (recorded next).1)
        (AreItems (past_schema start) (past_user start) [] (map recorded (take (i + 1) records))) old middle new so_far item
        (λ first second items one.
        subst (λ rs. AreItems (past_schema start) (past_user start) [] rs (first ++ second)) (sym so-far)
        (items-more (past_schema start) (past_user start) [] (map recorded (take i records)) (past_history between) (recorded next) entry first second
        stands here items one))

-- all records
pub records-all : (schema : DatabaseSchema) (user : UserProfile) (records : List Record) (i : ℕ) → length records ≤ i → (old new : Text)
    → Grows (AreItems schema user [] (map recorded (take i records))) old new → Grows (AreItems schema user [] (map recorded records)) old new
records-all schema user records i past old new = subst (λ rs. Grows (AreItems schema user [] (map recorded rs)) old new) (take_all i records past)
