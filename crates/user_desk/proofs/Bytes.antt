-- Which entries bytes stand for.
use Rattle.std.proofs.Common.{◌≡◌, ◌⊎◌, ℕ, ◌+◌, ◌≤◌, List, [], ◌∷◌, ◌++◌, length, map, take, refl, sym, ap, ◌∙◌, subst, inl, inr, ⊎_elim, arith, length-append}
use Rattle.std.specs.Prelude.{Some}
use Rattle.std.proofs.lemmas.List.{length-map, map-append, length-take, take_at, take_all, take-append-le}
use Rattle.cqe_base.specs.Schema.{DatabaseSchema}
use Rattle.cqe_base.specs.History.{AnsweredQuery, History}
use Rattle.log_journal.specs.Records.{Recorded, IsJournal, Adds, KeepsOrAdds}
use Rattle.log_journal.specs.Walk.{records}
use Rattle.log_journal.proofs.Walks.{journals_are_walked}
use Rattle.user_desk.specs.Entries.{entry_of, StandsFor, StandsWithin}

-- the walk through a journal finds its records
pub records_are : (header : List ℕ) (all : List Recorded) (bytes : List ℕ) → IsJournal header all bytes → records bytes ≡ all
records_are header all bytes journal = ((journals_are_walked header all bytes).0 journal).are

-- as many records as entries
pub as_many : (schema : DatabaseSchema) (all : List Recorded) (entries : History) → map (entry_of schema) all ≡ map Some entries → length all ≡ length entries
as_many schema all entries are = sym (length-map all (entry_of schema)) ∙ ap length are ∙ length-map entries Some

-- one record and one entry more
pub are_more : (schema : DatabaseSchema) (all : List Recorded) (entries : History) (next : Recorded) (entry : AnsweredQuery)
    → map (entry_of schema) all ≡ map Some entries → entry_of schema next ≡ Some entry
    → map (entry_of schema) (all ++ next ∷ []) ≡ map Some (entries ++ entry ∷ [])
are_more schema all entries next entry are is =
    map-append (entry_of schema) all (next ∷ []) ∙ ap (λ l. l ++ entry_of schema next ∷ []) are ∙ ap (λ o. map Some entries ++ o ∷ []) is
    ∙ sym (map-append Some entries (entry ∷ []))

-- records stand for one list of entries
pub same_entries : (first second : History) → map Some first ≡ map Some second → first ≡ second
same_entries [] [] e = refl
same_entries [] (y ∷ second) e = absurd cc
same_entries (x ∷ first) [] e = absurd cc
same_entries (x ∷ first) (y ∷ second) e =
    let heads : x ≡ y = cc in
    let tails : map Some first ≡ map Some second = cc in
    ap (λ h. h ∷ first) heads ∙ ap (λ t. y ∷ t) (same_entries first second tails)

module _ (schema : DatabaseSchema) (header : List ℕ) where
  -- bytes stand for one list of entries
  pub one_history : (first second : History) (bytes : List ℕ) → StandsFor schema header first bytes → StandsFor schema header second bytes → first ≡ second
  one_history first second bytes one other = same_entries first second (sym one.are ∙ other.are)

  -- a record more
  pub stands_more : (entries : History) (next : Recorded) (entry : AnsweredQuery) (old new : List ℕ) → entry_of schema next ≡ Some entry
      → StandsFor schema header entries old → Adds old next new → StandsFor schema header (entries ++ entry ∷ []) new
  stands_more entries next entry old new is stands adds =
      let journal = (adds header (records old) stands.journal).0 in
      let found = records_are header (records old ++ next ∷ []) new journal in
      record {
        journal = subst (λ l. IsJournal header l new) (sym found) journal;
        are = ap (λ l. map (entry_of schema) l) found ∙ are_more schema (records old) entries next entry stands.are is;
      }

  -- the same records
  pub stands_same : (entries : History) (old new : List ℕ) → StandsFor schema header entries old → IsJournal header (records old) new
      → StandsFor schema header entries new
  stands_same entries old new stands journal = record {
    journal = subst (λ l. IsJournal header l new) (sym (records_are header (records old) new journal)) journal;
    are = ap (λ l. map (entry_of schema) l) (records_are header (records old) new journal) ∙ stands.are;
  }

  -- as it was, or with a record more
  pub stands_either : (entries : History) (next : Recorded) (entry : AnsweredQuery) (old new : List ℕ) → entry_of schema next ≡ Some entry
      → StandsFor schema header entries old → KeepsOrAdds old next new
      → StandsFor schema header entries new ⊎ StandsFor schema header (entries ++ entry ∷ []) new
  stands_either entries next entry old new is stands either = ⊎_elim
      (λ journal. inl (stands_same entries old new stands journal))
      (λ journal. inr (record {
        journal = subst (λ l. IsJournal header l new) (sym (records_are header (records old ++ next ∷ []) new journal)) journal;
        are = ap (λ l. map (entry_of schema) l) (records_are header (records old ++ next ∷ []) new journal)
            ∙ are_more schema (records old) entries next entry stands.are is;
      }))
      (either header (records old) stands.journal)

  -- entries are a beginning of these and more
  pub within_more : (entries rest : History) (bytes : List ℕ) → StandsFor schema header entries bytes
      → StandsWithin schema header (length entries) (entries ++ rest) bytes
  within_more entries rest bytes stands =
      let count = as_many schema (records bytes) entries stands.are in
      record {
        journal = stands.journal;
        enough = omega arith;
        are = stands.are ∙ ap (λ l. map Some l) (sym (take_at entries rest (length (records bytes)) (sym count)));
      }

  -- all entries are a beginning of themselves
  pub within_all : (entries : History) (least : ℕ) (bytes : List ℕ) → least ≤ length entries → StandsFor schema header entries bytes
      → StandsWithin schema header least entries bytes
  within_all entries least bytes le stands =
      let count = as_many schema (records bytes) entries stands.are in
      record {
        journal = stands.journal;
        enough = omega arith;
        are = stands.are ∙ ap (λ l. map Some l) (sym (take_all (length (records bytes)) entries (omega arith)));
      }

  -- how many records there are at most
  count_within : (least : ℕ) (entries : History) (bytes : List ℕ) → StandsWithin schema header least entries bytes → length (records bytes) ≤ length entries
  count_within least entries bytes within =
      let count = as_many schema (records bytes) (take (length (records bytes)) entries) within.are in
      omega (arith, length-take (length (records bytes)) entries)

  -- a beginning of these entries is one of these and more
  pub within_longer : (least : ℕ) (entries rest : History) (bytes : List ℕ) → StandsWithin schema header least entries bytes
      → StandsWithin schema header least (entries ++ rest) bytes
  within_longer least entries rest bytes within = record {
    journal = within.journal;
    enough = within.enough;
    are = within.are ∙ ap (λ l. map Some l) (sym (take-append-le (length (records bytes)) entries rest (count_within least entries bytes within)));
  }

  -- it has at least so many, so also at least fewer
  pub within_least : (fewer least : ℕ) (entries : History) (bytes : List ℕ) → fewer ≤ least → StandsWithin schema header least entries bytes
      → StandsWithin schema header fewer entries bytes
  within_least fewer least entries bytes le within = record { journal = within.journal; enough = omega (arith, le, within.enough); are = within.are }

  -- a beginning that leaves nothing out
  pub within_exact : (entries : History) (bytes : List ℕ) → StandsWithin schema header (length entries) entries bytes → StandsFor schema header entries bytes
  within_exact entries bytes within = record {
    journal = within.journal;
    are = within.are ∙ ap (λ l. map Some l) (take_all (length (records bytes)) entries within.enough);
  }

  -- a beginning that leaves out at most the entry in flight
  pub within_either : (entries : History) (entry : AnsweredQuery) (bytes : List ℕ) → StandsWithin schema header (length entries) (entries ++ entry ∷ []) bytes
      → StandsFor schema header entries bytes ⊎ StandsFor schema header (entries ++ entry ∷ []) bytes
  within_either entries entry bytes within = by_count (cases (length entries) (length (records bytes)) within.enough)
    where
      cases : (few many : ℕ) → few ≤ many → (many ≡ few) ⊎ (few + 1 ≤ many)
      cases few many le = grind arith

      by_count : (length (records bytes) ≡ length entries) ⊎ (length entries + 1 ≤ length (records bytes)) → StandsFor schema header entries bytes
          ⊎ StandsFor schema header (entries ++ entry ∷ []) bytes
      by_count (inl same) = inl (record {
        journal = within.journal;
        are = within.are ∙ ap (λ l. map Some l) (take_at entries (entry ∷ []) (length (records bytes)) (sym same));
      })
      by_count (inr more) = inr (record {
        journal = within.journal;
        are = within.are
            ∙ ap (λ l. map Some l) (take_all (length (records bytes)) (entries ++ entry ∷ []) (omega (arith, length-append entries (entry ∷ []), more)));
      })
