-- What lasts of a journal, where a record comes for it.
use Rattle.std.proofs.Common.{◌≡◌, ◌⊎◌, inl, inr, ⊎_elim, ℕ, ◌+◌, ◌≤◌, min, true, false, List, [], ◌∷◌, ◌++◌, length, take, sym, ap, subst, ◌∙◌, arith}
use Rattle.std.proofs.Common.{append_assoc, append-nil, length-append}
use Rattle.std.proofs.lemmas.List.{take_all, take_at, take_min, take-append-le}
use Rattle.outside.specs.Disk.{Elapses}
use Rattle.outside.specs.declared.disk.Disk.{Ghosts as DiskGhosts}
use Rattle.outside.proofs.Moments.{elapses_then}
use Rattle.log_journal.specs.Records.{Recorded, IsJournal, Adds, KeepsOrAdds, written}
use Rattle.log_journal.specs.Walk.{records}
use Rattle.log_journal.proofs.Walks.{journals_are_walked}
use Rattle.standby_core.specs.Copies.{Copy}
use Rattle.standby_core.specs.Lasting.{HasCopied, Lasts}

-- ---- as many records as a journal counts

-- they are all
pub taken_all : (count : ℕ) (rs : List Recorded) → count ≡ length rs → take count rs ≡ rs
taken_all count rs counted = take_all count rs (omega (arith, counted))

-- so that so many are taken
pub taken_count : (count : ℕ) (rs : List Recorded) → count ≡ length rs → count ≡ length (take count rs)
taken_count count rs counted = counted ∙ ap length (sym (taken_all count rs counted))

-- with one more
pub taken_grown : (count count' : ℕ) (rs rs' : List Recorded) (one : Recorded) → count ≡ length rs → count' ≡ count + 1 → rs' ≡ rs ++ one ∷ []
    → take count' rs' ≡ take count rs ++ one ∷ []
taken_grown count count' rs rs' one counted next grown =
    ap (take count') grown ∙ taken_all count' (rs ++ one ∷ []) (omega (arith, counted, next, length-append rs (one ∷ [])))
    ∙ ap (λ l. l ++ one ∷ []) (sym (taken_all count rs counted))

-- where an append failed, one more may stand behind them
pub taken_either : (header : List ℕ) (rs : List Recorded) (added : Recorded) (count : ℕ) (new : List ℕ) → count ≡ length rs
    → IsJournal header rs new ⊎ IsJournal header (rs ++ added ∷ []) new → take count (records new) ≡ rs
taken_either header rs added count new counted (inl same) =
    ap (take count) ((journals_are_walked header rs new).0 same).are ∙ take_all count rs (omega (arith, counted))
taken_either header rs added count new counted (inr more) =
    ap (take count) ((journals_are_walked header (rs ++ added ∷ []) new).0 more).are ∙ take_at rs (added ∷ []) count (sym counted)

-- ---- some first records of a copy

more_needed : (all : List Recorded) (one : Recorded) → length (written all) ≤ length (written (all ++ one ∷ []))
more_needed [] one = omega arith
more_needed (first ∷ all) one =
    omega (arith, more_needed all one, length-append first.1 (written all), length-append first.1 (written (all ++ one ∷ [])))

module _ (header : List ℕ) where
  pub copied_all : (copy : Copy) (least : ℕ) (c : List ℕ) → least ≤ length copy.records → IsJournal header copy.records c → HasCopied header least copy c
  copied_all copy least c few journal =
      inl (length copy.records, few, subst (λ rs. IsJournal header rs c) (sym (take_all (length copy.records) copy.records (omega arith))) journal)

  -- fewer are enough
  pub copied_fewer : (copy : Copy) (least fewer : ℕ) (c : List ℕ) → fewer ≤ least → HasCopied header least copy c → HasCopied header fewer copy c
  copied_fewer copy least fewer c few (inl is) = inl (is.0, omega (arith, few, is.1), is.2)
  copied_fewer copy least fewer c few (inr is) = inr is

  module _ (old new : Copy) (more : List Recorded) (whole : old.failed ≡ false) (grew : new.records ≡ old.records ++ more) where
    pub copied_further : (least : ℕ) (c : List ℕ) → least ≤ length old.records → HasCopied header least old c → HasCopied header least new c
    copied_further least c few (inl is) =
        let n = min is.0 (length old.records) in
        let same : take n new.records ≡ take is.0 old.records =
        ap (take n) grew ∙ take-append-le n old.records more (omega arith) ∙ take_min is.0 old.records in
        inl (n, omega (arith, few, is.1), subst (λ rs. IsJournal header rs c) (sym same) is.2)
    copied_further least c few (inr is) = let clash : true ≡ false = sym is.0 ∙ whole in absurd cc

    -- so do those that it had
    pub copied_before : (least : ℕ) (c : List ℕ) → least ≤ length old.records → IsJournal header old.records c → HasCopied header least new c
    copied_before least c few journal = copied_further least c few (copied_all old least c few journal)

-- ---- what lasts

module _ {D : Type 0} (Disk : DiskGhosts D) (header : List ℕ) (opened : D) where
  abbrev Last : D → Copy → Type 0
  Last disk copy = Lasts Disk header opened disk copy

  pub lasts_same : (old new : D) (copy copy' : Copy) → new ≡ old → copy' ≡ copy → Last old copy → Last new copy'
  lasts_same old new copy copy' disk_is copy_is lasts = subst (Last new) (sym copy_is) (subst (λ d. Last d copy) (sym disk_is) lasts)

  -- the copy has at least the records with which it began
  pub enough : (disk : D) (copy : Copy) → Last disk copy → length (records (Disk.reads opened)) ≤ length copy.records
  enough disk copy lasts = omega (arith, ap length lasts.grew, length-append (records (Disk.reads opened)) lasts.more)

  module _ (old new : D) (copy copy' : Copy) (added : Recorded) (whole : copy.failed ≡ false)
      (time : Elapses (Disk.moment old) (Disk.moment new) (Disk.image_since old) (Disk.image_since new))
      (moments : (c : List ℕ) → Disk.image_since new (Disk.moment old) c → KeepsOrAdds (Disk.reads old) added c) (lasts : Last old copy) where
    abbrev first : ℕ
    first = length (records (Disk.reads opened))

    -- one more record joined it
    pub lasts_grown : copy'.failed ≡ false → copy'.records ≡ copy.records ++ added ∷ [] → Adds (Disk.reads old) added (Disk.reads new)
        → ((c : List ℕ) → Disk.image new c → Adds (Disk.reads old) added c) → Last new copy'
    lasts_grown still grown adds kept = record {
      more = lasts.more ++ added ∷ [];
      grew = grown ∙ ap (λ rs. rs ++ added ∷ []) lasts.grew ∙ append_assoc (records (Disk.reads opened)) lasts.more (added ∷ []);
      reads_it = λ fine. as_new (Disk.reads new) (adds header copy.records before).0;
      size = λ fine.
          let now = (adds header copy.records before).1 in
          let was = lasts.size whole in
          let least = more_needed copy.records added in
          let needs = ap (λ rs. length (written rs)) grown in
          omega (arith, now, was, least, needs);
      leaves_it = λ c here. all_of (length copy'.records) c (omega arith) (as_new c (kept c here header copy.records before).0);
      time = elapses_then (Disk.moment opened) (Disk.moment old) (Disk.moment new) (Disk.image_since opened) (Disk.image_since old)
          (Disk.image_since new) lasts.time time;
      stood = λ c here.
          ⊎_elim (λ past. copied_further header copy copy' (added ∷ []) whole grown first c few (lasts.stood c past))
          (λ now. ⊎_elim (copied_before header copy copy' (added ∷ []) whole grown first c few)
          (λ more. all_of first c (omega (arith, few, longer)) (as_new c more)) (moments c now header copy.records before))
          (time.nothing_else (Disk.moment opened) c lasts.time.later here);
    }
      where
        before : IsJournal header copy.records (Disk.reads old)
        before = lasts.reads_it whole

        few : first ≤ length copy.records
        few = enough old copy lasts

        longer : length copy'.records ≡ length copy.records + 1
        longer = ap length grown ∙ length-append copy.records (added ∷ [])

        as_new : (c : List ℕ) → IsJournal header (copy.records ++ added ∷ []) c → IsJournal header copy'.records c
        as_new c journal = subst (λ rs. IsJournal header rs c) (sym grown) journal

        all_of : (least : ℕ) (c : List ℕ) → least ≤ length copy'.records → IsJournal header copy'.records c → HasCopied header least copy' c
        all_of least c le journal = copied_all header copy' least c le journal

    -- its append failed
    pub lasts_failed : copy'.failed ≡ true → copy'.records ≡ copy.records
        → ((c : List ℕ) → Disk.image new c → KeepsOrAdds (Disk.reads old) added c) → Last new copy'
    lasts_failed failed same either = record {
      more = lasts.more;
      grew = same ∙ lasts.grew;
      reads_it = λ still. let clash : true ≡ false = sym failed ∙ still in absurd cc;
      size = λ still. let clash : true ≡ false = sym failed ∙ still in absurd cc;
      leaves_it = λ c here. or_more (length copy'.records) c (omega (arith, ap length same)) (either c here header copy.records before);
      time = elapses_then (Disk.moment opened) (Disk.moment old) (Disk.moment new) (Disk.image_since opened) (Disk.image_since old)
          (Disk.image_since new) lasts.time time;
      stood = λ c here.
          ⊎_elim (λ past. copied_further header copy copy' [] whole still_all first c few (lasts.stood c past))
          (λ now. or_more first c few (moments c now header copy.records before))
          (time.nothing_else (Disk.moment opened) c lasts.time.later here);
    }
      where
        before : IsJournal header copy.records (Disk.reads old)
        before = lasts.reads_it whole

        few : first ≤ length copy.records
        few = enough old copy lasts

        still_all : copy'.records ≡ copy.records ++ []
        still_all = same ∙ sym (append-nil copy.records)

        or_more : (least : ℕ) (c : List ℕ) → least ≤ length copy.records
            → IsJournal header copy.records c ⊎ IsJournal header (copy.records ++ added ∷ []) c → HasCopied header least copy' c
        or_more least c le (inl all) = copied_before header copy copy' [] whole still_all least c le all
        or_more least c le (inr more) =
            inr (failed, (added, subst (λ rs. IsJournal header (rs ++ added ∷ []) c) (sym same) more))
