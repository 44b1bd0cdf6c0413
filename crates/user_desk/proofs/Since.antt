-- What a disk has gone through since a desk was opened on it.
use Rattle.std.proofs.Common.{◌≡◌, ◌⊎◌, ℕ, ◌≤◌, Bool, true, false, List, [], ◌∷◌, ◌++◌, length, refl, sym, ap, ◌∙◌, subst, inl, inr, ⊎_elim, arith}
use Rattle.std.proofs.Common.{length-append}
use Rattle.std.specs.Prelude.{Option, Some, None, Result, Ok, Err, OnOk, OnErr, option_to_list}
use Rattle.std.proofs.lemmas.List.{append-nil}
use Rattle.outside.proofs.Rises.{rose_since}
use Rattle.outside.specs.Disk.{Elapses}
use Rattle.outside.specs.Faults.{Rose}
use Rattle.cqe_base.specs.Schema.{DatabaseSchema}
use Rattle.cqe_base.specs.Facts.{FactSet}
use Rattle.cqe_base.specs.History.{UserProfile, AnsweredQuery, History}
use Rattle.log_journal.specs.Records.{Recorded, KeepsOrAdds}
use Rattle.log_journal.specs.Walk.{AreThere}
use Rattle.user_desk.specs.Entries.{StandsWithin}
use Rattle.user_desk.specs.Standings.{is_sealed}
use Rattle.user_desk.specs.Kept.{IsConsistentDesk, StandsSince}
use Rattle.user_desk.specs.Stored.{Stored, GoesOn}
use Rattle.user_desk.specs.declared.standing.Standing.{Standing}
use Rattle.user_desk.proofs.Bytes.{stands_either, within_more, within_all, within_longer, within_least}
use Rattle.user_desk.proofs.Recording.{IsGrowing}

-- something isn't nothing
pub some_not_none : {X : Type 0} {x : X} → Some x ≡ None → ⊥
some_not_none e = cc

module _ {D : Type 0} (moment : D → ℕ) (since : D → ℕ → List ℕ → Type 0) where
  -- two stretches of time are one
  pub elapses_on : (a b c : D) → Elapses (moment a) (moment b) (since a) (since b) → Elapses (moment b) (moment c) (since b) (since c)
      → Elapses (moment a) (moment c) (since a) (since c)
  elapses_on a b c first second = record {
    later = omega (arith, first.later, second.later);
    nothing_else = λ t i le here. ⊎_elim
        (λ past. ⊎_elim (λ begun. inl begun) (λ mid. inr (second.keeps (moment a) i first.later mid)) (first.nothing_else t i le past))
        (λ now. inr (second.adds (moment a) i first.later now))
        (second.nothing_else t i (omega (arith, le, first.later)) here);
    keeps = λ t i le here. second.keeps t i (omega (arith, le, first.later)) (first.keeps t i le here);
    adds = λ t i le here. ⊎_elim
        (λ past. second.keeps t i (omega (arith, le, first.later)) (first.adds t i le past))
        (λ now. second.adds t i (omega (arith, le, first.later)) now)
        (second.nothing_else (moment a) i first.later here);
  }

  -- the images since the opening, after a call: those from before it, and those at its moments
  pub split_moments : (first first' old mid new : D) (P : List ℕ → Type 0) → mid ≡ old → first' ≡ first → moment first ≤ moment old
      → Elapses (moment mid) (moment new) (since mid) (since new)
      → ((c : List ℕ) → since new (moment mid) c → P c) → (c : List ℕ) → since new (moment first') c → since old (moment first) c ⊎ P c
  split_moments first first' old mid new P same begun le time all c here = ⊎_elim
      (λ past. inl (subst (λ d. since d (moment first) c) same past))
      (λ now. inr (all c now))
      (time.nothing_else (moment first) c (subst (λ d. moment first ≤ moment d) (sym same) le) (subst (λ d. since new (moment d) c) begun here))

  module _ (tells : Type 0) (reads : D → List ℕ) (faults : D → ℕ) (heard : D → ℕ → Recorded → Type 0) (origin : D → List (List ℕ)) where
    -- at the opening
    pub goes_first : (image : D → List ℕ → Type 0) → ((disk : D) (t : ℕ) (c : List ℕ) → t ≤ moment disk → image disk c → since disk t c)
        → ((disk : D) (c : List ℕ) → since disk (moment disk) c → image disk c)
        → (disk : D) (has_journal has_failed : Bool) (room : ℕ) → has_failed ≡ false
        → GoesOn tells reads moment since faults heard origin
        (record { disk = disk; opened = disk; has_journal = has_journal; has_failed = has_failed; room = room })
    goes_first image counts_now only_now disk has_journal has_failed room whole = record {
      time = record {
        later = omega arith;
        nothing_else = λ t c le here. inl here;
        keeps = λ t c le here. here;
        adds = λ t c le here. counts_now disk t c le (only_now disk c here);
      };
      count = omega arith;
      cause = λ broken. let e : false ≡ true = sym whole ∙ broken in absurd cc;
      idle = λ none. refl;
      comes = refl;
      there = λ told all. all;
    }

    -- where the disk stays
    pub goes_still : (store : Stored D) (disk : D) (has_journal has_failed : Bool) (room : ℕ) → GoesOn tells reads moment since faults heard origin store → disk
        ≡ store.disk
        → has_journal ≡ store.has_journal → has_failed ≡ store.has_failed
        → GoesOn tells reads moment since faults heard origin
        (record { disk = disk; opened = store.opened; has_journal = has_journal; has_failed = has_failed; room = room })
    goes_still store disk has_journal has_failed room goes same same_journal same_failed = record {
      time = subst (λ d. Elapses (moment store.opened) (moment d) (since store.opened) (since d)) (sym same) goes.time;
      count = subst (λ d. faults store.opened ≤ faults d) (sym same) goes.count;
      cause = λ broken. subst (λ d. Rose (faults store.opened) (faults d)) (sym same) (goes.cause (sym same_failed ∙ broken));
      idle = λ none. same ∙ goes.idle (sym same_journal ∙ none);
      comes = ap origin same ∙ goes.comes;
      there = λ told all. subst (λ d. AreThere (heard d) (reads d)) (sym same) (goes.there told all);
    }

    -- after an append
    pub goes_appended : {T E : Type 0} (result : Result T E) (store : Stored D) (disk : D) (has_journal has_failed : Bool) (room : ℕ)
        → GoesOn tells reads moment since faults heard origin store → has_journal ≡ true
        → Elapses (moment store.disk) (moment disk) (since store.disk) (since disk) → faults store.disk ≤ faults disk → OnOk result (has_failed ≡ false)
        → OnErr result (Rose (faults store.disk) (faults disk)) → origin disk ≡ origin store.disk
        → (tells → AreThere (heard store.disk) (reads store.disk) → AreThere (heard disk) (reads disk))
        → GoesOn tells reads moment since faults heard origin
        (record { disk = disk; opened = store.opened; has_journal = has_journal; has_failed = has_failed; room = room })
    goes_appended result store disk has_journal has_failed room goes journal time count whole cause comes there = record {
      time = elapses_on store.opened store.disk disk goes.time time;
      count = omega (arith, goes.count, count);
      cause = by_result result whole cause;
      idle = λ none. let e : true ≡ false = sym journal ∙ none in absurd cc;
      comes = comes ∙ goes.comes;
      there = λ told all. there told (goes.there told all);
    }
      where
        by_result : {T E : Type 0} (r : Result T E) → OnOk r (has_failed ≡ false) → OnErr r (Rose (faults store.disk) (faults disk)) → has_failed ≡ true
            → Rose (faults store.opened) (faults disk)
        by_result (Ok x) whole cause broken = let e : false ≡ true = sym whole ∙ broken in absurd cc
        by_result (Err x) whole cause broken = rose_since (faults store.opened) (faults store.disk) (faults disk) goes.count cause

-- ---- what the images stand for

-- at the opening
pub since_first : (told : Type 0) (image since : List ℕ → Type 0) (schema : DatabaseSchema) (world : FactSet) (user : UserProfile) (header : List ℕ)
    (standing : Standing) (opened : ℕ) (entries : History) (has_journal has_failed : Bool)
    → IsConsistentDesk told image schema world user header standing entries None has_journal has_failed → opened ≡ length entries
    → ((c : List ℕ) → since c → image c) → (is_sealed standing ≡ true → has_journal ≡ false)
    → StandsSince told since schema header standing opened entries None has_journal
since_first told image since schema world user header standing opened entries has_journal has_failed kept count only refused = record {
  begins = omega (arith, count);
  images = λ told_is served c here. subst (λ n. StandsWithin schema header n (entries ++ []) c) (sym count) (kept.images told_is served c (only c here));
  refused = refused;
}

module _ {told : Type 0} {image : List ℕ → Type 0} {schema : DatabaseSchema} {world : FactSet} {user : UserProfile} {header : List ℕ} {standing : Standing}
    {entries : History} {in_flight : Option AnsweredQuery} {entry : AnsweredQuery} {next : Recorded} {bytes : List ℕ}
    (grows : IsGrowing told image schema world user header standing entries in_flight entry next bytes)
    {since : List ℕ → Type 0} (since' : List ℕ → Type 0) {opened : ℕ} {has_journal : Bool}
    (stood : StandsSince told since schema header standing opened entries in_flight has_journal)
    (split : told → (c : List ℕ) → since' c → since c ⊎ KeepsOrAdds bytes next c) where
  -- with the entry each image stands for a beginning
  grown : told → (c : List ℕ) → since' c → StandsWithin schema header opened (entries ++ entry ∷ []) c
  grown told_is c here = ⊎_elim
      (λ past. within_longer schema header opened entries (entry ∷ []) c
      (subst (λ h. StandsWithin schema header opened h c) (ap (λ o. entries ++ option_to_list o) grows.idle
      ∙ append-nil entries) (stood.images told_is (ap is_sealed grows.opened) c past)))
      (λ now. ⊎_elim
      (λ stands. within_least schema header opened (length entries) (entries ++ entry ∷ []) c stood.begins
      (within_more schema header entries (entry ∷ []) c stands))
      (λ stands. within_all schema header (entries ++ entry ∷ []) opened c (omega (arith, stood.begins, length-append entries (entry ∷ []))) stands)
      (stands_either schema header entries next entry bytes c grows.is (grows.stands told_is) now))
      (split told_is c here)

  not_sealed : (has_journal' : Bool) → is_sealed standing ≡ true → has_journal' ≡ false
  not_sealed has_journal' sealed = let e : false ≡ true = sym (ap is_sealed grows.opened) ∙ sealed in absurd cc

  -- the entry is added
  pub since_added : (schema' : DatabaseSchema) (entries' : History) (has_journal' : Bool) → schema' ≡ schema → entries' ≡ entries ++ entry ∷ []
      → StandsSince told since' schema' header standing opened entries' in_flight has_journal'
  since_added schema' entries' has_journal' s h =
      subst (λ x. StandsSince told since' x header standing opened entries' in_flight has_journal') (sym s)
      (subst (λ x. StandsSince told since' schema header standing opened x in_flight has_journal') (sym h) record {
        begins = omega (arith, stood.begins, length-append entries (entry ∷ []));
        images = λ told_is served c here.
            subst (λ x. StandsWithin schema header opened x c)
            (sym (ap (λ o. (entries ++ entry ∷ []) ++ option_to_list o) grows.idle ∙ append-nil (entries ++ entry ∷ []))) (grown told_is c here);
        refused = not_sealed has_journal';
      })

  -- the entry is in flight
  pub since_flying : (schema' : DatabaseSchema) (entries' : History) (entry' : AnsweredQuery) (has_journal' : Bool) → schema' ≡ schema → entries' ≡ entries
      → entry' ≡ entry → StandsSince told since' schema' header standing opened entries' (Some entry') has_journal'
  since_flying schema' entries' entry' has_journal' s h e =
      subst (λ x. StandsSince told since' x header standing opened entries' (Some entry') has_journal') (sym s)
      (subst (λ x. StandsSince told since' schema header standing opened x (Some entry') has_journal') (sym h)
      (subst (λ x. StandsSince told since' schema header standing opened entries (Some x) has_journal') (sym e) record {
        begins = stood.begins;
        images = λ told_is served c here. grown told_is c here;
        refused = not_sealed has_journal';
      }))
