-- What a standby leaves of the journals that it opened.
use Rattle.std.proofs.Common.{◌≡◌, inl, inr, ℕ, suc, ◌≤◌, Bool, true, false, ◌||◌, List, [], ◌∷◌, ◌++◌, length, map, take, drop, refl, sym, ap, subst, ◌∙◌}
use Rattle.std.proofs.Common.{arith}
use Rattle.std.specs.Prelude.{Option, Some, bytes_eq, string_bytes}
use Rattle.std.specs.List.{AllByRecursion, AllZip, list_any}
use Rattle.std.specs.Cmp.Lexicographic.{same_text}
use Rattle.std.proofs.lemmas.Bool.{or_from}
use Rattle.outside.specs.Disk.{Elapses}
use Rattle.outside.specs.Faults.{Rose}
use Rattle.outside.specs.Shelf.{SameNames, SameBeside, AllOut, AreOut, SomeRose, is_among, bytes_on, image_on, since_on}
use Rattle.outside.specs.declared.disk.Disk.{Ghosts as DiskGhosts}
use Rattle.outside.proofs.Moments.{elapses_none}
use Rattle.outside.proofs.Taken.{taken_reads, taken_images, began_rests}
use Rattle.cqe_base.specs.Schema.{Text, has_duplicate}
use Rattle.cqe_base.specs.declared.user.User.{User}
use Rattle.cqe_base.proofs.Lists.{text_is}
use Rattle.cqe_base.proofs.Truths.{or_first, or_second}
use Rattle.log_journal.specs.Journal.{disk_of, is_broken, count_of}
use Rattle.log_journal.specs.Names.{journal_name, JournalsDiffer}
use Rattle.log_journal.specs.Opening.{IsRefused}
use Rattle.log_journal.specs.Records.{Recorded, IsJournal}
use Rattle.log_journal.specs.Walk.{records}
use Rattle.log_journal.specs.declared.header.OpenError.{OpenError}
use Rattle.log_journal.specs.declared.header.OpenError.TheVariants.{NotAJournal, OtherPolicy, Damaged, DiskFault, Memory, OldVersion}
use Rattle.desk_crew.specs.Registered.{registered_journals}
use Rattle.desk_crew.specs.Shelved.{Journals, journals_by, StandsAllAlong}
use Rattle.desk_crew.proofs.Giving.{AreReturned, AllReturned}
use Rattle.desk_crew.proofs.Lasting.{taken_moment, stands_along}
use Rattle.desk_crew.proofs.Shelving.{among-append, among_none_first, among_none_second, by_among, none_out, at_names}
use Rattle.desk_crew.proofs.Taking.{names, journals_distinct}
use Rattle.standby_core.specs.Copies.{Copy, copy_in, held_name}
use Rattle.standby_core.specs.Lasting.{HasCopied, Lasts, AllLast, CountTheirRecords, has_broken}
use Rattle.standby_core.specs.declared.book.Held.{Held}
use Rattle.standby_core.proofs.Lasting.{taken_all, copied_fewer, enough}
use Rattle.standby_engine.specs.Opened.{place_journal, place_refusal, given_journal, opened_in, names_in, others_in, IsGiven, IsPlaceUnder, ArePlacesOf}
use Rattle.standby_engine.specs.Standing.{HasBeginning, GrowsJournal, AreCopied, IsCopyOf, AreCopiesOf, SomeFailed}
use Rattle.standby_engine.specs.declared.opening.Given.{Given as Back}
use Rattle.standby_engine.specs.declared.opening.Place.{Place}
use Rattle.standby_engine.specs.declared.opening.Place.TheVariants.{Opened, Refused}
use Rattle.standby_engine.proofs.Begun.{CountsNow, OnlyNow, walked_records, begins_with}
use Rattle.standby_engine.proofs.Places.{IsUnder, under_names, zip_parts, place_journals, same_under}

-- a refusal of bytes that are told
refused_told : {told : Type 0} → told → (header bytes : List ℕ) (before now : ℕ) (why : OpenError) → IsRefused told header bytes before now why
    → IsRefused (Unit {0}) header bytes before now why
refused_told t header bytes before now Memory is = is
refused_told t header bytes before now DiskFault is = is
refused_told t header bytes before now OldVersion is = (is.0, λ u. is.1 t)
refused_told t header bytes before now NotAJournal is = λ u. is t
refused_told t header bytes before now OtherPolicy is = λ u. is t
refused_told t header bytes before now (Damaged number) is = λ u. is t

-- two lists that are the same have the same first, and the same rest
same_first : (x y : Text) (xs ys : List Text) → x ∷ xs ≡ y ∷ ys → x ≡ y
same_first x y xs ys same = ap (λ l. first_of l) same
  where
    first_of : List Text → Text
    first_of [] = x
    first_of (z ∷ zs) = z

same_rest : (x y : Text) (xs ys : List Text) → x ∷ xs ≡ y ∷ ys → xs ≡ ys
same_rest x y xs ys same = ap (drop 1) same

-- whether an append failed stands in the copies
pub failed_same : {D : Type 0} {g : _} (reads : D → List ℕ) (all : List (Held D g))
    → has_broken all ≡ list_any (λ (copy : Copy). copy.failed) (map (copy_in reads) all)
failed_same reads [] = refl
failed_same reads (h ∷ all) = ap (λ b. is_broken h.journal || b) (failed_same reads all)

-- the journals of users by what stands under their names as a call began and as it ended
abbrev own_journals : {D : Type 0} → DiskGhosts D → Text → (Text → Option D) → (Text → Option D) → (Text → ℕ) → (Text → ℕ) → Journals
own_journals Disk directory disk0 disk1 count0 count1 =
    journals_by Disk.reads Disk.image Disk.moment Disk.image_since Disk.tellable directory disk0 disk1 count0 count1

-- where the count of a user's disk rose, some count did
rose_of : {D : Type 0} (Disk : DiskGhosts D) (directory : Text) (disk0 disk1 : Text → Option D) (count0 count1 : Text → ℕ) (users : List User)
    → SomeFailed (own_journals Disk directory disk0 disk1 count0 count1) users → SomeRose count0 count1
rose_of Disk directory disk0 disk1 count0 count1 [] failed = absurd failed
rose_of Disk directory disk0 disk1 count0 count1 (u ∷ users) (inl rose) = (journal_name directory (string_bytes u.name), rose)
rose_of Disk directory disk0 disk1 count0 count1 (u ∷ users) (inr later) = rose_of Disk directory disk0 disk1 count0 count1 users later

-- ---- names in another order

turned : (one two : Text) → bytes_eq one two ≡ false → bytes_eq two one ≡ false
turned one two differ = by (bytes_eq two one) refl
  where
    by : (b : Bool) → bytes_eq two one ≡ b → b ≡ false
    by false is = refl
    by true is =
        let same : two ≡ one = same_text two one (sym is) in
        let clash : true ≡ false = sym (text_is one) ∙ ap (bytes_eq one) (sym same) ∙ differ in
        absurd cc

swap : (a e n : Bool) → (a || (e || n)) ≡ (e || (a || n))
swap true true n = refl
swap true false n = refl
swap false e n = refl

-- a name that is put into a list that hasn't it
distinct_with : (os ns : List Text) (one : Text) → is_among (os ++ ns) one ≡ false → has_duplicate (os ++ ns) ≡ false → has_duplicate (os ++ one ∷ ns) ≡ false
distinct_with [] ns one none distinct = or_from _ _ none distinct
distinct_with (o ∷ os) ns one none distinct =
    let apart : is_among (os ++ ns) o ≡ false = or_first _ _ distinct in
    or_from _ _
    (among-append os (one ∷ ns) o
    ∙ or_from _ _ (among_none_first os ns o apart) (or_from _ _ (turned one o (or_first _ _ none)) (among_none_second os ns o apart)))
    (distinct_with os ns one (or_second _ _ none) (or_second _ _ distinct))

module _ {D : Type 0} {g : _} where
  -- the names of the disks of all places, those that weren't opened first
  abbrev pub parted : List (Place D g) → List Text
  parted places = map given_journal (others_in places) ++ names_in places

  among_parted : (places : List (Place D g)) (name : Text) → is_among (parted places) name ≡ is_among (map place_journal places) name
  among_parted [] name = refl
  among_parted (Opened journal held ∷ places) name =
      let os = map given_journal (others_in places) in
      let ns = names_in places in
      let here = bytes_eq name (string_bytes journal) in
      among-append os (string_bytes journal ∷ ns) name ∙ swap (is_among os name) here (is_among ns name)
      ∙ ap (λ b. here || b) (sym (among-append os ns name) ∙ among_parted places name)
  among_parted (Refused journal disk why ∷ places) name =
      ap (λ b. bytes_eq name (string_bytes journal) || b) (among_parted places name)

  distinct_parted : (places : List (Place D g)) → has_duplicate (map place_journal places) ≡ false → has_duplicate (parted places) ≡ false
  distinct_parted [] distinct = refl
  distinct_parted (Opened journal held ∷ places) distinct =
      distinct_with (map given_journal (others_in places)) (names_in places) (string_bytes journal)
      (among_parted places (string_bytes journal) ∙ or_first _ _ distinct) (distinct_parted places (or_second _ _ distinct))
  distinct_parted (Refused journal disk why ∷ places) distinct =
      or_from _ _ (among_parted places (string_bytes journal) ∙ or_first _ _ distinct) (distinct_parted places (or_second _ _ distinct))

  abbrev pub held_disk : Held D g → D
  held_disk held = disk_of held.journal

module _ (directory header : List ℕ) {D : Type 0} {g : _} (told : Type 0) (Disk : DiskGhosts D) (disk0 : Text → Option D) (count0 : Text → ℕ) where
  abbrev Placed : List User → List (Place D g) → Type 0
  Placed users places = ArePlacesOf told Disk header directory disk0 count0 users places

  -- the count of its disk's faults with which each opened journal began
  abbrev pub counts_of : (users : List User) (places : List (Place D g)) → Placed users places → List ℕ
  counts_of (u ∷ users) (Opened journal held ∷ places) are = Disk.faults are.0.taken ∷ counts_of users places are.1
  counts_of (u ∷ users) (Refused journal disk why ∷ places) are = counts_of users places are.1
  counts_of (u ∷ users) [] are = []
  counts_of [] places are = []

  places_many : (users : List User) (places : List (Place D g)) → Placed users places → length places ≡ length users
  places_many [] [] are = refl
  places_many [] (p ∷ places) are = absurd are
  places_many (u ∷ users) [] are = absurd are
  places_many (u ∷ users) (p ∷ places) are = ap (λ n. suc n) (places_many users places are.1)

  -- as it is opened each journal lasts, and is counted
  first_lasts : (t : Disk.tells) (users : List User) (places : List (Place D g)) (are : Placed users places)
      → AllLast Disk header (map held_disk (opened_in places)) (opened_in places)
  first_lasts t [] [] are = tt
  first_lasts t [] (p ∷ places) are = absurd are
  first_lasts t (u ∷ users) [] are = absurd are
  first_lasts t (u ∷ users) (Opened journal held ∷ places) are = ((are.0.opened t).1.1, first_lasts t users places are.1)
  first_lasts t (u ∷ users) (Refused journal disk why ∷ places) are = first_lasts t users places are.1

  first_counted : (users : List User) (places : List (Place D g)) (are : Placed users places)
      → CountTheirRecords Disk.faults (counts_of users places are) (opened_in places)
  first_counted [] [] are = tt
  first_counted [] (p ∷ places) are = absurd are
  first_counted (u ∷ users) [] are = absurd are
  first_counted (u ∷ users) (Opened journal held ∷ places) are = (
    record {
      later = are.0.only.count;
      rose = λ broken. let clash : true ≡ false = sym broken ∙ are.0.sound.0 in absurd cc;
    },
    first_counted users places are.1,
  )
  first_counted (u ∷ users) (Refused journal disk why ∷ places) are = first_counted users places are.1

  first_sound : (users : List User) (places : List (Place D g)) (are : Placed users places)
      → AllByRecursion (λ (held : Held D g). held.count ≡ count_of held.journal) (opened_in places)
  first_sound [] [] are = tt
  first_sound [] (p ∷ places) are = absurd are
  first_sound (u ∷ users) [] are = absurd are
  first_sound (u ∷ users) (Opened journal held ∷ places) are = (are.0.sound.1, first_sound users places are.1)
  first_sound (u ∷ users) (Refused journal disk why ∷ places) are = first_sound users places are.1

  -- ---- what is left of each

  module _ (disk1 : Text → Option D) (count1 : Text → ℕ) where
    -- the disks of those that weren't opened are back, and those of these journals, which were
    pub record AreBack (places : List (Place D g)) (after : List (Held D g)) : Type 0 where
      pub others : AllByRecursion (λ (b : Back D). IsUnder told Disk disk1 count1 (given_journal b) b.disk) (others_in places)
      pub opened : AllZip (IsUnder told Disk disk1 count1) (names_in places) (map held_disk after)

    are_back : (places : List (Place D g)) (after : List (Held D g)) (all : List (Back D)) → map given_journal all ≡ parted places
        → map (λ (b : Back D). b.disk) all ≡ map (λ (b : Back D). b.disk) (others_in places) ++ map held_disk after
        → AllByRecursion (IsGiven told Disk disk1 count1) all → AreBack places after
    are_back places after all named disks back =
        let both = zip_parts (IsUnder told Disk disk1 count1) given_journal (λ (b : Back D). b.disk) (others_in places) (names_in places) (map held_disk after)
        (under_names told Disk disk1 count1 all (parted places) (map (λ (b : Back D). b.disk) (others_in places) ++ map held_disk after) named disks back) in
        record { others = both.0; opened = both.1 }

    -- no count fell
    fell_all : (users : List User) (places : List (Place D g)) (are : Placed users places) (after : List (Held D g)) → AreBack places after
        → CountTheirRecords Disk.faults (counts_of users places are) after
        → AllByRecursion (λ (p : Place D g). count0 (place_journal p) ≤ count1 (place_journal p)) places
    fell_all [] [] are after back counted = tt
    fell_all [] (p ∷ places) are after back counted = absurd are
    fell_all (u ∷ users) [] are after back counted = absurd are
    fell_all (u ∷ users) (Opened journal held ∷ places) are [] back counted = absurd counted
    fell_all (u ∷ users) (Opened journal held ∷ places) are (h ∷ after) back counted =
        let named = ap count0 are.0.journal_is in
        let first = are.0.counted in
        let on = counted.0.later in
        let now = back.opened.0.counted in (
          omega (arith, named, first, on, now),
          fell_all users places are.1 after (record { others = back.others; opened = back.opened.1 }) counted.1,
        )
    fell_all (u ∷ users) (Refused journal disk why ∷ places) are after back counted =
        let named = ap count0 are.0.journal_is in
        let first = are.0.counted in
        let on = are.0.only.count in
        let now = back.others.0.counted in (
          omega (arith, named, first, on, now),
          fell_all users places are.1 after (record { others = back.others.1; opened = back.opened }) counted,
        )

    -- where an append failed, the count of that user's disk rose
    some_failed : (users : List User) (places : List (Place D g)) (are : Placed users places) (after : List (Held D g)) → AreBack places after
        → CountTheirRecords Disk.faults (counts_of users places are) after → has_broken after ≡ true
        → SomeFailed (own_journals Disk directory disk0 disk1 count0 count1) users
    some_failed [] [] are [] back counted broken = absurd cc
    some_failed [] [] are (h ∷ after) back counted broken = absurd counted
    some_failed [] (p ∷ places) are after back counted broken = absurd are
    some_failed (u ∷ users) [] are after back counted broken = absurd are
    some_failed (u ∷ users) (Opened journal held ∷ places) are [] back counted broken = absurd counted
    some_failed (u ∷ users) (Opened journal held ∷ places) are (h ∷ after) back counted broken =
        by (is_broken h.journal) refl
        (some_failed users places are.1 after (record { others = back.others; opened = back.opened.1 }) counted.1)
      where
        by : (b : Bool) → is_broken h.journal ≡ b
            → (has_broken after ≡ true
            → SomeFailed (own_journals Disk directory disk0 disk1 count0 count1) users)
            → SomeFailed (own_journals Disk directory disk0 disk1 count0 count1) (u ∷ users)
        by true is later =
            inl (subst (λ n. Rose n (count1 (journal_name directory (string_bytes u.name)))) are.0.counted
            (subst (λ n. Rose (Disk.faults are.0.taken) n) (sym back.opened.0.counted ∙ ap count1 are.0.journal_is) (counted.0.rose is)))
        by false is later = inr (later (ap (λ b. b || has_broken after) (sym is) ∙ broken))
    some_failed (u ∷ users) (Refused journal disk why ∷ places) are after back counted broken =
        inr (some_failed users places are.1 after (record { others = back.others.1; opened = back.opened }) counted broken)

    -- ---- the journal of a user, which was opened, and is back

    module _ (s : told) (t : Disk.tells) (counts_now : CountsNow Disk) (only_now : OnlyNow Disk) (u : User) (journal : _) (held h : Held D g)
        (is : IsPlaceUnder told Disk header disk0 count0 (journal_name directory (string_bytes u.name)) (string_bytes u.name) (Opened journal held))
        (under : IsUnder told Disk disk1 count1 (string_bytes journal) (held_disk h))
        (lasts : Lasts Disk header (held_disk held) (held_disk h) (copy_in Disk.reads h)) where
      abbrev own : Text
      own = journal_name directory (string_bytes u.name)

      abbrev began_with : List Recorded
      began_with = records (Disk.reads (held_disk held))

      is_now : disk1 own ≡ Some (held_disk h)
      is_now = ap disk1 (sym is.journal_is) ∙ under.held s

      same_bytes : Disk.reads (held_disk held) ≡ bytes_on Disk.reads (disk0 own)
      same_bytes = is.only.reads ∙ taken_reads Disk.reads Disk.image (disk0 own) is.taken (is.from s)

      -- it had these records as it was opened
      opened_with : IsJournal header began_with (bytes_on Disk.reads (disk0 own))
      opened_with =
          let has : began_with ≡ (is.opened t).0 = ap records is.only.reads ∙ walked_records header (is.opened t).0 (Disk.reads is.taken) (is.opened t).1.0 in
          subst (IsJournal header began_with) (taken_reads Disk.reads Disk.image (disk0 own) is.taken (is.from s))
          (subst (λ rs. IsJournal header rs (Disk.reads is.taken)) (sym has) (is.opened t).1.0)

      -- each crash leaves those of its copy
      leaves_copied : (c : List ℕ) → image_on Disk.image (disk1 own) c → HasCopied header (length (copy_in Disk.reads h).records) (copy_in Disk.reads h) c
      leaves_copied c here = lasts.leaves_it c (subst (λ o. image_on Disk.image o c) is_now here)

      as_begun : (c : List ℕ) → HasCopied header (length (copy_in Disk.reads h).records) (copy_in Disk.reads h) c
          → HasCopied header (length began_with) (copy_in Disk.reads h) c
      as_begun c left =
          copied_fewer header (copy_in Disk.reads h) (length (copy_in Disk.reads h).records) (length began_with) c
          (enough Disk header (held_disk held) (held_disk h) (copy_in Disk.reads h) lasts) left

      -- and each at the moments since then some first ones, and so what follows from them
      stood_along : (stands : List ℕ → Type 0) → ((c : List ℕ) → HasCopied header (length began_with) (copy_in Disk.reads h) c → stands c)
          → StandsAllAlong (own_journals Disk directory disk0 disk1 count0 count1) (string_bytes u.name) true
          stands
      stood_along stands weaker =
          let now = held_disk h in
          stands_along (own_journals Disk directory disk0 disk1 count0 count1) (string_bytes u.name) false stands
          (Disk.moment is.taken) (Disk.moment (held_disk held)) (Disk.moment now) (Disk.moment now) (Disk.image_since is.taken)
          (Disk.image_since (held_disk held)) (Disk.image_since now) (Disk.image is.taken) (Disk.image now)
          (taken_moment Disk.reads Disk.image Disk.moment (disk0 own) is.taken (is.from s))
          (λ c here. taken_images Disk.reads Disk.image (disk0 own) is.taken c (is.from s) here) is.only.time is.only.moments lasts.time
          (subst (λ o. Elapses (Disk.moment now) (Disk.moment now) (Disk.image_since now) (since_on Disk.image_since o)) (sym is_now)
          (elapses_none (Disk.moment now) (Disk.image_since now) (Disk.image now) (counts_now now) (only_now now)))
          (λ c here. only_now now c (subst (λ o. since_on Disk.image_since o (Disk.moment now) c) is_now here))
          (λ fine c here. weaker c (lasts.stood c here)) (λ fine c here. weaker c (as_begun c (lasts.leaves_it c here)))
          (λ refused. absurd cc) (λ refused. absurd cc)

      has_grown : GrowsJournal header (own_journals Disk directory disk0 disk1 count0 count1)
          (string_bytes u.name)
      has_grown = record {
        first = began_with;
        opened = opened_with;
        leaves = λ c here. begins_with header began_with lasts.more (copy_in Disk.reads h) c lasts.grew (as_begun c (leaves_copied c here));
        moments = stood_along (HasBeginning header began_with)
            (λ c some. begins_with header began_with lasts.more (copy_in Disk.reads h) c lasts.grew some);
      }

      has_copied : count_of held.journal ≡ length began_with → held_name h ≡ held_name held
          → IsCopyOf header (own_journals Disk directory disk0 disk1 count0 count1) (string_bytes u.name)
          (copy_in Disk.reads held) (copy_in Disk.reads h)
      has_copied counts names_are =
          let counted : held.count ≡ length began_with = is.sound.1 ∙ counts in
          let all : take held.count began_with ≡ began_with = taken_all held.count began_with counted in
          record {
            named = is.named;
            opened = subst (λ rs. IsJournal header rs (bytes_on Disk.reads (disk0 own))) (sym all) opened_with;
            counted = counted ∙ ap length (sym all);
            whole = is.sound.0;
            still_named = names_are ∙ is.named;
            leaves = leaves_copied;
            moments = stood_along (HasCopied header (length (take held.count began_with)) (copy_in Disk.reads h))
                (λ c some. subst (λ n. HasCopied header n (copy_in Disk.reads h) c) (sym (ap length all)) some);
            size = λ whole.
                let now = ap (λ o. length (bytes_on Disk.reads o)) is_now in
                let was = ap length same_bytes in
                omega (arith, now, was, lasts.size whole);
          }

    -- each journal that was opened grew, and each other is as it was
    all_copied : told → Disk.tells → CountsNow Disk → OnlyNow Disk
        → (users : List User) (places : List (Place D g)) (are : Placed users places) (after : List (Held D g))
        → AreBack places after → AllLast Disk header (map held_disk (opened_in places)) after
        → AreCopied header (own_journals Disk directory disk0 disk1 count0 count1) users
        (map place_refusal places)
    all_copied s t counts_now only_now [] [] are after back lasts = tt
    all_copied s t counts_now only_now [] (p ∷ places) are after back lasts = absurd are
    all_copied s t counts_now only_now (u ∷ users) [] are after back lasts = absurd are
    all_copied s t counts_now only_now (u ∷ users) (Opened journal held ∷ places) are [] back lasts = absurd lasts
    all_copied s t counts_now only_now (u ∷ users) (Opened journal held ∷ places) are (h ∷ after) back lasts = (
      has_grown s t counts_now only_now u journal held h are.0 back.opened.0 lasts.0,
      all_copied s t counts_now only_now users places are.1 after (record { others = back.others; opened = back.opened.1 }) lasts.1,
    )
    all_copied s t counts_now only_now (u ∷ users) (Refused journal disk why ∷ places) are after back lasts =
        let own = journal_name directory (string_bytes u.name) in
        let same = same_under directory header told Disk disk0 count0 s disk1 count1 own (string_bytes u.name) (Refused journal disk why) are.0 back.others.0 in
        let read = taken_reads Disk.reads Disk.image (disk0 own) are.0.taken (are.0.from s) in
        let now : Disk.faults disk ≡ count1 own = sym back.others.0.counted ∙ ap count1 are.0.journal_is in
        let refused = refused_told t header (Disk.reads are.0.taken) (Disk.faults are.0.taken) (Disk.faults disk) why are.0.sound in (
          (
            are.0.memory,
            subst (λ b. IsRefused (Unit {0}) header b (count0 own) (count1 own) why) read
                (subst (λ n. IsRefused (Unit {0}) header (Disk.reads are.0.taken) n (count1 own) why) are.0.counted
                (subst (λ n. IsRefused (Unit {0}) header (Disk.reads are.0.taken) (Disk.faults are.0.taken) n why) now refused)),
            (same.0, same.1, began_rests Disk (disk0 own) (disk1 own) same.2),
          ),
          all_copied s t counts_now only_now users places are.1 after (record { others = back.others.1; opened = back.opened }) lasts,
        )

    -- the copies of those that were opened, as the serving began and as it was left, are those of these users' journals
    all_served : told → Disk.tells → CountsNow Disk → OnlyNow Disk
        → ((held : Held D g) → is_broken held.journal ≡ false → count_of held.journal ≡ length (records (Disk.reads (disk_of held.journal))))
        → (users : List User) (places : List (Place D g)) (are : Placed users places) (after : List (Held D g))
        → AreBack places after → AllLast Disk header (map held_disk (opened_in places)) after
        → map held_name after ≡ map held_name (opened_in places)
        → AreCopiesOf header (own_journals Disk directory disk0 disk1 count0 count1) users
        (map place_refusal places) (map (copy_in Disk.reads) (opened_in places)) (map (copy_in Disk.reads) after)
    all_served s t counts_now only_now counts [] [] are [] back lasts named = tt
    all_served s t counts_now only_now counts [] [] are (h ∷ after) back lasts named = absurd lasts
    all_served s t counts_now only_now counts [] (p ∷ places) are after back lasts named = absurd are
    all_served s t counts_now only_now counts (u ∷ users) [] are after back lasts named = absurd are
    all_served s t counts_now only_now counts (u ∷ users) (Opened journal held ∷ places) are [] back lasts named = absurd lasts
    all_served s t counts_now only_now counts (u ∷ users) (Opened journal held ∷ places) are (h ∷ after) back lasts named = (
      has_copied s t counts_now only_now u journal held h are.0 back.opened.0 lasts.0 (counts held are.0.sound.0)
          (same_first (held_name h) (held_name held) _ _ named),
      all_served s t counts_now only_now counts users places are.1 after (record { others = back.others; opened = back.opened.1 }) lasts.1
          (same_rest _ _ _ _ named),
    )
    all_served s t counts_now only_now counts (u ∷ users) (Refused journal disk why ∷ places) are after back lasts named =
        all_served s t counts_now only_now counts users places are.1 after (record { others = back.others.1; opened = back.opened }) lasts named

-- the journals of all users are opened, in order, and their names differ
pub record ArePlaced (directory header : List ℕ) {D : Type 0} {g : _} (told : Type 0) (Disk : DiskGhosts D) (disk0 : Text → Option D) (count0 : Text → ℕ)
    (users : List User) (places : List (Place D g)) : Type 0 where
  pub are : ArePlacesOf told Disk header directory disk0 count0 users places
  pub differ : JournalsDiffer
  pub distinct : has_duplicate (names users) ≡ false

module _ {directory header : List ℕ} {D : Type 0} {g : _} {told : Type 0} {Disk : DiskGhosts D} {disk0 : Text → Option D} {count0 : Text → ℕ}
    {users : List User} {places : List (Place D g)} (placed : ArePlaced directory header told Disk disk0 count0 users places) where
  pub placed_many : length places ≡ length users
  placed_many = places_many directory header told Disk disk0 count0 users places placed.are

  pub placed_sound : AllByRecursion (λ (held : Held D g). held.count ≡ count_of held.journal) (opened_in places)
  placed_sound = first_sound directory header told Disk disk0 count0 users places placed.are

  -- ---- all can be given back

  module _ (all : List (Back D)) (named : map given_journal all ≡ parted places) where
    pub can_distinct : has_duplicate (map given_journal all) ≡ false
    can_distinct = ap has_duplicate named
        ∙ distinct_parted places (ap has_duplicate (place_journals directory header told Disk disk0 count0 users places placed.are)
        ∙ journals_distinct directory placed.differ (names users) ∙ placed.distinct)

    among_all : (name : Text) → is_among (map given_journal all) name ≡ is_among (map place_journal places) name
    among_all name = ap (λ ns. is_among ns name) named ∙ among_parted places name

    pub can_out : {is_out : Text → Bool} → AreOut (map place_journal places) is_out → AllOut (map given_journal all) is_out
    can_out out name among = out name ∙ sym (among_all name) ∙ among

-- what was opened is back: the journals, with the counts of their disks and the records that they began with, and the disks of the others
pub record AreLeft (directory header : List ℕ) {D : Type 0} {g : _} (told : Type 0) (Disk : DiskGhosts D) (disk0 : Text → Option D) (count0 : Text → ℕ)
    (users : List User) (places : List (Place D g)) (disk1 : Text → Option D) (count1 : Text → ℕ) (after : List (Held D g)) : Type 0 where
  pub placed : ArePlaced directory header told Disk disk0 count0 users places
  pub back : AreBack directory header told Disk disk0 count0 disk1 count1 places after
  pub counted : CountTheirRecords Disk.faults (counts_of directory header told Disk disk0 count0 users places placed.are) after
  pub lasts : Disk.tells → AllLast Disk header (map held_disk (opened_in places)) after

pub are_left : {directory header : List ℕ} {D : Type 0} {g : _} {told : Type 0} {Disk : DiskGhosts D} {disk0 : Text → Option D} {count0 : Text → ℕ}
    {users : List User} {places : List (Place D g)} {disk1 : Text → Option D} {count1 : Text → ℕ} {after : List (Held D g)}
    → ArePlaced directory header told Disk disk0 count0 users places → (all : List (Back D)) → map given_journal all ≡ parted places
    → map (λ (b : Back D). b.disk) all ≡ map (λ (b : Back D). b.disk) (others_in places) ++ map held_disk after
    → AllByRecursion (IsGiven told Disk disk1 count1) all
    → ((counts : List ℕ) → CountTheirRecords Disk.faults counts (opened_in places) → CountTheirRecords Disk.faults counts after)
    → (Disk.tells → (disks : List D) → AllLast Disk header disks (opened_in places) → AllLast Disk header disks after)
    → AreLeft directory header told Disk disk0 count0 users places disk1 count1 after
are_left {directory} {header} {told} {Disk} {disk0} {count0} {users} {places} {disk1} {count1} {after} placed all named disks back counted lasts =
    record {
      placed = placed;
      back = are_back directory header told Disk disk0 count0 disk1 count1 places after all named disks back;
      counted = counted (counts_of directory header told Disk disk0 count0 users places placed.are)
          (first_counted directory header told Disk disk0 count0 users places placed.are);
      lasts = λ t. lasts t (map held_disk (opened_in places)) (first_lasts directory header told Disk disk0 count0 t users places placed.are);
    }

module _ {directory header : List ℕ} {D : Type 0} {g : _} {told : Type 0} {Disk : DiskGhosts D} {disk0 : Text → Option D} {count0 : Text → ℕ}
    {users : List User} {places : List (Place D g)} {disk1 : Text → Option D} {count1 : Text → ℕ} {after : List (Held D g)}
    (left : AreLeft directory header told Disk disk0 count0 users places disk1 count1 after) where
  pub left_failed : has_broken after ≡ true → SomeFailed (own_journals Disk directory disk0 disk1 count0 count1) users
  left_failed = some_failed directory header told Disk disk0 count0 disk1 count1 users places left.placed.are after left.back left.counted

  pub left_rose : has_broken after ≡ true → SomeRose count0 count1
  left_rose broken = rose_of Disk directory disk0 disk1 count0 count1 users (left_failed broken)

  pub left_copied : told → Disk.tells → CountsNow Disk → OnlyNow Disk
      → AreCopied header (own_journals Disk directory disk0 disk1 count0 count1) users (map place_refusal places)
  left_copied s t counts_now only_now =
      all_copied directory header told Disk disk0 count0 disk1 count1 s t counts_now only_now users places left.placed.are after left.back (left.lasts t)

  pub left_served : told → Disk.tells → CountsNow Disk → OnlyNow Disk
      → ((held : Held D g) → is_broken held.journal ≡ false → count_of held.journal ≡ length (records (Disk.reads (disk_of held.journal))))
      → map held_name after ≡ map held_name (opened_in places)
      → AreCopiesOf header (own_journals Disk directory disk0 disk1 count0 count1) users (map place_refusal places)
      (map (copy_in Disk.reads) (opened_in places)) (map (copy_in Disk.reads) after)
  left_served s t counts_now only_now counts =
      all_served directory header told Disk disk0 count0 disk1 count1 s t counts_now only_now counts users places left.placed.are after left.back (left.lasts t)

  -- no other disk was touched
  pub left_returned : {all : List (Back D)} → map given_journal all ≡ parted places
      → {disk : Text → Option D} {is_out is_out1 : Text → Bool} {count : Text → ℕ} → AreOut (map place_journal places) is_out
      → SameBeside (registered_journals directory users) disk0 disk → SameNames count0 count
      → AreReturned given_journal (IsGiven told Disk) all disk disk1 is_out is_out1 count count1
      → AllReturned (registered_journals directory users) disk0 disk1 is_out1 count0 count1
  left_returned {all} named {disk} {is_out} {is_out1} {count} out disks counts given = record {
    disks = λ name none. given.disks name (among name ∙ none) ∙ disks name none;
    inside = none_out (map given_journal all) is_out is_out1 (λ name. out name ∙ sym (among_all left.placed all named name)) given.inside given.others_out;
    counts = by_among (λ name. count0 name ≤ count1 name) (map place_journal places)
        (at_names place_journal (λ name. count0 name ≤ count1 name) places
        (fell_all directory header told Disk disk0 count0 disk1 count1 users places left.placed.are after left.back left.counted))
        (λ name none.
        let now = given.counts name (among_all left.placed all named name ∙ none) in
        let was = counts name in
        omega (arith, now, was));
    other_counts = λ name none. given.counts name (among name ∙ none) ∙ counts name;
  }
    where
      among : (name : Text) → is_among (map given_journal all) name ≡ is_among (registered_journals directory users) name
      among name = among_all left.placed all named name
          ∙ ap (λ ns. is_among ns name) (place_journals directory header told Disk disk0 count0 users places left.placed.are)
