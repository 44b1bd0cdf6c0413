-- The journals of all users: taken one after the other, and opened.
use Rattle.std.proofs.Common.{◌≡◌, ℕ, suc, ◌≤◌, ◌<◌, ◌+◌, Bool, true, false, List, [], ◌∷◌, ◌++◌, length, take, drop, get_or, map, refl, sym, ap, subst, ◌∙◌}
use Rattle.std.proofs.Common.{arith}
use Rattle.std.specs.Prelude.{Option, Some, None, Ok, Err, ◌||◌, IfSome, bytes_eq, string_bytes}
use Rattle.std.specs.List.{AllByRecursion, AllZip}
use Rattle.std.specs.Cmp.Lexicographic.{same_text}
use Rattle.std.proofs.lemmas.List.{take_more, take-append-drop, map-append}
use Rattle.std.proofs.lemmas.List.Elements.{All-from_recursion, recursion_from_All}
use Rattle.outside.proofs.Taken.{taken_reads, taken_images, taken_rests, same_rests}
use Rattle.outside.specs.Shelf.{IsTaken, SameNames, SameOthers, bytes_on, image_on, is_among, SameBeside, NoneOut, AreOut}
use Rattle.outside.specs.declared.disk.Disk.{Ghosts as DiskGhosts}
use Rattle.cqe_base.specs.Schema.{Text, DatabaseSchema, has_duplicate}
use Rattle.cqe_base.specs.Facts.{FactSet}
use Rattle.cqe_base.specs.History.{profile_of}
use Rattle.cqe_base.specs.Limits.{KeepsLimits}
use Rattle.cqe_base.specs.declared.user.User.{User}
use Rattle.cqe_base.proofs.Truths.{or_first, or_second}
use Rattle.cqe_base.proofs.Lists.{text_is}
use Rattle.censors.specs.Admitting.{admission_of}
use Rattle.log_journal.specs.Names.{journal_name, JournalsDiffer}
use Rattle.desk_crew.specs.Crew.{named_user, seat_user, seat_journal, seat_disk, IsSeatServed, IsOpenedFrom}
use Rattle.desk_crew.specs.Shelved.{journals, AreBack, AreLater, IsSeatOf, AreSeatsOf, ThereOn}
use Rattle.desk_crew.specs.Seats.{DeskSeat}
use Rattle.desk_crew.specs.declared.seat.Returned.{Returned}
use Rattle.desk_crew.specs.Registered.{AllKeepLimits, HaveOwnNames, registered_journals}
use Rattle.desk_crew.specs.Side.{DeskPlace, DeskOpening, AtDisk, IsAtDisk, HasPlace, place_journal, opening_journal, opening_journals, place_faults}
use Rattle.desk_crew.specs.Side.{OpeningsLater, IsLeftFrom, ArePutBack, IsTakenDisk, IsTakenFor, KeepsOpening, IsKnown, IsSeatOn, IsSeatFrom, AreSeatsFrom}
use Rattle.desk_crew.proofs.Giving.{CanGive, AreGiven, CanPutBack, WerePutBack, AreReady, Same, AreUnopened, AllReturned}
use Rattle.desk_crew.proofs.Shelving.{Parts, parts, among-append, among_none_first, by_among, none_out, none_fell, at_names}
use Rattle.desk_crew.proofs.Placing.{zip_push, disk_weaker, disk_both, all_disk_placed}

abbrev pub names : List User → List Text
names users = map (λ user. user.name) (map named_user users)

pub names-append : (xs ys : List User) → names (xs ++ ys) ≡ names xs ++ names ys
names-append [] ys = refl
names-append (x ∷ xs) ys = ap (λ l. string_bytes x.name ∷ l) (names-append xs ys)

-- the names of users are those of the first, of the next and of the rest
pub names_split : (users : List User) (i : ℕ) (user : User) → i < length users → user ≡ get_or users i user
    → names users ≡ (names (take i users) ++ string_bytes user.name ∷ []) ++ names (drop (i + 1) users)
names_split users i user low is =
    let whole : users ≡ take (i + 1) users ++ drop (i + 1) users = sym (take-append-drop (i + 1) users) in
    let more : take (i + 1) users ≡ take i users ++ user ∷ [] = take_more users i user low ∙ ap (λ u. take i users ++ u ∷ []) (sym is) in
    ap names (whole ∙ ap (λ l. l ++ drop (i + 1) users) more) ∙ names-append (take i users ++ user ∷ []) (drop (i + 1) users)
    ∙ ap (λ l. l ++ names (drop (i + 1) users)) (names-append (take i users) (user ∷ []))

-- a name of the first users isn't that of the next
pub next_apart : (users : List User) (i : ℕ) (user : User) → i < length users → user ≡ get_or users i user → has_duplicate (names users) ≡ false
    → is_among (names (take i users)) (string_bytes user.name) ≡ false
next_apart users i user low is distinct =
    let all = names_split users i user low is in
    let first : Parts (names (take i users) ++ string_bytes user.name ∷ []) (names (drop (i + 1) users)) = parts _ _ (ap has_duplicate (sym all) ∙ distinct) in
    let two : Parts (names (take i users)) (string_bytes user.name ∷ []) = parts _ _ first.first in
    two.apart_back (string_bytes user.name) (ap (λ b. b || false) (text_is (string_bytes user.name)))

pub first_distinct : (users : List User) (i : ℕ) → has_duplicate (names users) ≡ false → has_duplicate (names (take i users)) ≡ false
first_distinct users i distinct =
    let all : names users ≡ names (take i users) ++ names (drop i users) =
    ap names (sym (take-append-drop i users)) ∙ names-append (take i users) (drop i users) in
    (parts (names (take i users)) (names (drop i users)) (ap has_duplicate (sym all) ∙ distinct)).first

-- as many names as seats
pub length-journals : {D : Type 0} {g h : _} (seats : List (DeskSeat D g h)) → length (journals seats) ≡ length seats
length-journals [] = refl
length-journals (s ∷ seats) = ap (λ n. suc n) (length-journals seats)

module _ (directory : Text) where
  pub journal_among : JournalsDiffer → (ns : List Text) (name : Text)
      → is_among (map (journal_name directory) ns) (journal_name directory name) ≡ is_among ns name
  journal_among differ [] name = refl
  journal_among differ (n ∷ ns) name =
      ap (λ b. b || is_among (map (journal_name directory) ns) (journal_name directory name)) (differ directory name n)
      ∙ ap (λ b. bytes_eq name n || b) (journal_among differ ns name)

  pub journals_distinct : JournalsDiffer → (ns : List Text) → has_duplicate (map (journal_name directory) ns) ≡ has_duplicate ns
  journals_distinct differ [] = refl
  journals_distinct differ (n ∷ ns) =
      ap (λ b. b || has_duplicate (map (journal_name directory) ns)) (journal_among differ ns n) ∙ ap (λ b. is_among ns n || b) (journals_distinct differ ns)

  module _ (schema : DatabaseSchema) (world : FactSet) (header : List ℕ) {D : Type 0} {g h : _} (told : Type 0) (Disk : DiskGhosts D)
      (disk0 : Text → Option D) (count0 : Text → ℕ) where
    abbrev Seats : List User → List (DeskSeat D g h) → Type 0
    Seats users seats = AreSeatsOf told Disk schema world header directory disk0 count0 users seats

    -- the journals of seats are those of their users
    pub seat_journals : (users : List User) (seats : List (DeskSeat D g h)) → Seats users seats → journals seats ≡ map (journal_name directory) (names users)
    seat_journals [] [] are = refl
    seat_journals [] (s ∷ seats) are = absurd are
    seat_journals (u ∷ users) [] are = absurd are
    seat_journals (u ∷ users) (s ∷ seats) are =
        ap (λ j. j ∷ journals seats) are.0.journal_is ∙ ap (λ js. journal_name directory (string_bytes u.name) ∷ js) (seat_journals users seats are.1)

    pub seats_distinct : JournalsDiffer → (users : List User) (seats : List (DeskSeat D g h)) → Seats users seats → has_duplicate (names users) ≡ false
        → has_duplicate (journals seats) ≡ false
    seats_distinct differ users seats are distinct = ap has_duplicate (seat_journals users seats are) ∙ journals_distinct differ (names users) ∙ distinct

    pub seats_later : (count : Text → ℕ) (users : List User) (seats : List (DeskSeat D g h)) → SameNames count0 count → Seats users seats
        → AreLater Disk.faults count seats
    seats_later count [] [] same are = tt
    seats_later count [] (s ∷ seats) same are = absurd are
    seats_later count (u ∷ users) [] same are = absurd are
    seats_later count (u ∷ users) (s ∷ seats) same are =
        let on = are.0.left.later in
        let counted = are.0.counted in
        let now = same (seat_journal s) in
        (omega (arith, on, counted, now), seats_later count users seats same are.1)

    pub seats_served : (users : List User) (seats : List (DeskSeat D g h)) → Seats users seats → AllByRecursion (IsSeatServed schema world header) seats
    seats_served [] [] are = tt
    seats_served [] (s ∷ seats) are = absurd are
    seats_served (u ∷ users) [] are = absurd are
    seats_served (u ∷ users) (s ∷ seats) are = (are.0.opened.served, seats_served users seats are.1)

    pub seats_limits : (users : List User) (seats : List (DeskSeat D g h)) → Seats users seats
        → AllByRecursion (λ (u : User). KeepsLimits schema (profile_of u)) users
        → AllByRecursion (λ (s : DeskSeat D g h). KeepsLimits schema (profile_of (seat_user s))) seats
    seats_limits [] [] are limits = tt
    seats_limits [] (s ∷ seats) are limits = absurd are
    seats_limits (u ∷ users) [] are limits = absurd are
    seats_limits (u ∷ users) (s ∷ seats) are limits =
        (subst (λ v. KeepsLimits schema (profile_of v)) (sym are.0.user_is) limits.0, seats_limits users seats are.1 limits.1)

    pub same_length : (users : List User) (seats : List (DeskSeat D g h)) → Seats users seats → length seats ≡ length users
    same_length [] [] are = refl
    same_length [] (s ∷ seats) are = absurd are
    same_length (u ∷ users) [] are = absurd are
    same_length (u ∷ users) (s ∷ seats) are = ap (λ n. suc n) (same_length users seats are.1)

  -- ---- one user's journal after the other is taken

  module _ {D : Type 0} {g h : _} (told : Type 0) (Disk : DiskGhosts D) (disk0 : Text → Option D) (count0 : Text → ℕ) where
    -- the journals of users were taken, to be opened
    abbrev pub AreTaken : List User → List (DeskOpening D g h) → Type 0
    AreTaken users openings = AllZip (IsTakenFor told Disk directory disk0 count0) users openings

    taken_journal : (journal : Text) (p : Option (DeskPlace D g h)) → AtDisk (IsTakenDisk told Disk disk0 count0 journal) p → place_journal p ≡ journal
    taken_journal journal None at = absurd at
    taken_journal journal (Some (Ok seat)) at = absurd at
    taken_journal journal (Some (Err closed)) at = at.journal_is

    taken_journals : (users : List User) (openings : List (DeskOpening D g h)) → AreTaken users openings
        → opening_journals openings ≡ map (journal_name directory) (names users)
    taken_journals [] [] are = refl
    taken_journals [] (o ∷ openings) are = absurd are
    taken_journals (u ∷ users) [] are = absurd are
    taken_journals (u ∷ users) (o ∷ openings) are =
        ap (λ j. j ∷ opening_journals openings) (taken_journal (journal_name directory (string_bytes u.name)) o.place are.0.taken)
        ∙ ap (λ js. journal_name directory (string_bytes u.name) ∷ js) (taken_journals users openings are.1)

    -- the count of a disk that was taken is that under its name
    taken_later : (count : Text → ℕ) (journal : Text) (p : Option (DeskPlace D g h)) → SameNames count0 count
        → AtDisk (IsTakenDisk told Disk disk0 count0 journal) p → count (place_journal p) ≤ place_faults Disk.faults p
    taken_later count journal None same at = absurd at
    taken_later count journal (Some (Ok seat)) same at = absurd at
    taken_later count journal (Some (Err closed)) same at =
        let counted = at.counted in
        let named = ap count at.journal_is in
        let now = same journal in
        omega (arith, counted, named, now)

    -- what was taken is on its disk, under the counts of the shelf
    taken_all : (count : Text → ℕ) (users : List User) (openings : List (DeskOpening D g h)) → SameNames count0 count → AreTaken users openings
        → AllByRecursion IsAtDisk openings × OpeningsLater Disk.faults count openings
    taken_all count [] [] same are = (tt, tt)
    taken_all count [] (o ∷ openings) same are = absurd are
    taken_all count (u ∷ users) [] same are = absurd are
    taken_all count (u ∷ users) (o ∷ openings) same are =
        let rest = taken_all count users openings same are.1 in
        let journal = journal_name directory (string_bytes u.name) in (
          (
            disk_weaker (IsTakenDisk told Disk disk0 count0 journal) (λ closed. Unit {0}) (λ closed is. tt) o.place are.0.taken,
            rest.0,
          ),
          (taken_later count journal o.place same are.0.taken, rest.1),
        )

    -- a disk that an opening left at most reads as the one that was taken, and no moment left anything new of it
    same_one : told → (disk' : Text → Option D) (journal : Text) (p : Option (DeskPlace D g h)) (now : D)
        → AtDisk (IsTakenDisk told Disk disk0 count0 journal) p → IsLeftFrom Disk p now → disk' (place_journal p) ≡ Some now
        → Same Disk disk0 disk' (place_journal p)
    same_one t disk' journal None now at left held = absurd at
    same_one t disk' journal (Some (Ok seat)) now at left held = absurd at
    same_one t disk' journal (Some (Err closed)) now at left held =
        subst (Same Disk disk0 disk') (sym at.journal_is) (
          ap (bytes_on Disk.reads) held' ∙ left.reads_same ∙ taken_reads Disk.reads Disk.image (disk0 journal) closed.disk (at.from t),
          λ c here. taken_images Disk.reads Disk.image (disk0 journal) closed.disk c (at.from t)
              (left.images c (subst (λ o. image_on Disk.image o c) held' here)),
          taken_rests Disk (disk0 journal) (disk' journal) closed.disk now (at.from t) left.rests held',
          λ tells was. subst (ThereOn Disk) (sym held') (left.there tells (λ number one heard. absurd (at.unheard number one heard))),
        )
      where
        held' : disk' journal ≡ Some now
        held' = ap disk' (sym at.journal_is) ∙ held

    same_each : told → (disk' : Text → Option D) (count' : Text → ℕ) (users : List User) (openings : List (DeskOpening D g h)) → AreTaken users openings
        → ArePutBack told Disk disk' count' openings
        → AllByRecursion (λ (o : DeskOpening D g h). Same Disk disk0 disk' (opening_journal o)) openings
    same_each t disk' count' [] [] are back = tt
    same_each t disk' count' [] (o ∷ openings) are back = absurd are
    same_each t disk' count' (u ∷ users) [] are back = absurd are
    same_each t disk' count' (u ∷ users) (o ∷ openings) are back = (
      same_one t disk' (journal_name directory (string_bytes u.name)) o.place back.0.now are.0.taken back.0.left (back.0.held t),
      same_each t disk' count' users openings are.1 back.1,
    )

    fell_one : (p : Option (DeskPlace D g h)) (now : D) → AtDisk (λ closed. Unit {0}) p → IsLeftFrom Disk p now → place_faults Disk.faults p ≤ Disk.faults now
    fell_one None now at left = absurd at
    fell_one (Some (Ok seat)) now at left = absurd at
    fell_one (Some (Err closed)) now at left = left.later

    fell_each : (count count' : Text → ℕ) (disk' : Text → Option D) (openings : List (DeskOpening D g h)) → AllByRecursion IsAtDisk openings
        → OpeningsLater Disk.faults count openings → ArePutBack told Disk disk' count' openings
        → AllByRecursion (λ (o : DeskOpening D g h). count (opening_journal o) ≤ count' (opening_journal o)) openings
    fell_each count count' disk' [] at later back = tt
    fell_each count count' disk' (o ∷ openings) at later back =
        let first : count (opening_journal o) ≤ place_faults Disk.faults o.place = later.0 in
        let left = fell_one o.place back.0.now at.0 back.0.left in
        let counted = back.0.counted in
        (omega (arith, first, left, counted), fell_each count count' disk' openings at.1 later.1 back.1)

    many_taken : (users : List User) (openings : List (DeskOpening D g h)) → AreTaken users openings → length openings ≡ length users
    many_taken [] [] are = refl
    many_taken [] (o ∷ openings) are = absurd are
    many_taken (u ∷ users) [] are = absurd are
    many_taken (u ∷ users) (o ∷ openings) are = ap (λ n. suc n) (many_taken users openings are.1)

    -- the journals of the first users are taken
    pub record Taken (users : List User) (i : ℕ) (openings : List (DeskOpening D g h)) (disk : Text → Option D) (is_out : Text → Bool) (count : Text → ℕ) :
        Type 0 where
      pub are : AreTaken (take i users) openings
      pub out : AreOut (opening_journals openings) is_out
      pub disks : SameBeside (opening_journals openings) disk0 disk
      pub counts : SameNames count0 count

    pub taken_none : (users : List User) (openings : List (DeskOpening D g h)) (is_out : Text → Bool) → openings ≡ [] → NoneOut is_out
        → Taken users 0 openings disk0 is_out count0
    taken_none users openings is_out none inside = record {
      are = subst (AreTaken (take 0 users)) (sym none) (first users);
      out = λ name. inside name ∙ ap (λ s. is_among (opening_journals s) name) (sym none);
      disks = λ name not. refl;
      counts = λ name. refl;
    }
      where
        first : (us : List User) → AreTaken (take 0 us) []
        first [] = tt
        first (u ∷ us) = tt

    -- the same of a shelf on which the same stands
    pub taken_still : (users : List User) (i : ℕ) (openings : List (DeskOpening D g h)) (disk disk' : Text → Option D) (is_out is_out' : Text → Bool)
        (count count' : Text → ℕ) → Taken users i openings disk is_out count → SameNames disk disk' → SameNames is_out is_out' → SameNames count count'
        → Taken users i openings disk' is_out' count'
    taken_still users i openings disk disk' is_out is_out' count count' so_far disks outs counts = record {
      are = so_far.are;
      out = λ name. outs name ∙ so_far.out name;
      disks = λ name none. disks name ∙ so_far.disks name none;
      counts = λ name. counts name ∙ so_far.counts name;
    }

    module _ (differ : JournalsDiffer) (users : List User) (distinct : has_duplicate (names users) ≡ false) (i : ℕ) (openings : List (DeskOpening D g h))
        (disk : Text → Option D) (is_out : Text → Bool) (count : Text → ℕ) (so_far : Taken users i openings disk is_out count) where
      -- what was taken can be given back
      pub taken_can : CanPutBack Disk openings is_out count
      taken_can = record {
        distinct = ap has_duplicate (taken_journals (take i users) openings so_far.are) ∙ journals_distinct differ (names (take i users))
            ∙ first_distinct users i distinct;
        out = λ name among. so_far.out name ∙ among;
        later = (taken_all count (take i users) openings so_far.counts so_far.are).1;
      }

      pub taken_placed : AllByRecursion HasPlace openings
      taken_placed = all_disk_placed openings (taken_all count (take i users) openings so_far.counts so_far.are).0

      -- a name that is no user's journal is none of those that are taken
      pub taken_beside : (name : Text) → is_among (registered_journals directory users) name ≡ false → is_among (opening_journals openings) name ≡ false
      taken_beside name none =
          let split : map (journal_name directory) (names users) ≡ map (journal_name directory) (names (take i users)) ++ map (journal_name directory)
          (names (drop i users)) =
          ap (map (journal_name directory)) (ap names (sym (take-append-drop i users)) ∙ names-append (take i users) (drop i users))
          ∙ map-append (journal_name directory) (names (take i users)) (names (drop i users)) in
          ap (λ ns. is_among ns name) (taken_journals (take i users) openings so_far.are)
          ∙ among_none_first (map (journal_name directory) (names (take i users))) (map (journal_name directory) (names (drop i users))) name
          (ap (λ ns. is_among ns name) (sym split) ∙ none)

      -- once what was taken is back, all disks are as they were
      pub taken_back : ((d : D) (c : List ℕ) → Disk.image_since d (Disk.moment d) c → Disk.image d c) → (disk' : Text → Option D) (is_out' : Text → Bool)
          (count' : Text → ℕ) → WerePutBack told Disk openings disk disk' is_out is_out' count count'
          → AreUnopened told Disk (registered_journals directory users) disk0 disk' is_out' count0 count'
      taken_back only_now disk' is_out' count' given = record {
        inside = none_out (opening_journals openings) is_out is_out' so_far.out given.inside given.others_out;
        same = λ t.
            by_among (Same Disk disk0 disk') (opening_journals openings)
            (at_names opening_journal (Same Disk disk0 disk') openings
            (same_each t disk' count' (take i users) openings so_far.are given.back))
            (λ name none.
            let still : disk' name ≡ disk0 name = given.disks name none ∙ so_far.disks name none in (
              ap (bytes_on Disk.reads) still,
              λ c here. subst (λ d. image_on Disk.image d c) still here,
              same_rests Disk only_now (disk0 name) (disk' name) still,
              λ tells was. subst (ThereOn Disk) (sym still) was,
            ));
        disks = λ name none. given.disks name (taken_beside name none) ∙ so_far.disks name (taken_beside name none);
        counts = λ name.
            let first = so_far.counts name in
            let all = taken_all count (take i users) openings so_far.counts so_far.are in
            let second = none_fell (opening_journals openings) count count'
            (at_names opening_journal (λ n. count n ≤ count' n) openings (fell_each count count' disk' openings all.0 all.1 given.back)) given.counts name in
            omega (arith, first, second);
        other_counts = λ name none. given.counts name (taken_beside name none) ∙ so_far.counts name;
      }

      module _ (user : User) (low : i < length users) (is : user ≡ get_or users i user) where
        abbrev one : Text
        one = journal_name directory (string_bytes user.name)

        next_none : is_among (opening_journals openings) one ≡ false
        next_none = ap (λ ns. is_among ns one) (taken_journals (take i users) openings so_far.are)
            ∙ journal_among differ (names (take i users)) (string_bytes user.name) ∙ next_apart users i user low is distinct

        -- the next journal isn't out
        pub next_in : is_out one ≡ false
        next_in = so_far.out one ∙ next_none

        -- it is taken too
        pub taken_more : (opening : DeskOpening D g h) (disk' : Text → Option D) (is_out' : Text → Bool) (count' : Text → ℕ)
            → IsTakenFor told Disk directory disk count user opening
            → is_out' one ≡ true → SameOthers one is_out is_out' → SameOthers one disk disk' → SameNames count count'
            → Taken users (i + 1) (openings ++ opening ∷ []) disk' is_out' count'
        taken_more opening disk' is_out' count' at out outs disks counts =
            let more : take (i + 1) users ≡ take i users ++ user ∷ [] = take_more users i user low ∙ ap (λ u. take i users ++ u ∷ []) (sym is) in
            let names_are : opening_journals (openings ++ opening ∷ []) ≡ opening_journals openings ++ one ∷ [] =
            map-append opening_journal openings (opening ∷ []) ∙ ap (λ j. opening_journals openings ++ j ∷ []) named in
            record {
              are = subst (λ us. AreTaken us (openings ++ opening ∷ [])) (sym more)
                  (zip_push (IsTakenFor told Disk directory disk0 count0) (take i users) openings user opening so_far.are at_first);
              out = λ name. by_out name (bytes_eq name one) refl
                  ∙ sym (ap (λ ns. is_among ns name) names_are ∙ among-append (opening_journals openings) (one ∷ []) name);
              disks = λ name none.
                  let apart = sym (among-append (opening_journals openings) (one ∷ []) name) ∙ sym (ap (λ ns. is_among ns name) names_are) ∙ none in
                  disks name (or_first _ _ (or_second (is_among (opening_journals openings) name) (bytes_eq name one || false) apart))
                  ∙ so_far.disks name (or_first (is_among (opening_journals openings) name) (bytes_eq name one || false) apart);
              counts = λ name. counts name ∙ so_far.counts name;
            }
          where
            first_too : (closed : Returned D) → IsTakenDisk told Disk disk count one closed → IsTakenDisk told Disk disk0 count0 one closed
            first_too closed taken = record {
              journal_is = taken.journal_is;
              from = λ t. subst (λ o. IsTaken Disk.reads Disk.image o closed.disk) (so_far.disks one next_none) (taken.from t);
              unheard = taken.unheard;
              counted = taken.counted ∙ so_far.counts one;
            }

            at_first : IsTakenFor told Disk directory disk0 count0 user opening
            at_first = record {
              user_is = at.user_is;
              admission_is = at.admission_is;
              before_is = at.before_is;
              taken = disk_weaker (IsTakenDisk told Disk disk count one) (IsTakenDisk told Disk disk0 count0 one) first_too opening.place at.taken;
            }

            named : opening_journal opening ≡ one
            named = taken_journal one opening.place at_first.taken

            or_end : (a : Bool) → (a || (true || false)) ≡ true
            or_end true = refl
            or_end false = refl

            or_none : (a : Bool) → (a || (false || false)) ≡ a
            or_none true = refl
            or_none false = refl

            by_out : (name : Text) (b : Bool) → bytes_eq name one ≡ b
                → is_out' name ≡ (is_among (opening_journals openings) name || (bytes_eq name one || false))
            by_out name true same =
                ap is_out' (same_text name one (sym same)) ∙ out
                ∙ sym (ap (λ b. is_among (opening_journals openings) name || (b || false)) same ∙ or_end (is_among (opening_journals openings) name))
            by_out name false differs =
                outs name differs ∙ so_far.out name
                ∙ sym (ap (λ b. is_among (opening_journals openings) name || (b || false)) differs ∙ or_none (is_among (opening_journals openings) name))

-- ---- the journals of all users are taken

module _ (schema : DatabaseSchema) (world : FactSet) (header : List ℕ) (directory : Text) {D : Type 0} {g h : _} (told : Type 0) (Disk : DiskGhosts D)
    (disk0 : Text → Option D) (count0 : Text → ℕ) where
  -- what is known of an opening as its journal is taken: its user keeps the limits, and whether he is admitted isn't known
  taken_keeps : (users : List User) (openings : List (DeskOpening D g h)) → AreTaken directory told Disk disk0 count0 users openings
      → AllByRecursion (λ (u : User). KeepsLimits schema (profile_of u)) users
      → AllByRecursion (KeepsOpening schema world) openings × AllByRecursion (IsKnown schema world) openings
  taken_keeps [] [] are limits = (tt, tt)
  taken_keeps [] (o ∷ openings) are limits = absurd are
  taken_keeps (u ∷ users) [] are limits = absurd are
  taken_keeps (u ∷ users) (o ∷ openings) are limits =
      let rest = taken_keeps users openings are.1 limits.1 in (
        (subst (λ v. KeepsLimits schema (profile_of v)) (sym are.0.user_is) limits.0, rest.0),
        (
          record {
            known = subst (λ it. IfSome it (λ admission. admission ≡ admission_of schema world (profile_of o.user.now))) (sym are.0.admission_is) tt;
          },
          rest.1,
        ),
      )

  -- the seat of an opening is its user's
  seat_taken : (user : User) (opening : DeskOpening D g h) (seat : DeskSeat D g h) → IsTakenFor told Disk directory disk0 count0 user opening
      → IsSeatFrom schema world header Disk opening seat → IsSeatOf told Disk schema world header directory disk0 count0 user seat
  seat_taken user opening seat at from =
      disk_both (IsTakenDisk told Disk disk0 count0 (journal_name directory (string_bytes user.name)))
      (IsSeatOn schema world header Disk opening.user.now opening.before seat)
      (IsSeatOf told Disk schema world header directory disk0 count0 user seat)
      (λ closed taken on.
      let named : seat_journal seat ≡ journal_name directory (string_bytes user.name) = on.journal_is ∙ taken.journal_is in
      record {
        user_is = on.user_is ∙ at.user_is;
        journal_is = named;
        taken = closed.disk;
        from = λ t. subst (λ n. IsTaken Disk.reads Disk.image (disk0 n) closed.disk) (sym named) (taken.from t);
        unheard = taken.unheard;
        counted = taken.counted ∙ ap count0 (sym named);
        opened = subst (λ before. IsOpenedFrom schema world header Disk closed.disk before seat) at.before_is on.opened;
        left = on.left;
      }) opening.place at.taken from

  seats_taken : (users : List User) (openings : List (DeskOpening D g h)) (seats : List (DeskSeat D g h))
      → AreTaken directory told Disk disk0 count0 users openings
      → AreSeatsFrom schema world header Disk openings seats → AreSeatsOf told Disk schema world header directory disk0 count0 users seats
  seats_taken [] [] [] are from = tt
  seats_taken [] [] (s ∷ seats) are from = absurd from
  seats_taken [] (o ∷ openings) seats are from = absurd are
  seats_taken (u ∷ users) [] seats are from = absurd are
  seats_taken (u ∷ users) (o ∷ openings) [] are from = absurd from
  seats_taken (u ∷ users) (o ∷ openings) (s ∷ seats) are from = (seat_taken u o s are.0 from.0, seats_taken users openings seats are.1 from.1)

  module _ (differ : JournalsDiffer) {users : List User} (distinct : has_duplicate (names users) ≡ false) {i : ℕ} {openings : List (DeskOpening D g h)}
      {disk : Text → Option D} {is_out : Text → Bool} {count : Text → ℕ}
      (so_far : Taken directory told Disk disk0 count0 users i openings disk is_out count) where
    module _ (whole : take i users ≡ users) where
      are_all : AreTaken directory told Disk disk0 count0 users openings
      are_all = subst (λ us. AreTaken directory told Disk disk0 count0 us openings) whole so_far.are

      pub taken_many : length openings ≡ length users
      taken_many = many_taken directory told Disk disk0 count0 users openings are_all

      pub taken_ready : AllKeepLimits schema users → AreReady schema world Disk openings is_out count
      taken_ready limits =
          let keeps = taken_keeps users openings are_all (recursion_from_All (λ (u : User). KeepsLimits schema (profile_of u)) users limits) in
          record {
            limits = All-from_recursion (KeepsOpening schema world) openings keeps.0;
            known = All-from_recursion (IsKnown schema world) openings keeps.1;
            closed = (taken_all directory told Disk disk0 count0 count (take i users) openings so_far.counts so_far.are).0;
            can = taken_can directory told Disk disk0 count0 differ users distinct i openings disk is_out count so_far;
          }

      -- where all are open, their seats are those of the users
      pub seated_all : (seats : List (DeskSeat D g h)) → AreSeatsFrom schema world header Disk openings seats
          → AreSeatsOf told Disk schema world header directory disk0 count0 users seats
      seated_all seats from = seats_taken users openings seats are_all from

      -- and these journals are out, and no others
      pub seated_names : (seats : List (DeskSeat D g h)) → AreSeatsFrom schema world header Disk openings seats → journals seats ≡ opening_journals openings
      seated_names seats from =
          seat_journals directory schema world header told Disk disk0 count0 users seats (seats_taken users openings seats are_all from)
          ∙ sym (taken_journals directory told Disk disk0 count0 users openings are_all)

-- ---- the seats of all users

-- the counts of disks that are back didn't fall
seats_fell : {D : Type 0} {g h : _} (told : Type 0) (Disk : DiskGhosts D) (count count' : Text → ℕ) (disk' : Text → Option D) (seats : List (DeskSeat D g h))
    → AreLater Disk.faults count seats → AreBack told Disk disk' count' seats
    → AllByRecursion (λ (s : DeskSeat D g h). count (seat_journal s) ≤ count' (seat_journal s)) seats
seats_fell told Disk count count' disk' [] later back = tt
seats_fell told Disk count count' disk' (s ∷ seats) later back =
    let first : count (seat_journal s) ≤ Disk.faults (seat_disk s) = later.0 in
    let closed = back.0.left.is_closed.later in
    let on = back.0.left.left.later in
    let counted = back.0.counted in
    (omega (arith, first, closed, on, counted), seats_fell told Disk count count' disk' seats later.1 back.1)

-- behind an opening of all journals, which changed no count
pub record AllSeated (directory : Text) (schema : DatabaseSchema) (world : FactSet) (header : List ℕ) {D : Type 0} {g h : _} (told : Type 0)
    (Disk : DiskGhosts D) (users : List User) (seats : List (DeskSeat D g h)) (disk disk' : Text → Option D) (is_out' : Text → Bool)
    (count count' : Text → ℕ) : Type 0 where
  pub are : AreSeatsOf told Disk schema world header directory disk count users seats
  pub journals_are : journals seats ≡ registered_journals directory users
  pub distinct : has_duplicate (journals seats) ≡ false
  pub served : AllByRecursion (IsSeatServed schema world header) seats
  pub many : length seats ≡ length users
  pub out : AreOut (journals seats) is_out'
  pub first : AreLater Disk.faults count seats
  pub later : AreLater Disk.faults count' seats
  pub disks : SameBeside (registered_journals directory users) disk disk'
  pub counts : SameNames count count'

pub all_seated : (directory : Text) (schema : DatabaseSchema) (world : FactSet) (header : List ℕ) {D : Type 0} {g h : _} (told : Type 0)
    (Disk : DiskGhosts D) (users : List User) (seats : List (DeskSeat D g h)) (disk disk' : Text → Option D) (is_out' : Text → Bool) (count count' : Text → ℕ)
    → JournalsDiffer → HaveOwnNames users → AreSeatsOf told Disk schema world header directory disk count users seats
    → AreOut (journals seats) is_out' → SameBeside (registered_journals directory users) disk disk' → SameNames count count'
    → AllSeated directory schema world header told Disk users seats disk disk' is_out' count count'
all_seated directory schema world header told Disk users seats disk disk' is_out' count count' differ distinct are out disks counts = record {
  are = are;
  journals_are = seat_journals directory schema world header told Disk disk count users seats are;
  distinct = seats_distinct directory schema world header told Disk disk count differ users seats are distinct;
  served = seats_served directory schema world header told Disk disk count users seats are;
  many = same_length directory schema world header told Disk disk count users seats are;
  out = out;
  first = seats_later directory schema world header told Disk disk count count users seats (λ name. refl) are;
  later = seats_later directory schema world header told Disk disk count count' users seats counts are;
  disks = disks;
  counts = counts;
}

module _ {directory : Text} {schema : DatabaseSchema} {world : FactSet} {header : List ℕ} {D : Type 0} {g h : _} {told : Type 0} {Disk : DiskGhosts D}
    {users : List User} {seats : List (DeskSeat D g h)} {disk disk' : Text → Option D} {is_out' : Text → Bool} {count count' : Text → ℕ}
    (seated : AllSeated directory schema world header told Disk users seats disk disk' is_out' count count') (news : List (DeskSeat D g h))
    (same : journals news ≡ journals seats) (later : AreLater Disk.faults count' news) where
  -- seats that took the place of these can be given back
  pub seats_can : CanGive Disk news is_out' count'
  seats_can = record {
    distinct = ap has_duplicate same ∙ seated.distinct;
    out = λ name among. seated.out name ∙ ap (λ ns. is_among ns name) (sym same) ∙ among;
    later = later;
  }

  -- and once they were, the shelf is whole
  pub all_returned : {disk'' : Text → Option D} {is_out'' : Text → Bool} {count'' : Text → ℕ}
      → AreGiven told Disk news disk' disk'' is_out' is_out'' count' count''
      → AllReturned (registered_journals directory users) disk disk'' is_out'' count count''
  all_returned {disk''} {is_out''} {count''} given = record {
    disks = λ name none. given.disks name (ap (λ ns. is_among ns name) (same ∙ seated.journals_are) ∙ none) ∙ seated.disks name none;
    inside = none_out (journals news) is_out' is_out'' (subst (λ ns. AreOut ns is_out') (sym same) seated.out) given.inside given.others_out;
    counts = λ name. subst (λ n. n ≤ count'' name) (seated.counts name)
        (none_fell (journals news) count' count''
        (at_names seat_journal (λ n. count' n ≤ count'' n) news (seats_fell told Disk count' count'' disk'' news later given.back)) given.counts name);
    other_counts = λ name none.
        given.counts name (ap (λ ns. is_among ns name) (same ∙ seated.journals_are) ∙ none) ∙ seated.counts name;
  }
