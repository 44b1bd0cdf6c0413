-- The journals of all users, opened one after the other.
use Rattle.std.proofs.Common.{◌≡◌, ℕ, ◌≤◌, ◌<◌, ◌+◌, Bool, true, false, List, [], ◌∷◌, ◌++◌, length, take, drop, get_or, map, refl, sym, ap, subst, ◌∙◌, arith}
use Rattle.std.specs.Prelude.{Option, Some, ◌||◌, bytes_eq, string_bytes}
use Rattle.std.specs.List.{AllByRecursion, AllZip}
use Rattle.std.specs.Cmp.Lexicographic.{same_text}
use Rattle.std.proofs.lemmas.List.{take_more, take_all, take-append-drop, map-append}
use Rattle.outside.specs.Shelf.{IsTaken, SameNames, SameOthers, SameBeside, AllOut, AllIn, AreOut, NoneOut, NoneFell, NoNewSince, is_among, bytes_on, image_on}
use Rattle.outside.specs.declared.disk.Disk.{Ghosts as DiskGhosts}
use Rattle.outside.proofs.Taken.{taken_reads, taken_images, taken_rests}
use Rattle.cqe_base.specs.Schema.{Text, has_duplicate}
use Rattle.cqe_base.specs.declared.user.User.{User}
use Rattle.cqe_base.proofs.Truths.{or_first, or_second}
use Rattle.log_journal.specs.Names.{journal_name, JournalsDiffer}
use Rattle.desk_crew.specs.Registered.{registered_journals}
use Rattle.desk_crew.proofs.Giving.{AreReturned}
use Rattle.desk_crew.proofs.Placing.{zip_push}
use Rattle.desk_crew.proofs.Shelving.{among-append, among_none_first, among_none_second, by_among, none_out, at_names}
use Rattle.desk_crew.proofs.Taking.{names, names-append, names_split, next_apart, first_distinct, journal_among, journals_distinct}
use Rattle.standby_engine.specs.Opened.{place_journal, place_disk, given_journal, AllStay, IsGiven, AreGiven, IsPlaceUnder, ArePlacesOf}
use Rattle.standby_engine.specs.declared.opening.Given.{Given as Back}
use Rattle.standby_engine.specs.declared.opening.Place.{Place}

-- ---- two lists that were made of one

pub zip_same : {A B X : Type 0} (R : A → B → Type 0) (f : X → A) (h : X → B) (xs : List X) → AllZip R (map f xs) (map h xs)
    → AllByRecursion (λ x. R (f x) (h x)) xs
zip_same R f h [] are = tt
zip_same R f h (x ∷ xs) are = (are.0, zip_same R f h xs are.1)

pub zip_parts : {A B X : Type 0} (R : A → B → Type 0) (f : X → A) (h : X → B) (xs : List X) (ys : List A) (zs : List B)
    → AllZip R (map f xs ++ ys) (map h xs ++ zs) → AllByRecursion (λ x. R (f x) (h x)) xs × AllZip R ys zs
zip_parts R f h [] ys zs are = (tt, are)
zip_parts R f h (x ∷ xs) ys zs are =
    let rest = zip_parts R f h xs ys zs are.1 in
    ((are.0, rest.0), rest.1)

-- ---- disks under their names

-- what stands under a name reads as before, and no crash leaves anything new of it, at no moment either
abbrev pub StaysUnder : {D : Type 0} → DiskGhosts D → (Text → Option D) → (Text → Option D) → Text → Type 0
StaysUnder Disk old new name =
    (bytes_on Disk.reads (new name) ≡ bytes_on Disk.reads (old name)) × ((c : List ℕ) → image_on Disk.image (new name) c → image_on Disk.image (old name) c)
    × NoNewSince Disk.moment Disk.image_since Disk.image (old name) (new name)

-- behind a refusal all disks are on the shelf, as they were
pub record NoneOpened {D : Type 0} (told : Type 0) (Disk : DiskGhosts D) (names : List Text) (disk disk' : Text → Option D) (is_out' : Text → Bool)
    (count count' : Text → ℕ) : Type 0 where
  pub inside : NoneOut is_out'
  pub same : told → (name : Text) → StaysUnder Disk disk disk' name
  pub disks : SameBeside names disk disk'
  pub counts : NoneFell count count'
  pub other_counts : SameBeside names count count'

module _ {D : Type 0} (told : Type 0) (Disk : DiskGhosts D) where
  -- a disk is under a name
  pub record IsUnder (disk : Text → Option D) (count : Text → ℕ) (name : Text) (one : D) : Type 0 where
    pub held : told → disk name ≡ Some one
    pub counted : count name ≡ Disk.faults one

  under_given : (disk : Text → Option D) (count : Text → ℕ) (all : List (Back D)) → AreGiven told Disk disk count all
      → AllZip (IsUnder disk count) (map given_journal all) (map (λ (b : Back D). b.disk) all)
  under_given disk count [] are = tt
  under_given disk count (b ∷ all) are = (record { held = are.0.held; counted = are.0.counted }, under_given disk count all are.1)

  -- those that are back are under these names
  pub under_names : (disk : Text → Option D) (count : Text → ℕ) (all : List (Back D)) (ns : List Text) (ds : List D) → map given_journal all ≡ ns
      → map (λ (b : Back D). b.disk) all ≡ ds → AreGiven told Disk disk count all → AllZip (IsUnder disk count) ns ds
  under_names disk count all ns ds names_are disks_are are =
      subst (λ l. AllZip (IsUnder disk count) ns l) disks_are
      (subst (λ l. AllZip (IsUnder disk count) l (map (λ (b : Back D). b.disk) all)) names_are (under_given disk count all are))

  -- an opening was refused: under all names the same is read, and nothing else is out; the count of this one alone may rise
  pub record StaysBut (one : Text) (disk disk' : Text → Option D) (is_out is_out' : Text → Bool) (count count' : Text → ℕ) : Type 0 where
    pub same : told → AllStay Disk disk disk'
    pub out : SameNames is_out is_out'
    pub disks : SameOthers one disk disk'
    pub fell : NoneFell count count'
    pub other_counts : SameOthers one count count'

  -- what stands under a name is the same behind a call that leaves it, and before another
  same_through : (first old mid new : Text → Option D) (name : Text) → old name ≡ first name → AllStay Disk old mid → new name ≡ mid name
      → StaysUnder Disk first new name
  same_through first old mid new name before stays behind = (
    ap (bytes_on Disk.reads) behind ∙ stays.0 name ∙ ap (bytes_on Disk.reads) before,
    λ c here. subst (λ o. image_on Disk.image o c) before (stays.1 name c (subst (λ o. image_on Disk.image o c) behind here)),
    subst (λ o. NoNewSince Disk.moment Disk.image_since Disk.image o (new name)) before
        (subst (λ o. NoNewSince Disk.moment Disk.image_since Disk.image (old name) o) (sym behind) (stays.2 name)),
  )

-- ---- the journals of the first users are opened

module _ (directory header : List ℕ) {D : Type 0} {g : _} (told : Type 0) (Disk : DiskGhosts D) (disk0 : Text → Option D) (count0 : Text → ℕ) where
  abbrev Placed : List User → List (Place D g) → Type 0
  Placed users places = ArePlacesOf told Disk header directory disk0 count0 users places

  pub place_journals : (users : List User) (places : List (Place D g)) → Placed users places
      → map place_journal places ≡ map (journal_name directory) (names users)
  place_journals [] [] are = refl
  place_journals [] (p ∷ places) are = absurd are
  place_journals (u ∷ users) [] are = absurd are
  place_journals (u ∷ users) (p ∷ places) are =
      ap (λ j. j ∷ map place_journal places) are.0.journal_is
      ∙ ap (λ js. journal_name directory (string_bytes u.name) ∷ js) (place_journals users places are.1)

  -- a disk that was only read is as it was taken
  pub same_under : told → (disk' : Text → Option D) (count' : Text → ℕ) (journal name : Text) (p : Place D g)
      → IsPlaceUnder told Disk header disk0 count0 journal name p → IsUnder told Disk disk' count' (place_journal p) (place_disk p)
      → StaysUnder Disk disk0 disk' journal
  same_under t disk' count' journal name p is under = (
    ap (bytes_on Disk.reads) held ∙ is.only.reads ∙ taken_reads Disk.reads Disk.image (disk0 journal) is.taken (is.from t),
    λ c here. taken_images Disk.reads Disk.image (disk0 journal) is.taken c (is.from t)
        (is.only.images c (subst (λ o. image_on Disk.image o c) held here)),
    taken_rests Disk (disk0 journal) (disk' journal) is.taken (place_disk p) (is.from t) is.only.moments held,
  )
    where
      held : disk' journal ≡ Some (place_disk p)
      held = ap disk' (sym is.journal_is) ∙ under.held t

  same_each : told → (disk' : Text → Option D) (count' : Text → ℕ) (users : List User) (places : List (Place D g)) → Placed users places
      → AllByRecursion (λ (p : Place D g). IsUnder told Disk disk' count' (place_journal p) (place_disk p)) places
      → AllByRecursion (λ (p : Place D g). StaysUnder Disk disk0 disk' (place_journal p)) places
  same_each t disk' count' [] [] are under = tt
  same_each t disk' count' [] (p ∷ places) are under = absurd are
  same_each t disk' count' (u ∷ users) [] are under = absurd are
  same_each t disk' count' (u ∷ users) (p ∷ places) are under = (
    subst (StaysUnder Disk disk0 disk') (sym are.0.journal_is)
        (same_under t disk' count' (journal_name directory (string_bytes u.name)) (string_bytes u.name) p are.0 under.0),
    same_each t disk' count' users places are.1 under.1,
  )

  fell_each : (disk' : Text → Option D) (count' : Text → ℕ) (users : List User) (places : List (Place D g)) → Placed users places
      → AllByRecursion (λ (p : Place D g). IsUnder told Disk disk' count' (place_journal p) (place_disk p)) places
      → AllByRecursion (λ (p : Place D g). count0 (place_journal p) ≤ count' (place_journal p)) places
  fell_each disk' count' [] [] are under = tt
  fell_each disk' count' [] (p ∷ places) are under = absurd are
  fell_each disk' count' (u ∷ users) [] are under = absurd are
  fell_each disk' count' (u ∷ users) (p ∷ places) are under =
      let named = ap count0 are.0.journal_is in
      let counted = are.0.counted in
      let only = are.0.only.count in
      let back = under.0.counted in
      (omega (arith, named, counted, only, back), fell_each disk' count' users places are.1 under.1)

  pub record Opening (users : List User) (i : ℕ) (places : List (Place D g)) (disk : Text → Option D) (is_out : Text → Bool) (count : Text → ℕ) :
      Type 0 where
    pub are : Placed (take i users) places
    pub out : AreOut (map place_journal places) is_out
    pub disks : SameBeside (map place_journal places) disk0 disk
    pub counts : SameNames count0 count

  pub opening_none : {users : List User} {places : List (Place D g)} {is_out : Text → Bool} → places ≡ [] → NoneOut is_out
      → Opening users 0 places disk0 is_out count0
  opening_none {users} none inside = record {
    are = subst (Placed (take 0 users)) (sym none) (first users);
    out = λ name. inside name ∙ ap (λ (ps : List (Place D g)). is_among (map place_journal ps) name) (sym none);
    disks = λ name not. refl;
    counts = λ name. refl;
  }
    where
      first : (us : List User) → Placed (take 0 us) []
      first [] = tt
      first (u ∷ us) = tt

-- the first users' journals are opened, and their names differ
module _ {directory header : List ℕ} {D : Type 0} {g : _} {told : Type 0} {Disk : DiskGhosts D} {disk0 : Text → Option D} {count0 : Text → ℕ}
    {users : List User} {i : ℕ} {places : List (Place D g)} {disk : Text → Option D} {is_out : Text → Bool} {count : Text → ℕ}
    (so_far : Opening directory header told Disk disk0 count0 users i places disk is_out count) (differ : JournalsDiffer)
    (distinct : has_duplicate (names users) ≡ false) where
  journals_first : map place_journal places ≡ map (journal_name directory) (names (take i users))
  journals_first = place_journals directory header told Disk disk0 count0 (take i users) places so_far.are

  pub opening_distinct : has_duplicate (map place_journal places) ≡ false
  opening_distinct = ap has_duplicate journals_first ∙ journals_distinct directory differ (names (take i users)) ∙ first_distinct users i distinct

  pub opening_out : (is_out' : Text → Bool) → SameNames is_out is_out' → AllOut (map place_journal places) is_out'
  opening_out is_out' outs name among = outs name ∙ so_far.out name ∙ among

  -- a name that is no user's journal is none of those that are opened
  pub opening_beside : (name : Text) → is_among (registered_journals directory users) name ≡ false → is_among (map place_journal places) name ≡ false
  opening_beside name none =
      let split : map (journal_name directory) (names users) ≡ map (journal_name directory) (names (take i users)) ++ map (journal_name directory)
      (names (drop i users)) =
      ap (map (journal_name directory)) (ap names (sym (take-append-drop i users)) ∙ names-append (take i users) (drop i users))
      ∙ map-append (journal_name directory) (names (take i users)) (names (drop i users)) in
      ap (λ ns. is_among ns name) journals_first
      ∙ among_none_first (map (journal_name directory) (names (take i users))) (map (journal_name directory) (names (drop i users))) name
      (ap (λ ns. is_among ns name) (sym split) ∙ none)

  -- all are, behind the last
  pub opening_all : length users ≤ i → ArePlacesOf told Disk header directory disk0 count0 users places
  opening_all past = subst (λ us. ArePlacesOf told Disk header directory disk0 count0 us places) (take_all i users past) so_far.are

  module _ {user : User} (low : i < length users) (is : user ≡ get_or users i user) where
    abbrev one : Text
    one = journal_name directory (string_bytes user.name)

    next_none : is_among (map place_journal places) one ≡ false
    next_none = ap (λ ns. is_among ns one) journals_first
        ∙ journal_among directory differ (names (take i users)) (string_bytes user.name) ∙ next_apart users i user low is distinct

    -- the next journal isn't out
    pub opening_in : is_out one ≡ false
    opening_in = so_far.out one ∙ next_none

    -- a name that is no user's journal isn't that of the next
    next_beside : (name : Text) → is_among (registered_journals directory users) name ≡ false → bytes_eq name one ≡ false
    next_beside name none =
        let first = names (take i users) in
        let rest = names (drop (i + 1) users) in
        let split : map (journal_name directory) (names users) ≡ (map (journal_name directory) first ++ one ∷ []) ++ map (journal_name directory) rest =
        ap (map (journal_name directory)) (names_split users i user low is)
        ∙ map-append (journal_name directory) (first ++ string_bytes user.name ∷ []) rest
        ∙ ap (λ l. l ++ map (journal_name directory) rest) (map-append (journal_name directory) first (string_bytes user.name ∷ [])) in
        or_first (bytes_eq name one) false
        (among_none_second (map (journal_name directory) first) (one ∷ []) name
        (among_none_first (map (journal_name directory) first ++ one ∷ []) (map (journal_name directory) rest) name
        (ap (λ ns. is_among ns name) (sym split) ∙ none)))

    -- it is opened too
    pub opening_more : {place : Place D g} {disk' : Text → Option D} {is_out' : Text → Bool} {count' : Text → ℕ}
        → IsPlaceUnder told Disk header disk count one (string_bytes user.name) place → is_out' one ≡ true → SameOthers one is_out is_out'
        → SameOthers one disk disk' → SameNames count count'
        → Opening directory header told Disk disk0 count0 users (i + 1) (places ++ place ∷ []) disk' is_out' count'
    opening_more {place} {disk'} {is_out'} {count'} at out outs disks counts =
        let more : take (i + 1) users ≡ take i users ++ user ∷ [] = take_more users i user low ∙ ap (λ u. take i users ++ u ∷ []) (sym is) in
        let names_are : map place_journal (places ++ place ∷ []) ≡ map place_journal places ++ one ∷ [] =
        map-append place_journal places (place ∷ []) ∙ ap (λ j. map place_journal places ++ j ∷ []) at.journal_is in
        record {
          are = subst (λ us. ArePlacesOf told Disk header directory disk0 count0 us (places ++ place ∷ [])) (sym more)
              (zip_push (λ (u : User) (p : Place D g).
              IsPlaceUnder told Disk header disk0 count0 (journal_name directory (string_bytes u.name)) (string_bytes u.name) p)
              (take i users) places user place so_far.are at_first);
          out = λ name. by_out name (bytes_eq name one) refl
              ∙ sym (ap (λ ns. is_among ns name) names_are ∙ among-append (map place_journal places) (one ∷ []) name);
          disks = λ name none.
              let apart = sym (among-append (map place_journal places) (one ∷ []) name) ∙ sym (ap (λ ns. is_among ns name) names_are) ∙ none in
              disks name (or_first _ _ (or_second (is_among (map place_journal places) name) (bytes_eq name one || false) apart))
              ∙ so_far.disks name (or_first (is_among (map place_journal places) name) (bytes_eq name one || false) apart);
          counts = λ name. counts name ∙ so_far.counts name;
        }
      where
        at_first : IsPlaceUnder told Disk header disk0 count0 one (string_bytes user.name) place
        at_first = record {
          journal_is = at.journal_is;
          named = at.named;
          memory = at.memory;
          taken = at.taken;
          from = λ t. subst (λ o. IsTaken Disk.reads Disk.image o at.taken) (so_far.disks one next_none) (at.from t);
          counted = at.counted ∙ so_far.counts one;
          opened = at.opened;
          sound = at.sound;
          only = at.only;
        }

        or_end : (a : Bool) → (a || (true || false)) ≡ true
        or_end true = refl
        or_end false = refl

        or_none : (a : Bool) → (a || (false || false)) ≡ a
        or_none true = refl
        or_none false = refl

        by_out : (name : Text) (b : Bool) → bytes_eq name one ≡ b
            → is_out' name ≡ (is_among (map place_journal places) name || (bytes_eq name one || false))
        by_out name true same =
            ap is_out' (same_text name one (sym same)) ∙ out
            ∙ sym (ap (λ b. is_among (map place_journal places) name || (b || false)) same ∙ or_end (is_among (map place_journal places) name))
        by_out name false differs =
            outs name differs ∙ so_far.out name
            ∙ sym (ap (λ b. is_among (map place_journal places) name || (b || false)) differs ∙ or_none (is_among (map place_journal places) name))

    -- it was refused, and those before are given back: all is as it was
    pub opening_back : ((d : D) (c : List ℕ) → Disk.image_since d (Disk.moment d) c → Disk.image d c) → (disk' : Text → Option D)
        {disk'' : Text → Option D} (is_out' : Text → Bool) {is_out'' : Text → Bool} (count' : Text → ℕ) {count'' : Text → ℕ}
        → StaysBut told Disk one disk disk' is_out is_out' count count'
        → (all : List (Back D)) → map given_journal all ≡ map place_journal places → map (λ (b : Back D). b.disk) all ≡ map place_disk places
        → AreReturned given_journal (IsGiven told Disk) all disk' disk'' is_out' is_out'' count' count''
        → NoneOpened told Disk (registered_journals directory users) disk0 disk'' is_out'' count0 count''
    opening_back only_now disk' {disk''} is_out' {is_out''} count' {count''} stays all names_are disks_are given = record {
      inside = none_out (map place_journal places) is_out' is_out'' (λ name. stays.out name ∙ so_far.out name)
          (subst (λ l. AllIn l is_out'') names_are given.inside) (subst (λ l. SameBeside l is_out' is_out'') names_are given.others_out);
      same = λ t.
          by_among (StaysUnder Disk disk0 disk'') (map place_journal places)
          (at_names place_journal (StaysUnder Disk disk0 disk'') places
          (same_each directory header told Disk disk0 count0 t disk'' count'' (take i users) places so_far.are under))
          (λ name none. same_through told Disk disk0 disk disk' disk'' name (so_far.disks name none) (stays.same t) (disks name none));
      disks = λ name none. disks name (opening_beside name none) ∙ stays.disks name (next_beside name none)
          ∙ so_far.disks name (opening_beside name none);
      counts = λ name.
          by_among (λ n. count0 n ≤ count'' n) (map place_journal places)
          (at_names place_journal (λ n. count0 n ≤ count'' n) places
          (fell_each directory header told Disk disk0 count0 disk'' count'' (take i users) places so_far.are under))
          (λ n none.
          let was = so_far.counts n in
          let fell = stays.fell n in
          let now = counts n none in
          omega (arith, was, fell, now)) name;
      other_counts = λ name none. counts name (opening_beside name none) ∙ stays.other_counts name (next_beside name none) ∙ so_far.counts name;
    }
      where
        under : AllByRecursion (λ (p : Place D g). IsUnder told Disk disk'' count'' (place_journal p) (place_disk p)) places
        under = zip_same (IsUnder told Disk disk'' count'') place_journal place_disk places
            (under_names told Disk disk'' count'' all (map place_journal places) (map place_disk places) names_are disks_are given.back)

        disks : SameBeside (map place_journal places) disk' disk''
        disks = subst (λ l. SameBeside l disk' disk'') names_are given.disks

        counts : SameBeside (map place_journal places) count' count''
        counts = subst (λ l. SameBeside l count' count'') names_are given.counts
