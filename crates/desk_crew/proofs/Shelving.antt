-- Disks under their names on the shelf: which are out, and which are back.
use Rattle.std.proofs.Common.{◌≡◌, ℕ, ◌≤◌, Bool, true, false, List, [], ◌∷◌, ◌++◌, length, map, refl, sym, ap, subst, ◌∙◌, append_assoc, append-nil, arith}
use Rattle.std.specs.Prelude.{Option, Some, ◌||◌, bytes_eq}
use Rattle.std.specs.List.{AllByRecursion, list_any}
use Rattle.std.specs.Cmp.Lexicographic.{same_text}
use Rattle.std.proofs.Math.Bool.{or-false}
use Rattle.std.proofs.lemmas.Bool.{or_from, or_left, or_right}
use Rattle.std.proofs.lemmas.List.{map-append}
use Rattle.outside.specs.Shelf.{SameOthers, is_among, SameBeside, AllOut, AllIn, AreOut, NoneOut, NoneFell}
use Rattle.outside.specs.declared.disk.Disk.{Ghosts as DiskGhosts}
use Rattle.outside.proofs.Moments.{elapses_none, elapses_then, over_both}
use Rattle.cqe_base.specs.Schema.{Text, has_duplicate}
use Rattle.cqe_base.proofs.Truths.{or_first, or_second}
use Rattle.cqe_base.proofs.Lists.{or_assoc, text_is}
use Rattle.std.proofs.lemmas.List.Folds.{list_any-append}
use Rattle.desk_crew.specs.Crew.{seat_journal, seat_broke, IsLeftOpen, IsClosed}
use Rattle.desk_crew.specs.Shelved.{IsBack}
use Rattle.desk_crew.specs.Seats.{DeskSeat}

-- ---- names

pub among-append : (xs ys : List Text) (name : Text) → is_among (xs ++ ys) name ≡ (is_among xs name || is_among ys name)
among-append [] ys name = refl
among-append (x ∷ xs) ys name =
    ap (λ b. bytes_eq name x || b) (among-append xs ys name) ∙ sym (or_assoc (bytes_eq name x) (is_among xs name) (is_among ys name))

-- a name of a part is among the whole
pub among_second : (xs ys : List Text) (name : Text) → is_among ys name ≡ true → is_among (xs ++ ys) name ≡ true
among_second xs ys name is = among-append xs ys name ∙ or_right _ _ is

pub among_none_first : (xs ys : List Text) (name : Text) → is_among (xs ++ ys) name ≡ false → is_among xs name ≡ false
among_none_first xs ys name none = or_first _ _ (sym (among-append xs ys name) ∙ none)

pub among_none_second : (xs ys : List Text) (name : Text) → is_among (xs ++ ys) name ≡ false → is_among ys name ≡ false
among_none_second xs ys name none = or_second _ _ (sym (among-append xs ys name) ∙ none)

-- no name of the first is among the second
abbrev pub Apart : List Text → List Text → Type 0
Apart xs ys = (name : Text) → is_among xs name ≡ true → is_among ys name ≡ false

pub record Parts (xs ys : List Text) : Type 0 where
  pub first : has_duplicate xs ≡ false
  pub second : has_duplicate ys ≡ false
  pub apart : Apart xs ys
  pub apart_back : Apart ys xs

apart_cons : (x : Text) (xs ys : List Text) → is_among ys x ≡ false → Apart xs ys → Apart (x ∷ xs) ys
apart_cons x xs ys none apart name is = by (bytes_eq name x) refl
  where
    by : (b : Bool) → bytes_eq name x ≡ b → is_among ys name ≡ false
    by true same = ap (is_among ys) (same_text name x (sym same)) ∙ none
    by false differ = apart name (sym (ap (λ b. b || is_among xs name) differ) ∙ is)

pub apart_turned : (xs ys : List Text) → Apart xs ys → Apart ys xs
apart_turned xs ys apart name is = by (is_among xs name) refl
  where
    by : (b : Bool) → is_among xs name ≡ b → is_among xs name ≡ false
    by true among = let e : true ≡ false = sym is ∙ apart name among in absurd cc
    by false none = none

-- names that differ, in two parts
pub parts : (xs ys : List Text) → has_duplicate (xs ++ ys) ≡ false → Parts xs ys
parts [] ys distinct = record { first = refl; second = distinct; apart = λ name is. absurd cc; apart_back = λ name is. refl }
parts (x ∷ xs) ys distinct =
    let rest : Parts xs ys = parts xs ys (or_second _ _ distinct) in
    let none : is_among (xs ++ ys) x ≡ false = or_first _ _ distinct in
    let apart = apart_cons x xs ys (among_none_second xs ys x none) rest.apart in
    record { first = or_from _ _ (among_none_first xs ys x none) rest.first; second = rest.second; apart = apart; apart_back = apart_turned (x ∷ xs) ys apart }

pub beside_one : {A : Type 0} (one : Text) (names : List Text) (old new : Text → A) → is_among names one ≡ false → SameOthers one old new → (name : Text)
    → is_among names name ≡ true → new name ≡ old name
beside_one one names old new none others name is = others name (by (bytes_eq name one) refl)
  where
    by : (b : Bool) → bytes_eq name one ≡ b → b ≡ false
    by false differ = refl
    by true same = let e : true ≡ false = sym is ∙ ap (is_among names) (same_text name one (sym same)) ∙ none in absurd cc

-- what is the same beside names is the same beside more of them
pub beside_more : {A : Type 0} (one : Text) (names : List Text) (first old new : Text → A) → SameBeside names first old → SameOthers one old new
    → SameBeside (one ∷ names) first new
beside_more one names first old new before now name none = now name (or_first _ _ none) ∙ before name (or_second _ _ none)

-- whether an append failed at one of the seats, by those that are left and by those that were closed
or_moved : (a b c : Bool) → ((a || (b || false)) || c) ≡ (a || (c || b))
or_moved true b c = refl
or_moved false true true = refl
or_moved false true false = refl
or_moved false false true = refl
or_moved false false false = refl

module _ {D : Type 0} {g h : _} where
  pub broke_none : (seats : List (DeskSeat D g h)) → list_any seat_broke seats ≡ (list_any seat_broke seats || false)
  broke_none seats = sym (or-false (list_any seat_broke seats))

  pub broke_all : (seats : List (DeskSeat D g h)) (total so_far : Bool) → length seats ≡ 0 → total ≡ (list_any seat_broke seats || so_far) → so_far ≡ total
  broke_all [] total so_far none known = sym known
  broke_all (seat ∷ seats) total so_far none known = absurd (omega (arith, none))

  pub broke_more : (front : List (DeskSeat D g h)) (seat : DeskSeat D g h) (before : List (DeskSeat D g h)) (total broke so_far : Bool)
      → before ≡ front ++ seat ∷ []
      → total ≡ (list_any seat_broke before || so_far) → broke ≡ seat_broke seat → total ≡ (list_any seat_broke front || (so_far || broke))
  broke_more front seat before total broke so_far is known here =
      known ∙ ap (λ b. b || so_far) (ap (list_any seat_broke) is ∙ list_any-append seat_broke front (seat ∷ []))
      ∙ or_moved (list_any seat_broke front) (seat_broke seat) so_far ∙ ap (λ b. list_any seat_broke front || (so_far || b)) (sym here)

module _ {D : Type 0} (Disk : DiskGhosts D) where
  pub left_same : ((d : D) (t : ℕ) (c : List ℕ) → t ≤ Disk.moment d → Disk.image d c → Disk.image_since d t c)
      → ((d : D) (c : List ℕ) → Disk.image_since d (Disk.moment d) c → Disk.image d c) → (d : D) → IsLeftOpen Disk d d
  left_same counts_now only_now d = record {
    reads_same = refl;
    images = λ c is. is;
    later = omega arith;
    comes = refl;
    still_told = omega arith;
    there = λ tells all. all;
    time = elapses_none (Disk.moment d) (Disk.image_since d) (Disk.image d) (counts_now d) (only_now d);
    rests = only_now d;
  }

  pub left_on : (a b c : D) → IsLeftOpen Disk a b → IsLeftOpen Disk b c → IsLeftOpen Disk a c
  left_on a b c first second = record {
    reads_same = second.reads_same ∙ first.reads_same;
    images = λ bytes is. first.images bytes (second.images bytes is);
    later = omega (arith, first.later, second.later);
    comes = second.comes ∙ first.comes;
    still_told = omega (arith, first.still_told, second.still_told);
    there = λ tells all. second.there tells (first.there tells all);
    time = elapses_then (Disk.moment a) (Disk.moment b) (Disk.moment c) (Disk.image_since a) (Disk.image_since b) (Disk.image_since c) first.time
        second.time;
    rests = over_both (Disk.moment a) (Disk.moment b) (Disk.moment c) (Disk.image_since b) (Disk.image_since c) (Disk.image a) first.time.later second.time
        first.rests
        (λ bytes here. first.images bytes (second.rests bytes here));
  }

-- what holds of the names of some and of all others holds of each
pub by_among : (P : Text → Type 0) (ns : List Text) → ((name : Text) → is_among ns name ≡ true → P name) → ((name : Text) → is_among ns name ≡ false → P name)
    → (name : Text) → P name
by_among P ns inside beside name = by (is_among ns name) refl
  where
    by : (b : Bool) → is_among ns name ≡ b → P name
    by true among = inside name among
    by false none = beside name none

-- none is out once all are back
pub none_out : (ns : List Text) (is_out is_out' : Text → Bool) → AreOut ns is_out → AllIn ns is_out' → SameBeside ns is_out is_out' → NoneOut is_out'
none_out ns is_out is_out' are inside others =
    by_among (λ name. is_out' name ≡ false) ns inside (λ name none. others name none ∙ are name ∙ none)

-- no count fell, where those of these names didn't
pub none_fell : (ns : List Text) (count count' : Text → ℕ) → ((name : Text) → is_among ns name ≡ true → count name ≤ count' name) → SameBeside ns count count'
    → NoneFell count count'
none_fell ns count count' rises others =
    by_among (λ name. count name ≤ count' name) ns rises (λ name none. subst (λ n. count name ≤ n) (sym (others name none)) (omega arith))

-- the second part of a list of which something holds
pub all_second : {X : Type 0} (P : X → Type 0) (xs : List X) (x : X) (ys all : List X) → all ≡ xs ++ x ∷ ys → AllByRecursion P all → P x
all_second P xs x ys all is holds = by xs (subst (AllByRecursion P) is holds)
  where
    by : (zs : List _) → AllByRecursion P (zs ++ x ∷ ys) → P x
    by [] holds = holds.0
    by (z ∷ zs) holds = by zs holds.1

-- ---- what has a name on the shelf, each under its own

at_one : (P : Text → Type 0) (own one : Text) → P own → (b : Bool) → bytes_eq one own ≡ b → (bytes_eq one own ≡ false → P one) → P one
at_one P own one is true same more = subst P (sym (same_text one own (sym same))) is
at_one P own one is false differs more = more differs

module _ {X : Type 0} (name : X → Text) where
  -- what holds at the name of each holds at all of these names
  pub at_names : (P : Text → Type 0) (xs : List X) → AllByRecursion (λ x. P (name x)) xs → (one : Text) → is_among (map name xs) one ≡ true → P one
  at_names P [] are one among = absurd cc
  at_names P (x ∷ xs) are one among =
      at_one P (name x) one are.0 (bytes_eq one (name x)) refl
      (λ differs. at_names P xs are.1 one (sym (ap (λ b. b || is_among (map name xs) one) differs) ∙ among))

module _ {D X : Type 0} (name : X → Text) (Back : (Text → Option D) → (Text → ℕ) → X → Type 0) (all : List X) (disk0 : Text → Option D) (out0 : Text → Bool)
    (count0 : Text → ℕ) where
  -- the disks of the last ones are back
  pub record Given (left : List X) (disk : Text → Option D) (is_out : Text → Bool) (count : Text → ℕ) : Type 0 where
    pub given : List X
    pub split : all ≡ left ++ given
    pub back : AllByRecursion (Back disk count) given
    pub inside : AllIn (map name given) is_out
    pub others_out : SameBeside (map name given) out0 is_out
    pub disks : SameBeside (map name given) disk0 disk
    pub counts : SameBeside (map name given) count0 count

  pub given_none : Given all disk0 out0 count0
  given_none = record {
    given = [];
    split = sym (append-nil all);
    back = tt;
    inside = λ one is. absurd cc;
    others_out = λ one none. refl;
    disks = λ one none. refl;
    counts = λ one none. refl;
  }

  module _ (least : X → ℕ) (distinct : has_duplicate (map name all) ≡ false) (out : AllOut (map name all) out0)
      (later : AllByRecursion (λ x. count0 (name x) ≤ least x) all) where
    pub record Next (x : X) (given : List X) : Type 0 where
      pub apart : is_among (map name given) (name x) ≡ false
      pub among : is_among (map name all) (name x) ≡ true
      pub counted : count0 (name x) ≤ least x

    pub next_of : (left : List X) (x : X) (given : List X) → all ≡ (left ++ x ∷ []) ++ given → Next x given
    next_of left x given split =
        let whole : all ≡ left ++ (x ∷ given) = split ∙ append_assoc left (x ∷ []) given in
        let names : map name all ≡ map name left ++ (name x ∷ map name given) = ap (map name) whole ∙ map-append name left (x ∷ given) in
        let two : Parts (map name left) (name x ∷ map name given) =
        parts (map name left) (name x ∷ map name given) (ap has_duplicate (sym names) ∙ distinct) in
        record {
          apart = or_first _ _ two.second;
          among = ap (λ ns. is_among ns (name x)) names
              ∙ among_second (map name left) (name x ∷ map name given) (name x) (or_left _ _ (text_is (name x)));
          counted = all_second (λ y. count0 (name y) ≤ least y) left x given all whole later;
        }

    -- the next disk is out, and its count didn't fall
    pub given_out : (left before : List X) (x : X) (disk : Text → Option D) (is_out : Text → Bool) (count : Text → ℕ) → before ≡ left ++ x ∷ []
        → Given before disk is_out count → is_out (name x) ≡ true
    given_out left before x disk is_out count is so_far =
        let next : Next x so_far.given = next_of left x so_far.given (so_far.split ∙ ap (λ l. l ++ so_far.given) is) in
        so_far.others_out (name x) next.apart ∙ out (name x) next.among

    pub given_later : (left before : List X) (x : X) (disk : Text → Option D) (is_out : Text → Bool) (count : Text → ℕ) → before ≡ left ++ x ∷ []
        → Given before disk is_out count → count (name x) ≤ least x
    given_later left before x disk is_out count is so_far =
        let next : Next x so_far.given = next_of left x so_far.given (so_far.split ∙ ap (λ l. l ++ so_far.given) is) in
        subst (λ n. n ≤ least x) (sym (so_far.counts (name x) next.apart)) next.counted

    -- one more is back; what is back stays so where its name has the same as before
    pub given_more : ((disk disk' : Text → Option D) (count count' : Text → ℕ) (x : X) → disk' (name x) ≡ disk (name x) → count' (name x) ≡ count (name x)
        → Back disk count x → Back disk' count' x)
        → (left before : List X) (x : X) (disk disk' : Text → Option D) (is_out is_out' : Text → Bool) (count count' : Text → ℕ) (one : Text) → one ≡ name x
        → before ≡ left ++ x ∷ [] → Given before disk is_out count → Back disk' count' x → SameOthers one disk disk' → is_out' one ≡ false
        → SameOthers one is_out is_out' → SameOthers one count count' → Given left disk' is_out' count'
    given_more moves left before x disk disk' is_out is_out' count count' one named is so_far back disks inside outs counts =
        let given = so_far.given in
        let split : all ≡ (left ++ x ∷ []) ++ given = so_far.split ∙ ap (λ l. l ++ given) is in
        let next : Next x given = next_of left x given split in
        let apart : is_among (map name given) one ≡ false = ap (is_among (map name given)) named ∙ next.apart in
        record {
          given = x ∷ given;
          split = split ∙ append_assoc left (x ∷ []) given;
          back = (
            back,
            stays given (beside_one one (map name given) disk disk' apart disks) (beside_one one (map name given) count count' apart counts) so_far.back,
          );
          inside = λ n among. by n (bytes_eq n (name x)) refl among;
          others_out = subst (λ n. SameBeside (n ∷ map name given) out0 is_out') named (beside_more one (map name given) out0 is_out is_out'
              so_far.others_out outs);
          disks = subst (λ n. SameBeside (n ∷ map name given) disk0 disk') named (beside_more one (map name given) disk0 disk disk' so_far.disks disks);
          counts = subst (λ n. SameBeside (n ∷ map name given) count0 count') named (beside_more one (map name given) count0 count count' so_far.counts counts);
        }
      where
        stays : (xs : List X) → ((n : Text) → is_among (map name xs) n ≡ true → disk' n ≡ disk n)
            → ((n : Text) → is_among (map name xs) n ≡ true → count' n ≡ count n)
            → AllByRecursion (Back disk count) xs → AllByRecursion (Back disk' count') xs
        stays [] ds cs are = tt
        stays (y ∷ ys) ds cs are =
            let here : is_among (map name (y ∷ ys)) (name y) ≡ true = or_left _ _ (text_is (name y)) in (
              moves disk disk' count count' y (ds (name y) here) (cs (name y) here) are.0,
              stays ys (λ n among. ds n (or_right _ _ among)) (λ n among. cs n (or_right _ _ among)) are.1,
            )

        by : (n : Text) (b : Bool) → bytes_eq n (name x) ≡ b → is_among (map name (x ∷ so_far.given)) n ≡ true → is_out' n ≡ false
        by n true same among = ap is_out' (same_text n (name x) (sym same) ∙ sym named) ∙ inside
        by n false differ among =
            outs n (ap (bytes_eq n) named ∙ differ) ∙ so_far.inside n (sym (ap (λ b. b || is_among (map name so_far.given) n) differ) ∙ among)

-- ---- seats

module _ {D : Type 0} {g h : _} (told : Type 0) (Disk : DiskGhosts D) where
  -- a seat's disk stays back
  pub back_moves : (disk disk' : Text → Option D) (count count' : Text → ℕ) (seat : DeskSeat D g h) → disk' (seat_journal seat) ≡ disk (seat_journal seat)
      → count' (seat_journal seat) ≡ count (seat_journal seat) → IsBack told Disk disk count seat → IsBack told Disk disk' count' seat
  back_moves disk disk' count count' seat disks counts back = record {
    now = back.now;
    left = back.left;
    held = λ t. disks ∙ back.held t;
    counted = counts ∙ back.counted;
  }

  -- it is back as its desk left it
  pub back_closed : ((d : D) (t : ℕ) (c : List ℕ) → t ≤ Disk.moment d → Disk.image d c → Disk.image_since d t c)
      → ((d : D) (c : List ℕ) → Disk.image_since d (Disk.moment d) c → Disk.image d c) → (disk : Text → Option D) (count : Text → ℕ) (seat : DeskSeat D g h)
      → (now : D) → IsClosed Disk seat.desk now → (one : Text) → one ≡ seat_journal seat → (told → disk one ≡ Some now) → count one ≡ Disk.faults now
      → IsBack told Disk disk count seat
  back_closed counts_now only_now disk count seat now closed one named held counted = record {
    now = now;
    left = record { closed = now; is_closed = closed; left = left_same Disk counts_now only_now now };
    held = λ t. ap disk (sym named) ∙ held t;
    counted = ap count (sym named) ∙ counted;
  }
