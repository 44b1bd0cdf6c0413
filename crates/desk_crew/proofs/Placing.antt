-- Journals that are tried side by side, place by place.
use Rattle.std.proofs.Common.{◌≡◌, ℕ, suc, ◌≤◌, Bool, false, List, [], ◌∷◌, ◌++◌, length, map, refl, sym, ap, subst, ◌∙◌, arith}
use Rattle.std.specs.Prelude.{Option, Some, None, Ok, Err, IsSome, is_some, string_bytes}
use Rattle.std.specs.List.{AllByRecursion, AllZip, list_any}
use Rattle.std.proofs.lemmas.List.{map-append}
use Rattle.outside.specs.Shelf.{SameBeside, AllOut, AllIn}
use Rattle.outside.specs.declared.disk.Disk.{Ghosts as DiskGhosts}
use Rattle.cqe_base.specs.Schema.{Text, DatabaseSchema, has_duplicate}
use Rattle.cqe_base.specs.Facts.{FactSet}
use Rattle.cqe_base.specs.declared.user.User.{User}
use Rattle.cqe_base.proofs.Truths.{or_first, or_second}
use Rattle.user_desk.specs.declared.standing.DeskError.{DeskError}
use Rattle.desk_crew.specs.Crew.{seat_disk, IsLeftOpen}
use Rattle.desk_crew.specs.Seats.{DeskSeat}
use Rattle.desk_crew.specs.declared.seat.Returned.{Returned}
use Rattle.desk_crew.specs.Side.{DeskPlace, DeskOpening, place_of, at_seat, is_shut, AtDisk, IfAtDisk, IsAtDisk, HasPlace, place_journal, opening_journal}
use Rattle.desk_crew.specs.Side.{opening_journals, place_faults, opening_faults, OpeningsLater, IsShut, IsLeftFrom, IsPutBack, ArePutBack}
use Rattle.desk_crew.specs.Side.{IsPlaced, IsTriedFrom, IsTried, AreTried, IsSeatOn, IsSeatFrom, AreSeatsFrom}
use Rattle.desk_crew.proofs.Shelving.{left_same, left_on}
use Rattle.desk_crew.proofs.Giving.{CanPutBack, WerePutBack}

-- the first of a list, or this, and those behind it
abbrev first_or : {X : Type 0} → X → List X → X
first_or other [] = other
first_or other (x ∷ xs) = x

abbrev all_but_first : {X : Type 0} → List X → List X
all_but_first [] = []
all_but_first (x ∷ xs) = xs

-- two lists, with one more item each
pub zip_push : {A B : Type 0} (R : A → B → Type 0) (xs : List A) (ys : List B) (x : A) (y : B) → AllZip R xs ys → R x y → AllZip R (xs ++ x ∷ []) (ys ++ y ∷ [])
zip_push R [] [] x y are is = (is, tt)
zip_push R [] (b ∷ ys) x y are is = absurd are
zip_push R (a ∷ xs) [] x y are is = absurd are
zip_push R (a ∷ xs) (b ∷ ys) x y are is = (are.0, zip_push R xs ys x y are.1 is)

pub zip_more : {A B : Type 0} (R : A → B → Type 0) (xs : List A) (ys new : List B) (x : A) (y : B) → new ≡ ys ++ y ∷ [] → AllZip R xs ys → R x y
    → AllZip R (xs ++ x ∷ []) new
zip_more R xs ys new x y added are is = subst (AllZip R (xs ++ x ∷ [])) (sym added) (zip_push R xs ys x y are is)

-- two lists that are alike item by item, and a third that says the same as the second
zip_through : {A B C P : Type 0} (R : A → B → Type 0) (S : A → C → Type 0) (f : C → P) (h : B → P) → ((a : A) (b : B) (c : C) → R a b → f c ≡ h b → S a c)
    → (xs : List A) (ys : List B) (zs : List C) → AllZip R xs ys → map f zs ≡ map h ys → AllZip S xs zs
zip_through R S f h step [] [] [] all is = tt
zip_through R S f h step [] [] (z ∷ zs) all is = absurd cc
zip_through R S f h step [] (y ∷ ys) zs all is = absurd all
zip_through R S f h step (x ∷ xs) [] zs all is = absurd all
zip_through R S f h step (x ∷ xs) (y ∷ ys) [] all is = absurd cc
zip_through R S f h step (x ∷ xs) (y ∷ ys) (z ∷ zs) all is =
    (step x y z all.0 (ap (first_or (h y)) is), zip_through R S f h step xs ys zs all.1 (ap all_but_first is))

-- what no item passes, none of the second part does at its front
pub none_next : {X : Type 0} (test : X → Bool) (all read left rest : List X) (x : X) → read ++ left ≡ all → left ≡ x ∷ rest → list_any test all ≡ false
    → test x ≡ false
none_next test all read left rest x so_far next none = by read (ap (list_any test) (ap (λ l. read ++ l) (sym next) ∙ so_far) ∙ none)
  where
    by : (xs : List _) → list_any test (xs ++ x ∷ rest) ≡ false → test x ≡ false
    by [] none = or_first _ _ none
    by (y ∷ xs) none = by xs (or_second _ _ none)

-- ---- one place

module _ {D : Type 0} {g h : _} where
  -- a place, or this one
  abbrev place_or : DeskPlace D g h → Option (DeskPlace D g h) → DeskPlace D g h
  place_or place None = place
  place_or place (Some other) = other

  pub disk_weaker : (P Q : Returned D → Type 0) → ((closed : Returned D) → P closed → Q closed) → (p : Option (DeskPlace D g h)) → AtDisk P p → AtDisk Q p
  disk_weaker P Q weaker None at = absurd at
  disk_weaker P Q weaker (Some (Ok seat)) at = absurd at
  disk_weaker P Q weaker (Some (Err closed)) at = weaker closed at

  -- what follows from two facts of the disk on which a journal is
  pub disk_both : (P Q : Returned D → Type 0) (R : Type 0) → ((closed : Returned D) → P closed → Q closed → R) → (p : Option (DeskPlace D g h)) → AtDisk P p
      → IfAtDisk Q p → R
  disk_both P Q R both None at is = absurd at
  disk_both P Q R both (Some (Ok seat)) at is = absurd at
  disk_both P Q R both (Some (Err closed)) at is = both closed at is

  -- a journal that is on its disk has that place
  disk_placed : (p : Option (DeskPlace D g h)) → AtDisk (λ closed. Unit {0}) p → IsSome p
  disk_placed None at = absurd at
  disk_placed (Some (Ok seat)) at = absurd at
  disk_placed (Some (Err closed)) at = refl

  pub all_disk_placed : (openings : List (DeskOpening D g h)) → AllByRecursion IsAtDisk openings → AllByRecursion HasPlace openings
  all_disk_placed [] at = tt
  all_disk_placed (o ∷ openings) at = (disk_placed o.place at.0, all_disk_placed openings at.1)

  -- one that isn't shut has one too
  pub open_placed : (p : Option (DeskPlace D g h)) → is_shut p ≡ false → IsSome p
  open_placed None unshut = absurd cc
  open_placed (Some place) unshut = refl

  module _ (Disk : DiskGhosts D) where
    -- a disk with which a journal was shut is as it is left there
    pub shut_left : ((d : D) (t : ℕ) (c : List ℕ) → t ≤ Disk.moment d → Disk.image d c → Disk.image_since d t c)
        → ((d : D) (c : List ℕ) → Disk.image_since d (Disk.moment d) c → Disk.image d c) → (place : DeskPlace D g h) (disk : D) → IsShut Disk place disk
        → IsLeftFrom Disk (Some place) disk
    shut_left counts_now only_now (Ok seat) disk shut = record { closed = disk; is_closed = shut; left = left_same Disk counts_now only_now disk }
    shut_left counts_now only_now (Err closed) disk shut =
        subst (λ d. IsLeftOpen Disk closed.disk d) (sym shut) (left_same Disk counts_now only_now closed.disk)

module _ (schema : DatabaseSchema) (world : FactSet) (header : List ℕ) {D : Type 0} {g h : _} (Disk : DiskGhosts D) where
  -- where a journal was tried and its disk is left so, it is as one opening leaves it
  placed_left : (user : User) (journal : Text) (before : Option DeskError) (first : D) (now : DeskPlace D g h) (disk : D)
      → IsPlaced schema world header Disk user journal before first now → IsLeftFrom Disk (Some now) disk → IsLeftOpen Disk first disk
  placed_left user journal before first (Ok seat) disk placed left =
      left_on Disk first (seat_disk seat) disk placed.left
      (subst (λ d. IsLeftOpen Disk d disk) (left.is_closed.still placed.opened.fresh) left.left)
  placed_left user journal before first (Err returned) disk placed left = left_on Disk first returned.disk disk placed.left left

  module _ (user : User) (before : Option DeskError) where
    -- a journal that was tried on its disk keeps its name
    tried_journal : (p q : Option (DeskPlace D g h)) → AtDisk (λ closed. Unit {0}) p → IsTriedFrom schema world header Disk user before p q
        → place_journal q ≡ place_journal p
    tried_journal None q at tried = absurd at
    tried_journal (Some (Ok seat)) q at tried = absurd at
    tried_journal (Some (Err closed)) q at tried = ap place_journal tried.1 ∙ tried.2.journal_is

    tried_placed : (p q : Option (DeskPlace D g h)) → AtDisk (λ closed. Unit {0}) p → IsTriedFrom schema world header Disk user before p q → IsSome q
    tried_placed None q at tried = absurd at
    tried_placed (Some (Ok seat)) q at tried = absurd at
    tried_placed (Some (Err closed)) q at tried = ap is_some tried.1

    -- the count of its disk doesn't fall
    tried_later : (n : ℕ) (p q : Option (DeskPlace D g h)) → AtDisk (λ closed. Unit {0}) p → IsTriedFrom schema world header Disk user before p q
        → n ≤ place_faults Disk.faults p → n ≤ place_faults Disk.faults q
    tried_later n None q at tried least = absurd at
    tried_later n (Some (Ok seat)) q at tried least = absurd at
    tried_later n (Some (Err closed)) q at tried least =
        let on = tried.2.left.later in
        subst (λ o. n ≤ place_faults Disk.faults o) (sym tried.1) (omega (arith, least, on))

    -- where it is open, its seat is that of the opening
    tried_seat : (seat : DeskSeat D g h) (p q : Option (DeskPlace D g h)) → IsTriedFrom schema world header Disk user before p q → at_seat seat ≡ q
        → IfAtDisk (IsSeatOn schema world header Disk user before seat) p
    tried_seat seat None q tried is = tt
    tried_seat seat (Some (Ok other)) q tried is = tt
    tried_seat seat (Some (Err closed)) q tried is =
        let now : tried.0 ≡ Ok seat = ap (place_or tried.0) (sym tried.1 ∙ sym is) in
        let placed : IsPlaced schema world header Disk user (string_bytes closed.journal) before closed.disk (Ok seat) =
        subst (IsPlaced schema world header Disk user (string_bytes closed.journal) before closed.disk) now tried.2 in
        record { user_is = placed.user_is; journal_is = placed.journal_is; opened = placed.opened; left = placed.left }

    -- and where its disk is back, it is as one opening left it
    tried_left : (disk : D) (p q : Option (DeskPlace D g h)) → AtDisk (λ closed. Unit {0}) p → IsTriedFrom schema world header Disk user before p q
        → IsLeftFrom Disk q disk → IsLeftFrom Disk p disk
    tried_left disk None q at tried left = absurd at
    tried_left disk (Some (Ok seat)) q at tried left = absurd at
    tried_left disk (Some (Err closed)) q at tried left =
        placed_left user (string_bytes closed.journal) before closed.disk tried.0 disk tried.2 (subst (λ o. IsLeftFrom Disk o disk) tried.1 left)

  -- ---- all places

  pub all_tried : (olds news : List (DeskOpening D g h)) → length news ≡ length olds → AreTried schema world header Disk olds news
      → AllZip (IsTried schema world header Disk) olds news
  all_tried [] [] many each = tt
  all_tried [] (n ∷ news) many each = absurd (omega (arith, many))
  all_tried (o ∷ olds) [] many each = absurd (omega (arith, many))
  all_tried (o ∷ olds) (n ∷ news) many each =
      (each 0 o (omega arith), all_tried olds news (omega (arith, many)) (λ k d low. each (suc k) d (omega (arith, low))))

  pub tried_journals : (olds news : List (DeskOpening D g h)) → AllByRecursion IsAtDisk olds → AllZip (IsTried schema world header Disk) olds news
      → opening_journals news ≡ opening_journals olds
  tried_journals [] [] at tried = refl
  tried_journals [] (n ∷ news) at tried = absurd tried
  tried_journals (o ∷ olds) [] at tried = absurd tried
  tried_journals (o ∷ olds) (n ∷ news) at tried =
      ap (λ j. j ∷ opening_journals news) (tried_journal o.user.now o.before o.place n.place at.0 tried.0.tried)
      ∙ ap (λ js. opening_journal o ∷ js) (tried_journals olds news at.1 tried.1)

  pub all_placed : (olds news : List (DeskOpening D g h)) → AllByRecursion IsAtDisk olds → AllZip (IsTried schema world header Disk) olds news
      → AllByRecursion HasPlace news
  all_placed [] [] at tried = tt
  all_placed [] (n ∷ news) at tried = absurd tried
  all_placed (o ∷ olds) [] at tried = absurd tried
  all_placed (o ∷ olds) (n ∷ news) at tried =
      (tried_placed o.user.now o.before o.place n.place at.0 tried.0.tried, all_placed olds news at.1 tried.1)

  all_later : (count : Text → ℕ) (olds news : List (DeskOpening D g h)) → AllByRecursion IsAtDisk olds → AllZip (IsTried schema world header Disk) olds news
      → OpeningsLater Disk.faults count olds → OpeningsLater Disk.faults count news
  all_later count [] [] at tried later = tt
  all_later count [] (n ∷ news) at tried later = absurd tried
  all_later count (o ∷ olds) [] at tried later = absurd tried
  all_later count (o ∷ olds) (n ∷ news) at tried later = (
    tried_later o.user.now o.before (count (opening_journal n)) o.place n.place at.0 tried.0.tried
        (subst (λ j. count j ≤ opening_faults Disk.faults o) (sym (tried_journal o.user.now o.before o.place n.place at.0 tried.0.tried)) later.0),
    all_later count olds news at.1 tried.1 later.1,
  )

  -- where all are open, the seats are those of the openings
  pub seats_tried : (olds news : List (DeskOpening D g h)) (seats : List (DeskSeat D g h)) → AllZip (IsTried schema world header Disk) olds news
      → map at_seat seats ≡ map place_of news → AreSeatsFrom schema world header Disk olds seats
  seats_tried olds news seats tried is =
      zip_through (IsTried schema world header Disk) (IsSeatFrom schema world header Disk) at_seat place_of
      (λ o n s one same. tried_seat o.user.now o.before s o.place n.place one.tried same) olds news seats tried is

  back_tried : (told : Type 0) (disk : Text → Option D) (count : Text → ℕ) (olds news : List (DeskOpening D g h)) → AllByRecursion IsAtDisk olds
      → AllZip (IsTried schema world header Disk) olds news → ArePutBack told Disk disk count news → ArePutBack told Disk disk count olds
  back_tried told disk count [] [] at tried back = tt
  back_tried told disk count [] (n ∷ news) at tried back = absurd tried
  back_tried told disk count (o ∷ olds) [] at tried back = absurd tried
  back_tried told disk count (o ∷ olds) (n ∷ news) at tried back =
      let named : opening_journal n ≡ opening_journal o = tried_journal o.user.now o.before o.place n.place at.0 tried.0.tried in (
        record {
          now = back.0.now;
          left = tried_left o.user.now o.before back.0.now o.place n.place at.0 tried.0.tried back.0.left;
          held = λ t. ap disk (sym named) ∙ back.0.held t;
          counted = ap count (sym named) ∙ back.0.counted;
        },
        back_tried told disk count olds news at.1 tried.1 back.1,
      )

  module _ (olds news : List (DeskOpening D g h)) (at : AllByRecursion IsAtDisk olds) (tried : AllZip (IsTried schema world header Disk) olds news) where
    -- journals that were tried can be given back
    pub can_tried : (is_out : Text → Bool) (count : Text → ℕ) → CanPutBack Disk olds is_out count → CanPutBack Disk news is_out count
    can_tried is_out count can = record {
      distinct = ap has_duplicate (tried_journals olds news at tried) ∙ can.distinct;
      out = subst (λ ns. AllOut ns is_out) (sym (tried_journals olds news at tried)) can.out;
      later = all_later count olds news at tried can.later;
    }

    -- and once they were, those that they were are back
    pub returned_tried : (told : Type 0) (disk disk' : Text → Option D) (is_out is_out' : Text → Bool) (count count' : Text → ℕ)
        → WerePutBack told Disk news disk disk' is_out is_out' count count' → WerePutBack told Disk olds disk disk' is_out is_out' count count'
    returned_tried told disk disk' is_out is_out' count count' back =
        let same = tried_journals olds news at tried in
        record {
          back = back_tried told disk' count' olds news at tried back.back;
          inside = subst (λ ns. AllIn ns is_out') same back.inside;
          others_out = subst (λ ns. SameBeside ns is_out is_out') same back.others_out;
          disks = subst (λ ns. SameBeside ns disk disk') same back.disks;
          counts = subst (λ ns. SameBeside ns count count') same back.counts;
        }

-- ---- journals that are given back

module _ {D : Type 0} {g h : _} (told : Type 0) (Disk : DiskGhosts D) where
  -- a journal's disk stays back
  pub put_back_moves : (disk disk' : Text → Option D) (count count' : Text → ℕ) (opening : DeskOpening D g h)
      → disk' (opening_journal opening) ≡ disk (opening_journal opening) → count' (opening_journal opening) ≡ count (opening_journal opening)
      → IsPutBack told Disk disk count opening → IsPutBack told Disk disk' count' opening
  put_back_moves disk disk' count count' opening disks counts back = record {
    now = back.now;
    left = back.left;
    held = λ t. disks ∙ back.held t;
    counted = counts ∙ back.counted;
  }

-- the seats of journals that are all open, with one more
pub seat_more : {D : Type 0} {g h : _} (seats new : List (DeskSeat D g h)) (seat : DeskSeat D g h) (read : List (DeskOpening D g h))
    (opening : DeskOpening D g h) → new ≡ seats ++ seat ∷ [] → place_of opening ≡ at_seat seat → map at_seat seats ≡ map place_of read
    → map at_seat new ≡ map place_of (read ++ opening ∷ [])
seat_more seats new seat read opening added is so_far =
    ap (map at_seat) added ∙ map-append at_seat seats (seat ∷ []) ∙ ap (λ l. l ++ at_seat seat ∷ []) so_far
    ∙ ap (λ p. map place_of read ++ p ∷ []) (sym is) ∙ sym (map-append place_of read (opening ∷ []))
