-- What stands under the names of mirrors, where one is taken or put back.
use Rattle.std.proofs.Common.{◌≡◌, ℕ, zero, suc, Bool, true, false, Option, Some, None, List, []}
use Rattle.std.proofs.Common.{◌∷◌, ◌++◌, get_or, take, drop, map, refl, sym, ap, subst, ◌∙◌, option_map}
use Rattle.std.specs.Prelude.{bytes_eq, position, slice_set, is_some, IfNone, length}
use Rattle.std.specs.List.{slice_get}
use Rattle.std.proofs.Common.{arith}
use Rattle.outside.specs.Dials.{Exchange}
use Rattle.outside.specs.Disk.{HeardNothing}
use Rattle.std.specs.Cmp.Lexicographic.{same_text}
use Rattle.std.proofs.lemmas.Option.{none-some, same_Some}
use Rattle.outside.specs.Shelf.{IsTaken, SameOthers}
use Rattle.standby_core.specs.declared.mirror.Mirror.{Mirror}
use Rattle.standby_core.specs.declared.slot.Place.{Place}
use Rattle.standby_core.specs.declared.slot.Place.TheVariants.{New, Out, Back}
use Rattle.standby_core.specs.declared.slot.Slot.{Slot}
use Rattle.standby_core.specs.Mirrors.{dial_of, texts_of}
use Rattle.standby_core.specs.MirroredDisks.{inner_of, mirrored, heard_by}
use Rattle.standby_core.specs.Named.{first_named}
use Rattle.standby_core.specs.Places.{mirror_in, new_in, faults_in, count_in, is_away}
use Rattle.standby_core.specs.Slots.{slot_name, slot_texts, place_at, made_at, with_made, mirrored_at, SameMade, HavePlaces, HaveMirrors}
use Rattle.standby_core.proofs.Naming.{found, not_found}

-- what holds of a name and of all others holds of all
pub for_all : (P : List ℕ → Type 0) (name : List ℕ) → P name → ((one : List ℕ) → bytes_eq one name ≡ false → P one) → (one : List ℕ) → P one
for_all P name here others one = by (bytes_eq one name) refl
  where
    by : (b : Bool) → bytes_eq one name ≡ b → P one
    by true same = subst P (sym (same_text one name (sym same))) here
    by false differs = others one differs

-- what follows where there is none
pub if_none : {X P Q : Type 0} (o : Option X) → IfNone o P → (P → Q) → IfNone o Q
if_none None p leads = leads p
if_none (Some x) p leads = tt

-- where one name is changed, and has a place then, each disk that is out still has one
pub kept_places : {C : Type 0} {g : _} (name : List ℕ) (is_out is_out' : List ℕ → Bool) (slots slots' : List (Slot C g)) → HavePlaces is_out slots
    → SameOthers name is_out is_out' → SameOthers name (place_at slots) (place_at slots') → is_some (place_at slots' name) ≡ true
    → HavePlaces is_out' slots'
kept_places name is_out is_out' slots slots' there same_out same_places here =
    for_all (λ one. is_out' one ≡ true → is_some (place_at slots' one) ≡ true) name (λ out. here)
    (λ one differs out. ap is_some (same_places one differs) ∙ there one (sym (same_out one differs) ∙ out))

-- where one name is changed, and its mirror isn't out unless its disk is, no other mirror is out
pub kept_mirrors : {C : Type 0} {g : _} (name : List ℕ) (is_out is_out' : List ℕ → Bool) (slots slots' : List (Slot C g)) → HaveMirrors is_out slots
    → SameOthers name is_out is_out' → SameOthers name (place_at slots) (place_at slots')
    → (is_out' name ≡ false → is_away (place_at slots' name) ≡ false)
    → HaveMirrors is_out' slots'
kept_mirrors name is_out is_out' slots slots' back same_out same_places here =
    for_all (λ one. is_out' one ≡ false → is_away (place_at slots' one) ≡ false) name here
    (λ one differs out. ap is_away (same_places one differs) ∙ back one (sym (same_out one differs) ∙ out))

-- what is put in the place of one in a list says the same, where both do
pub set_same : {X Y : Type 0} (f : X → Y) (xs : List X) (place : ℕ) (old new : X) → old ≡ get_or xs place old → f new ≡ f old
    → map f (slice_set xs place new) ≡ map f xs
set_same f [] place old new is same = refl
set_same f (x ∷ xs) zero old new is same = ap (λ y. y ∷ map f xs) (same ∙ ap f is)
set_same f (x ∷ xs) (suc place) old new is same = ap (λ l. f x ∷ l) (set_same f xs place old new is same)

module _ {C : Type 0} {g : _} where
  -- ---- one slot is changed

  -- what stood and stands under a name, and that all others stay
  pub record IsSlotSet (name : List ℕ) (slots : List (Slot C g)) (place : ℕ) (old new : Slot C g) : Type 0 where
    pub was : place_at slots name ≡ Some old.place
    pub now : place_at (slice_set slots place new) name ≡ Some new.place
    pub others : SameOthers name (place_at slots) (place_at (slice_set slots place new))

  pub slot_set : (name : List ℕ) (slots : List (Slot C g)) (place : ℕ) (old new : Slot C g)
      → Some place ≡ position (λ slot. bytes_eq (slot_name slot) name) slots → old ≡ get_or slots place old → slot_name new ≡ slot_name old
      → IsSlotSet name slots place old new
  slot_set name slots place old new is here named =
      let at = found slot_name name slots place old is here in
      record {
        was = ap (λ o. option_map (λ (s : Slot C g). s.place) o) at.is_first;
        now = ap (λ o. option_map (λ (s : Slot C g). s.place) o) (at.set new named);
        others = λ one differs. ap (λ o. option_map (λ (s : Slot C g). s.place) o) (at.others new named one differs);
      }

  -- its mirror was made as it was
  pub made_set : (own address : C → List ℕ) (name : List ℕ) (slots : List (Slot C g)) (place : ℕ) (old new : Slot C g)
      → Some place ≡ position (λ slot. bytes_eq (slot_name slot) name) slots → old ≡ get_or slots place old → slot_name new ≡ slot_name old
      → slot_texts own address new ≡ slot_texts own address old → SameMade own address slots (slice_set slots place new)
  made_set own address name slots place old new is here named made =
      let at = found slot_name name slots place old is here in
      let texts : Option (Slot C g) → Option (List (List ℕ)) = option_map (slot_texts own address) in
      record {
        all = set_same (slot_texts own address) slots place old new here made;
        each = for_all (λ one. made_at own address (slice_set slots place new) one ≡ made_at own address slots one) name
            (ap texts (at.set new named) ∙ ap Some made ∙ sym (ap texts at.is_first))
            (λ one differs. ap texts (at.others new named one differs));
      }

  -- how the mirror of a slot that is found was made
  pub made_there : (own address : C → List ℕ) (name : List ℕ) (slots : List (Slot C g)) (place : ℕ) (old : Slot C g)
      → Some place ≡ position (λ slot. bytes_eq (slot_name slot) name) slots → old ≡ get_or slots place old
      → made_at own address slots name ≡ Some (slot_texts own address old)
  made_there own address name slots place old is here =
      ap (option_map (slot_texts own address)) (found slot_name name slots place old is here).is_first

  -- what says where a disk with a mirror comes from is what does of the mirror, and what does of the disk below
  pub own_parts : (own address : C → List ℕ) (name : List ℕ) (slots : List (Slot C g)) (mirror : Mirror C g) (rest below : List (List ℕ))
      → texts_of own address mirror ++ rest ≡ with_made (made_at own address slots name) below
      → (made_at own address slots name ≡ Some (texts_of own address mirror)) × (rest ≡ below)
  own_parts own address name slots mirror rest below is = by (first_named slot_name slots name) is
    where
      by : (o : Option (Slot C g)) → texts_of own address mirror ++ rest ≡ with_made (option_map (slot_texts own address) o) below
          → (option_map (slot_texts own address) o ≡ Some (texts_of own address mirror)) × (rest ≡ below)
      by None is = absurd cc
      by (Some slot) is = (ap Some (sym (ap (take 5) is)), ap (drop 5) is)

  -- a slot that has a place was made somehow
  pub made_some : (own address : C → List ℕ) (name : List ℕ) (slots : List (Slot C g)) (below : List (List ℕ)) → is_some (place_at slots name) ≡ true
      → [] ≡ with_made (made_at own address slots name) below → ⊥
  made_some own address name slots below some none = by (first_named slot_name slots name) some none
    where
      by : (o : Option (Slot C g)) → is_some (option_map (λ (s : Slot C g). s.place) o) ≡ true
          → [] ≡ with_made (option_map (slot_texts own address) o) below → ⊥
      by None some none = absurd cc
      by (Some slot) some none = absurd cc

  pub no_slot : (name : List ℕ) (slots : List (Slot C g)) → None ≡ position (λ slot. bytes_eq (slot_name slot) name) slots → place_at slots name ≡ None
  no_slot name slots none = ap (λ o. option_map (λ (s : Slot C g). s.place) o) (not_found slot_name name slots none)

  pub no_place : (name : List ℕ) (slots : List (Slot C g)) → None ≡ position (λ slot. bytes_eq (slot_name slot) name) slots
      → is_some (place_at slots name) ≡ true → ⊥
  no_place name slots none some = let clash : true ≡ false = sym some ∙ ap is_some (no_slot name slots none) in absurd cc

  -- ---- what a place says

  pub new_is : (place : Option (Place C g)) (mirror : Mirror C g) → Some mirror ≡ new_in place → place ≡ Some (New mirror)
  new_is (Some (New one)) mirror is = ap (λ m. Some (New m)) (same_Some one mirror (sym is))
  new_is (Some Out) mirror is = absurd (none-some mirror (sym is))
  new_is (Some (Back one)) mirror is = absurd (none-some mirror (sym is))
  new_is None mirror is = absurd (none-some mirror (sym is))

  -- a mirror that is put back unused leaves all as it was
  pub restored : (name : List ℕ) (old mid new : List (Slot C g)) (mirror : Mirror C g) → Some mirror ≡ new_in (place_at old name)
      → SameOthers name (place_at old) (place_at mid) → place_at new name ≡ Some (New mirror) → SameOthers name (place_at mid) (place_at new)
      → (one : List ℕ) → place_at new one ≡ place_at old one
  restored name old mid new mirror taken first put second =
      for_all (λ one. place_at new one ≡ place_at old one) name (put ∙ sym (new_is (place_at old name) mirror taken))
      (λ one differs. second one differs ∙ first one differs)

  -- one that is taken counted no fault
  pub taken_count : (faults : C → ℕ) (name : List ℕ) (old new : List (Slot C g)) (mirror : Mirror C g) → Some mirror ≡ new_in (place_at old name)
      → faults (dial_of mirror) ≡ 0 → place_at new name ≡ Some Out → SameOthers name (place_at old) (place_at new)
      → (one : List ℕ) → faults_in faults (place_at new one) ≡ faults_in faults (place_at old one)
  taken_count faults name old new mirror taken whole out others =
      for_all (λ one. faults_in faults (place_at new one) ≡ faults_in faults (place_at old one)) name
      (ap (faults_in faults) out ∙ sym whole ∙ sym (ap (faults_in faults) (new_is (place_at old name) mirror taken)))
      (λ one differs. ap (faults_in faults) (others one differs))

  -- a disk that was taken, with its mirror
  pub taken_mirrored : {D : Type 0} (reads : D → List ℕ) (image : D → List ℕ → Type 0) (held : Option D) (place : Option (Place C g)) (inner : D)
      (mirror : Mirror C g) → Some mirror ≡ new_in place → IsTaken reads image held inner
      → IsTaken (λ disk. reads (inner_of disk)) (λ disk. image (inner_of disk)) (mirrored_at held place) (mirrored inner (Some mirror))
  taken_mirrored reads image None place inner mirror taken is = is
  taken_mirrored reads image (Some one) place inner mirror taken is =
      λ i. mirrored (is i) (sym (ap mirror_in (new_is place mirror taken)) i)

  -- one that is back, with its mirror
  pub back_mirrored : {D : Type 0} (held : Option D) (place : Option (Place C g)) (inner : D) (mirror : Mirror C g) → held ≡ Some inner
      → place ≡ Some (Back mirror)
      → mirrored_at held place ≡ Some (mirrored inner (Some mirror))
  back_mirrored held place inner mirror is put = λ i. mirrored_at (is i) (put i)

  -- a mirror that exchanged nothing told of no record
  pub silent_heard : (told : Type 0) (exchanged : C → List Exchange) (mirror : Mirror C g) → (told → length (exchanged (dial_of mirror)) ≡ 0)
      → HeardNothing (heard_by told exchanged (Some mirror))
  silent_heard told exchanged mirror silent number one (t, place, it, at, tells) = by (exchanged (dial_of mirror)) (silent t) at
    where
      by : (all : List Exchange) → length all ≡ 0 → slice_get all place ≡ Some it → ⊥
      by [] none at = none-some it at
      by (e ∷ all) none at = omega (arith, none)

  -- where one name is changed, and no disk is there under it unless it is out, the mirrors without disks are still unused
  pub kept_unused : {D : Type 0} (exchanged : C → List Exchange) (name : List ℕ) (disk disk' : List ℕ → Option D) (is_out is_out' : List ℕ → Bool)
      (slots slots' : List (Slot C g))
      → ((one : List ℕ) → disk one ≡ None → is_out one ≡ false → count_in exchanged (place_at slots one) ≡ 0)
      → SameOthers name disk disk' → SameOthers name is_out is_out' → SameOthers name (place_at slots) (place_at slots')
      → (disk' name ≡ None → is_out' name ≡ false → count_in exchanged (place_at slots' name) ≡ 0)
      → (one : List ℕ) → disk' one ≡ None → is_out' one ≡ false → count_in exchanged (place_at slots' one) ≡ 0
  kept_unused exchanged name disk disk' is_out is_out' slots slots' unused disks outs places here =
      for_all (λ one. disk' one ≡ None → is_out' one ≡ false → count_in exchanged (place_at slots' one) ≡ 0) name here
      (λ one differs none inside. ap (count_in exchanged) (places one differs)
      ∙ unused one (sym (disks one differs) ∙ none) (sym (outs one differs) ∙ inside))
