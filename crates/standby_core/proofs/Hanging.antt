-- Dials that are hung up, one after the other.
use Rattle.std.proofs.Common.{◌≡◌, ◌⊎◌, ◌≤◌, ◌<◌, inl, inr, ⊎_elim, max, ℕ, zero, suc, ◌+◌, Bool, true, false, Option, Some, None}
use Rattle.std.proofs.Common.{List, [], ◌∷◌, ◌++◌, length, map, get_or, refl, sym, ap, subst, ◌∙◌}
use Rattle.std.proofs.Common.{arith, append_assoc, append-nil, All, option_map}
use Rattle.std.specs.Prelude.{bytes_eq, if◌then◌else◌}
use Rattle.std.specs.List.{AllByRecursion, AllZip, slice_get}
use Rattle.std.specs.Cmp.Lexicographic.{same_text}
use Rattle.std.proofs.lemmas.Bool.{or_parts, cases_lt}
use Rattle.std.proofs.lemmas.Option.{none-some, same_Some}
use Rattle.std.proofs.lemmas.List.Elements.{recursion_from_All}
use Rattle.std.proofs.lemmas.List.Sums.{sum_by-cons, sum_by-append}
use Rattle.cqe_base.specs.Schema.{contains_text, has_duplicate}
use Rattle.outside.specs.Dials.{Exchange, faults_for}
use Rattle.outside.specs.Shelf.{SameOthers}
use Rattle.log_journal.specs.Walk.{IsNumbered, AreThere}
use Rattle.standby_core.specs.Calls.{IsExchangeOf, TellsOf, IsCallBy, IsCallAmong, IsCallOn, number_answered, greatest_answer, IsAnsweredIn}
use Rattle.standby_core.specs.MirroredDisks.{heard_by}
use Rattle.standby_core.specs.declared.mirror.Mirror.{Mirror}
use Rattle.standby_core.specs.declared.slot.Place.{Place}
use Rattle.standby_core.specs.declared.slot.Place.TheVariants.{New, Out, Back}
use Rattle.standby_core.specs.declared.slot.Slot.{Slot}
use Rattle.standby_core.specs.Mirrors.{dial_of, header_of, user_of, texts_of}
use Rattle.standby_core.specs.Named.{first_named}
use Rattle.standby_core.specs.Places.{mirror_in, faults_in, there_in, exchanged_in, answered_in, texts_or}
use Rattle.standby_core.specs.Slots.{slot_name, slot_texts, slot_answered, place_at, faults_of, there_among, exchanged_among}
use Rattle.standby_core.proofs.There.{Own, own_places}

all_behind : {X : Type 0} (P : X → Type 0) (xs ys : List X) → AllByRecursion P xs → AllByRecursion P ys → AllByRecursion P (xs ++ ys)
all_behind P [] ys first second = second
all_behind P (x ∷ xs) ys first second = (first.0, all_behind P xs ys first.1 second)

pub all_weaker : {X : Type 0} (P Q : X → Type 0) → ((x : X) → P x → Q x) → (xs : List X) → AllByRecursion P xs → AllByRecursion Q xs
all_weaker P Q weaker [] all = tt
all_weaker P Q weaker (x ∷ xs) all = (weaker x all.0, all_weaker P Q weaker xs all.1)

-- texts are compared alike from both sides
turned : (a b : List ℕ) (t : Bool) → bytes_eq a b ≡ t → bytes_eq b a ≡ t
turned a b true is =
    let same : a ≡ b = same_text a b (sym is) in
    ap (λ x. bytes_eq b x) same ∙ ap (λ x. bytes_eq x b) (sym same) ∙ is
turned a b false is = by (bytes_eq b a) refl
  where
    by : (t : Bool) → bytes_eq b a ≡ t → bytes_eq b a ≡ false
    by false differs = differs
    by true alike =
        let same : b ≡ a = same_text b a (sym alike) in
        let clash : true ≡ false = sym alike ∙ ap (λ x. bytes_eq x a) same ∙ ap (λ x. bytes_eq a x) (sym same) ∙ is in
        absurd cc

module _ {C : Type 0} {g : _} where
  -- ---- the last of several

  pub there_last : (front : List (Slot C g)) (last : Slot C g) (slots : List (Slot C g)) → slots ≡ front ++ last ∷ []
      → there_among slots ≡ there_among front + there_in last.place
  there_last front last slots is =
      let whole = ap there_among is in
      let parts = sum_by-append (λ (s : Slot C g). there_in s.place) front (last ∷ []) in
      let one : there_among (last ∷ []) ≡ there_in last.place = omega arith in
      omega (arith, whole, parts, one)

  pub no_slots : (slots : List (Slot C g)) → length slots ≡ 0 → slots ≡ []
  no_slots [] none = refl
  no_slots (slot ∷ slots) none = absurd (omega (arith, none))

  module _ (exchanged : C → List Exchange) where
    exchanged_push : (front : List (Slot C g)) (last : Slot C g)
        → exchanged_among exchanged (front ++ last ∷ []) ≡ exchanged_in exchanged last.place ++ exchanged_among exchanged front
    exchanged_push [] last = sym (append-nil (exchanged_in exchanged last.place))
    exchanged_push (first ∷ front) last =
        ap (λ (l : List Exchange). l ++ exchanged_in exchanged first.place) (exchanged_push front last)
        ∙ append_assoc (exchanged_in exchanged last.place) (exchanged_among exchanged front) (exchanged_in exchanged first.place)

    -- what was exchanged by those that are gone and by those that are left
    pub exchanged_last : (front : List (Slot C g)) (last : Slot C g) (slots : List (Slot C g)) (all gone : List Exchange) → slots ≡ front ++ last ∷ []
        → all ≡ gone ++ exchanged_among exchanged slots → all ≡ (gone ++ exchanged_in exchanged last.place) ++ exchanged_among exchanged front
    exchanged_last front last slots all gone is parts =
        parts ∙ ap (λ (l : List Exchange). gone ++ l) (ap (exchanged_among exchanged) is ∙ exchanged_push front last)
        ∙ sym (append_assoc gone (exchanged_in exchanged last.place) (exchanged_among exchanged front))

  -- ---- faults by names

  module _ (faults : C → ℕ) where
    abbrev at_slot : Slot C g → ℕ
    at_slot slot = faults_in faults (Some slot.place)

    -- none of these has the name
    none_of : (slots : List (Slot C g)) (name : List ℕ) → contains_text (map slot_name slots) name ≡ false → faults_of faults slots name ≡ 0
    none_of [] name none = refl
    none_of (slot ∷ slots) name none =
        let parts = or_parts (bytes_eq name (slot_name slot)) (contains_text (map slot_name slots) name) none in
        let sums = sum_by-cons (faults_for slot_name at_slot name) slot slots in
        let here : faults_for slot_name at_slot name slot ≡ 0 = ap (λ b. if b then at_slot slot else 0) parts.0 in
        let rest = none_of slots name parts.1 in
        omega (arith, sums, here, rest)

    -- where the names differ, each has the faults of one dial
    pub faults_once : (slots : List (Slot C g)) → has_duplicate (map slot_name slots) ≡ false → (name : List ℕ)
        → faults_of faults slots name ≡ faults_in faults (place_at slots name)
    faults_once [] distinct name = refl
    faults_once (slot ∷ slots) distinct name =
        let parts = or_parts (contains_text (map slot_name slots) (slot_name slot)) (has_duplicate (map slot_name slots)) distinct in
        by (bytes_eq (slot_name slot) name) refl parts.0 (faults_once slots parts.1 name)
      where
        by : (b : Bool) → bytes_eq (slot_name slot) name ≡ b → contains_text (map slot_name slots) (slot_name slot) ≡ false
            → faults_of faults slots name ≡ faults_in faults (place_at slots name)
            → faults_of faults (slot ∷ slots) name
            ≡ faults_in faults (option_map (λ (s : Slot C g). s.place) (if b then Some slot else first_named slot_name slots name))
        by true is apart later =
            let sums = sum_by-cons (faults_for slot_name at_slot name) slot slots in
            let here : faults_for slot_name at_slot name slot ≡ at_slot slot =
            ap (λ b. if b then at_slot slot else 0) (turned (slot_name slot) name true is) in
            let rest = none_of slots name (ap (contains_text (map slot_name slots)) (sym (same_text (slot_name slot) name (sym is))) ∙ apart) in
            omega (arith, sums, here, rest)
        by false is apart later =
            let sums = sum_by-cons (faults_for slot_name at_slot name) slot slots in
            let here : faults_for slot_name at_slot name slot ≡ 0 =
            ap (λ b. if b then at_slot slot else 0) (turned (slot_name slot) name false is) in
            omega (arith, sums, here, later)

    -- what one more dial that is hung up adds to the count of a name
    pub one_hung_up : (before now : List ℕ → ℕ) (slot : Slot C g) → now (slot_name slot) ≡ before (slot_name slot) + at_slot slot
        → SameOthers (slot_name slot) before now → (name : List ℕ) → now name ≡ before name + faults_for slot_name at_slot name slot
    one_hung_up before now slot own others name = by (bytes_eq name (slot_name slot)) refl
      where
        by : (b : Bool) → bytes_eq name (slot_name slot) ≡ b → now name ≡ before name + (if b then at_slot slot else 0)
        by true is = subst (λ n. now n ≡ before n + at_slot slot) (sym (same_text name (slot_name slot) (sym is))) own
        by false is = let same = others name is in omega (arith, same)

-- ---- a dial that is hung up, of the mirror in a place

module _ {C : Type 0} {g : _} (own : C → List ℕ) (dial : C) (mirror : Mirror C g) (is : dial ≡ dial_of mirror) (slot : Slot C g) where
  -- it has the name of its place
  pub dial_named : (address : C → List ℕ) → mirror_in (Some slot.place) ≡ Some mirror → own (dial_of slot.made.value) ≡ slot_name slot
      → texts_or own address (slot_texts own address slot) (mirror_in (Some slot.place)) ≡ slot_texts own address slot → own dial ≡ slot_name slot
  dial_named address here named same =
      ap own is ∙ ap first (subst (λ m. texts_or own address (slot_texts own address slot) m ≡ slot_texts own address slot) here same) ∙ named
    where
      first : List (List ℕ) → List ℕ
      first texts = get_or texts 0 []

  -- what is counted under the name
  pub hung_faults : (faults : C → ℕ) (before now : List ℕ → ℕ) → faults (dial_of mirror) ≡ faults_in faults (Some slot.place) → own dial ≡ slot_name slot
      → now (own dial) ≡ before (own dial) + faults dial → now (slot_name slot) ≡ before (slot_name slot) + faults_in faults (Some slot.place)
  hung_faults faults before now count named hung =
      subst (λ n. now n ≡ before n + faults_in faults (Some slot.place)) named (hung ∙ ap (λ k. before (own dial) + k) (ap faults is ∙ count))

  -- and under all others
  pub hung_others : (before now : List ℕ → ℕ) → own dial ≡ slot_name slot → SameOthers (own dial) before now → SameOthers (slot_name slot) before now
  hung_others before now named others = subst (λ n. SameOthers n before now) named others

-- ---- what the dials exchanged

module _ {C : Type 0} {g : _} (own address : C → List ℕ) (exchanged : C → List Exchange)
    (calls : (mirror : Mirror C g) → All (IsExchangeOf (address (dial_of mirror)) (header_of mirror) (user_of mirror)) (exchanged (dial_of mirror)))
    (same : (slot : Slot C g) → texts_or own address (slot_texts own address slot) (mirror_in (Some slot.place)) ≡ slot_texts own address slot) where
  -- the dial in a place called as its mirror was made
  calls_in : (made : List (List ℕ)) (place : Place C g) → texts_or own address made (mirror_in (Some place)) ≡ made
      → AllByRecursion (IsCallBy made) (exchanged_in exchanged place)
  calls_in made (New mirror) is =
      subst (λ t. AllByRecursion (IsCallBy t) (exchanged (dial_of mirror))) is (recursion_from_All _ (exchanged (dial_of mirror)) (calls mirror))
  calls_in made (Back mirror) is =
      subst (λ t. AllByRecursion (IsCallBy t) (exchanged (dial_of mirror))) is (recursion_from_All _ (exchanged (dial_of mirror)) (calls mirror))
  calls_in made Out is = tt

  -- so all of them did
  pub calls_among : (slots : List (Slot C g)) → AllByRecursion (IsCallAmong (map (slot_texts own address) slots)) (exchanged_among exchanged slots)
  calls_among [] = tt
  calls_among (slot ∷ slots) =
      let texts = slot_texts own address slot in
      let made = map (slot_texts own address) slots in
      all_behind (IsCallAmong (texts ∷ made)) (exchanged_among exchanged slots) (exchanged_in exchanged slot.place)
      (all_weaker (IsCallAmong made) (IsCallAmong (texts ∷ made)) (λ one is. (suc is.0, is.1, is.2, is.3)) (exchanged_among exchanged slots)
      (calls_among slots))
      (all_weaker (IsCallBy texts) (IsCallAmong (texts ∷ made)) (λ one is. (0, texts, refl, is)) (exchanged_in exchanged slot.place)
      (calls_in texts slot.place (same slot)))

-- ---- what they were last answered

-- the greatest number was answered in one of the exchanges, if it isn't 0
answered_once : (P : Exchange → Type 0) (all : List Exchange) → AllByRecursion P all → IsAnsweredIn P all (greatest_answer all)
answered_once P [] each = inl refl
answered_once P (one ∷ all) each = by one.answer refl (answered_once P all each.1)
  where
    later : (count : ℕ) → IsAnsweredIn P all count → IsAnsweredIn P (one ∷ all) count
    later count (inl none) = inl none
    later count (inr (place, it, at, is, said)) = inr (suc place, it, at, is, said)

    by : (answer : Option ℕ) → one.answer ≡ answer → IsAnsweredIn P all (greatest_answer all)
        → IsAnsweredIn P (one ∷ all) (max (number_answered one.answer) (greatest_answer all))
    by None none rest =
        let here = ap number_answered none in
        let same : greatest_answer all ≡ max (number_answered one.answer) (greatest_answer all) = omega (arith, here) in
        subst (IsAnsweredIn P (one ∷ all)) same (later (greatest_answer all) rest)
    by (Some count) said rest =
        let here = ap number_answered said in
        ⊎_elim
        (λ (below : greatest_answer all < count).
        let same : count ≡ max (number_answered one.answer) (greatest_answer all) = omega (arith, here, below) in
        subst (IsAnsweredIn P (one ∷ all)) same (inr (0, one, refl, each.0, said)))
        (λ (above : count ≤ greatest_answer all).
        let same : greatest_answer all ≡ max (number_answered one.answer) (greatest_answer all) = omega (arith, here, above) in
        subst (IsAnsweredIn P (one ∷ all)) same (later (greatest_answer all) rest))
        (cases_lt (greatest_answer all) count)

-- what was answered among some was answered among these and more
answered_front : (P : Exchange → Type 0) (xs ys : List Exchange) (count : ℕ) → IsAnsweredIn P xs count → IsAnsweredIn P (xs ++ ys) count
answered_front P xs ys count (inl none) = inl none
answered_front P xs ys count (inr (place, it, at, is, said)) = inr (place, it, in_front xs place at, is, said)
  where
    in_front : (l : List Exchange) (k : ℕ) → slice_get l k ≡ Some it → slice_get (l ++ ys) k ≡ Some it
    in_front [] k at = absurd (none-some it at)
    in_front (x ∷ l) zero at = at
    in_front (x ∷ l) (suc k) at = in_front l k at

answered_behind : (P : Exchange → Type 0) (xs ys : List Exchange) (count : ℕ) → IsAnsweredIn P ys count → IsAnsweredIn P (xs ++ ys) count
answered_behind P [] ys count is = is
answered_behind P (x ∷ xs) ys count is = later (answered_behind P xs ys count is)
  where
    later : IsAnsweredIn P (xs ++ ys) count → IsAnsweredIn P (x ∷ (xs ++ ys)) count
    later (inl none) = inl none
    later (inr (place, it, at, is, said)) = inr (suc place, it, at, is, said)

all_front : (P : List (List ℕ) → Exchange → Type 0) (xs ys : List Exchange) (made : List (List (List ℕ))) (counts : List ℕ)
    → AllZip (λ texts. IsAnsweredIn (P texts) xs) made counts → AllZip (λ texts. IsAnsweredIn (P texts) (xs ++ ys)) made counts
all_front P xs ys [] [] all = tt
all_front P xs ys (texts ∷ made) (count ∷ counts) all =
    (answered_front (P texts) xs ys count all.0, all_front P xs ys made counts all.1)
all_front P xs ys [] (count ∷ counts) all = absurd all
all_front P xs ys (texts ∷ made) [] all = absurd all

module _ {C : Type 0} {g : _} (own address : C → List ℕ) (answered : C → ℕ) (exchanged : C → List Exchange)
    (calls : (mirror : Mirror C g) → All (IsExchangeOf (address (dial_of mirror)) (header_of mirror) (user_of mirror)) (exchanged (dial_of mirror)))
    (same : (slot : Slot C g) → texts_or own address (slot_texts own address slot) (mirror_in (Some slot.place)) ≡ slot_texts own address slot)
    (greatest : (mirror : Mirror C g) → greatest_answer (exchanged (dial_of mirror)) ≡ answered (dial_of mirror)) where
  -- what the dial in a place was last answered
  last_in : (made : List (List ℕ)) (place : Place C g) → AllByRecursion (IsCallBy made) (exchanged_in exchanged place)
      → IsAnsweredIn (IsCallBy made) (exchanged_in exchanged place) (answered_in answered place)
  last_in made (New mirror) each =
      subst (IsAnsweredIn (IsCallBy made) (exchanged (dial_of mirror))) (greatest mirror) (answered_once (IsCallBy made) (exchanged (dial_of mirror)) each)
  last_in made (Back mirror) each =
      subst (IsAnsweredIn (IsCallBy made) (exchanged (dial_of mirror))) (greatest mirror) (answered_once (IsCallBy made) (exchanged (dial_of mirror)) each)
  last_in made Out each = inl refl

  -- and what all were
  pub last_among : (slots : List (Slot C g)) → AllZip (λ texts. IsAnsweredIn (IsCallBy texts) (exchanged_among exchanged slots))
      (map (slot_texts own address) slots) (map (slot_answered answered) slots)
  last_among [] = tt
  last_among (slot ∷ slots) =
      let texts = slot_texts own address slot in (
        answered_behind (IsCallBy texts) (exchanged_among exchanged slots) (exchanged_in exchanged slot.place) (answered_in answered slot.place)
            (last_in texts slot.place (calls_in own address exchanged calls same texts slot.place (same slot))),
        all_front IsCallBy (exchanged_among exchanged slots) (exchanged_in exchanged slot.place) (map (slot_texts own address) slots)
            (map (slot_answered answered) slots) (last_among slots),
      )

-- ---- the records that they told of

all_places : {X : Type 0} (P : X → Type 0) (xs : List X) → ((place : ℕ) (x : X) → slice_get xs place ≡ Some x → P x) → AllByRecursion P xs
all_places P [] each = tt
all_places P (x ∷ xs) each = (each 0 x refl, all_places P xs (λ place one at. each (suc place) one at))

at_place : {X : Type 0} (P : X → Type 0) (xs : List X) (place : ℕ) (x : X) → AllByRecursion P xs → slice_get xs place ≡ Some x → P x
at_place P [] place x all at = absurd (none-some x at)
at_place P (one ∷ xs) zero x all at = subst P (same_Some one x at) all.0
at_place P (one ∷ xs) (suc place) x all at = at_place P xs place x all.1 at

module _ {C : Type 0} {g : _} (told : Type 0) (t : told) (own address : C → List ℕ) (exchanged : C → List Exchange)
    (calls : (mirror : Mirror C g) → All (IsExchangeOf (address (dial_of mirror)) (header_of mirror) (user_of mirror)) (exchanged (dial_of mirror)))
    (same : (slot : Slot C g) → texts_or own address (slot_texts own address slot) (mirror_in (Some slot.place)) ≡ slot_texts own address slot)
    (named : (slot : Slot C g) → own (dial_of slot.made.value) ≡ slot_name slot) (base : List (Slot C g)) (bytes : List ℕ → List ℕ)
    (lie : (name : List ℕ) → AreThere (heard_by told exchanged (mirror_in (place_at base name))) (bytes name)) where
  -- a call of this dial, whose record lies among these bytes
  abbrev LiesOn : List (List ℕ) → List ℕ → Exchange → Type 0
  LiesOn texts there one = (is : IsCallBy texts one) × IsNumbered there one.above (is.kind, is.text)

  lies_of : (there : List ℕ) (mirror : Mirror C g) → AreThere (heard_by told exchanged (Some mirror)) there
      → AllByRecursion (LiesOn (texts_of own address mirror) there) (exchanged (dial_of mirror))
  lies_of there mirror so = all_places (LiesOn (texts_of own address mirror) there) (exchanged (dial_of mirror))
      (λ place one at.
      let is : IsExchangeOf (address (dial_of mirror)) (header_of mirror) (user_of mirror) one =
      at_place (IsExchangeOf (address (dial_of mirror)) (header_of mirror) (user_of mirror)) (exchanged (dial_of mirror)) place one
      (recursion_from_All _ (exchanged (dial_of mirror)) (calls mirror)) at in
      (is, so one.above (is.kind, is.text) (t, place, one, at, record { above = refl; frame = is.frame })))

  lies_in : (there : List ℕ) (made : List (List ℕ)) (place : Place C g) → texts_or own address made (mirror_in (Some place)) ≡ made
      → AreThere (heard_by told exchanged (mirror_in (Some place))) there → AllByRecursion (LiesOn made there) (exchanged_in exchanged place)
  lies_in there made (New mirror) is so = subst (λ m. AllByRecursion (LiesOn m there) (exchanged (dial_of mirror))) is (lies_of there mirror so)
  lies_in there made (Back mirror) is so = subst (λ m. AllByRecursion (LiesOn m there) (exchanged (dial_of mirror))) is (lies_of there mirror so)
  lies_in there made Out is so = tt

  lies_among : (slots : List (Slot C g)) → AllByRecursion (Own base) slots
      → AllByRecursion (IsCallOn (map (slot_texts own address) slots) bytes) (exchanged_among exchanged slots)
  lies_among [] at = tt
  lies_among (slot ∷ slots) at =
      let texts = slot_texts own address slot in
      let made = map (slot_texts own address) slots in
      let here : AllByRecursion (LiesOn texts (bytes (get_or texts 0 []))) (exchanged_in exchanged slot.place) =
      subst (λ n. AllByRecursion (LiesOn texts (bytes n)) (exchanged_in exchanged slot.place)) (sym (named slot))
      (lies_in (bytes (slot_name slot)) texts slot.place (same slot)
      (subst (λ p. AreThere (heard_by told exchanged (mirror_in p)) (bytes (slot_name slot))) at.0 (lie (slot_name slot)))) in
      all_behind (IsCallOn (texts ∷ made) bytes) (exchanged_among exchanged slots) (exchanged_in exchanged slot.place)
      (all_weaker (IsCallOn made bytes) (IsCallOn (texts ∷ made) bytes) (λ one is. (suc is.0, is.1, is.2, is.3, is.4)) (exchanged_among exchanged slots)
      (lies_among slots at.1))
      (all_weaker (LiesOn texts (bytes (get_or texts 0 []))) (IsCallOn (texts ∷ made) bytes) (λ one is. (0, texts, refl, is.0, is.1))
      (exchanged_in exchanged slot.place) here)

  pub lies_all : has_duplicate (map slot_name base) ≡ false
      → AllByRecursion (IsCallOn (map (slot_texts own address) base) bytes) (exchanged_among exchanged base)
  lies_all distinct = lies_among base (own_places base distinct)
