-- Mirrors that are there, and not out.
use Rattle.std.proofs.Common.{◌≡◌, ◌≤◌, ℕ, ◌+◌, Bool, true, false, Option, Some, None, List, [], ◌∷◌, length, map, get_or, refl, sym, ap, subst, inl}
use Rattle.std.proofs.Common.{◌∙◌, arith, option_map}
use Rattle.std.specs.Prelude.{bytes_eq, if◌then◌else◌}
use Rattle.std.specs.List.{AllByRecursion, AllZip}
use Rattle.std.specs.Cmp.Lexicographic.{same_text}
use Rattle.std.proofs.lemmas.Bool.{or_parts}
use Rattle.std.proofs.lemmas.List.{length-map}
use Rattle.std.proofs.lemmas.List.Sums.{sum_by-cons}
use Rattle.cqe_base.specs.Schema.{contains_text, has_duplicate}
use Rattle.cqe_base.proofs.Lists.{text_is}
use Rattle.outside.specs.Dials.{Exchange}
use Rattle.standby_core.specs.declared.slot.Place.{Place}
use Rattle.standby_core.specs.declared.slot.Place.TheVariants.{New, Out, Back}
use Rattle.standby_core.specs.declared.slot.Slot.{Slot}
use Rattle.standby_core.specs.Calls.{IsAnsweredIn}
use Rattle.standby_core.specs.Mirrors.{dial_of}
use Rattle.standby_core.specs.Named.{first_named}
use Rattle.standby_core.specs.Places.{there_in, answered_in, is_away}
use Rattle.standby_core.specs.Slots.{slot_name, slot_texts, slot_answered, place_at, marks_told, there_among, AreUnused}

module _ {C : Type 0} {g : _} where
  not_away : (place : Place C g) → there_in place ≡ 1 → is_away (Some place) ≡ false
  not_away (New mirror) there = refl
  not_away (Back mirror) there = refl
  not_away Out there = absurd (omega (arith, there))

  is_there : (place : Place C g) → is_away (Some place) ≡ false → there_in place ≡ 1
  is_there (New mirror) none = refl
  is_there (Back mirror) none = refl
  is_there Out none = absurd cc

  -- none of those is out that weren't taken yet
  pub unused_there : (told : Type 0) (faults : C → ℕ) (exchanged : C → List Exchange) (slots : List (Slot C g)) → AreUnused told faults exchanged slots
      → (name : List ℕ) → is_away (place_at slots name) ≡ false
  unused_there told faults exchanged [] all name = refl
  unused_there told faults exchanged (slot ∷ slots) all name =
      by (bytes_eq (slot_name slot) name) (unused_there told faults exchanged slots all.1 name)
    where
      by : (b : Bool) → is_away (place_at slots name) ≡ false
          → is_away (option_map (λ (s : Slot C g). s.place) (if b then Some slot else first_named slot_name slots name)) ≡ false
      by true rest = not_away slot.place all.0.there
      by false rest = rest

  -- nothing stands under a name that none of them has
  none_at : (slots : List (Slot C g)) (name : List ℕ) → contains_text (map slot_name slots) name ≡ false → is_away (place_at slots name) ≡ false
  none_at [] name none = refl
  none_at (slot ∷ slots) name none =
      let parts = or_parts (bytes_eq name (slot_name slot)) (contains_text (map slot_name slots) name) none in
      by (bytes_eq (slot_name slot) name) refl parts.0 (none_at slots name parts.1)
    where
      by : (b : Bool) → bytes_eq (slot_name slot) name ≡ b → bytes_eq name (slot_name slot) ≡ false → is_away (place_at slots name) ≡ false
          → is_away (option_map (λ (s : Slot C g). s.place) (if b then Some slot else first_named slot_name slots name)) ≡ false
      by true is other rest =
          let same : slot_name slot ≡ name = same_text (slot_name slot) name (sym is) in
          let clash : true ≡ false = sym (text_is name) ∙ ap (bytes_eq name) (sym same) ∙ other in
          absurd cc
      by false is other rest = rest

  -- where the names differ and none is out, all are there
  pub all_there : (slots : List (Slot C g)) → has_duplicate (map slot_name slots) ≡ false → ((name : List ℕ) → is_away (place_at slots name) ≡ false)
      → there_among slots ≡ length slots
  all_there [] distinct none = refl
  all_there (slot ∷ slots) distinct none =
      let parts = or_parts (contains_text (map slot_name slots) (slot_name slot)) (has_duplicate (map slot_name slots)) distinct in
      let here : there_in slot.place ≡ 1 =
      is_there slot.place (first (bytes_eq (slot_name slot) (slot_name slot)) (text_is (slot_name slot)) (none (slot_name slot))) in
      let sums = sum_by-cons (λ (s : Slot C g). there_in s.place) slot slots in
      let rest = all_there slots parts.1 (λ name. later name (bytes_eq (slot_name slot) name) refl parts.0 (none name)) in
      omega (arith, here, sums, rest)
    where
      first : (b : Bool) → b ≡ true
          → is_away (option_map (λ (s : Slot C g). s.place) (if b then Some slot else first_named slot_name slots (slot_name slot))) ≡ false
          → is_away (Some slot.place) ≡ false
      first true is there = there
      first false is there = absurd cc

      later : (name : List ℕ) (b : Bool) → bytes_eq (slot_name slot) name ≡ b → contains_text (map slot_name slots) (slot_name slot) ≡ false
          → is_away (option_map (λ (s : Slot C g). s.place) (if b then Some slot else first_named slot_name slots name)) ≡ false
          → is_away (place_at slots name) ≡ false
      later name true is apart there =
          none_at slots name (ap (contains_text (map slot_name slots)) (sym (same_text (slot_name slot) name (sym is))) ∙ apart)
      later name false is apart there = there

  -- ---- dials for all of them, which are hung up

  many : (own address : C → List ℕ) (old new : List (Slot C g)) → map (slot_texts own address) new ≡ map (slot_texts own address) old
      → length new ≡ length old
  many own address old new made =
      sym (length-map new (slot_texts own address)) ∙ ap length made ∙ length-map old (slot_texts own address)

  -- there are as many as the links wait for
  pub all_dialling : (own address : C → List ℕ) (old new : List (Slot C g)) → map (slot_texts own address) new ≡ map (slot_texts own address) old
      → (before mid : ℕ) → mid ≡ before + length old → there_among new ≡ length new → there_among new ≤ mid
  all_dialling own address old new made before mid more there =
      let same = many own address old new made in
      omega (arith, more, there, same)

  -- and then they wait for as many as before
  pub all_hung_up : (own address : C → List ℕ) (old new : List (Slot C g)) → map (slot_texts own address) new ≡ map (slot_texts own address) old
      → (before mid last : ℕ) → mid ≡ before + length old → there_among new ≡ length new → mid ≡ last + there_among new → last ≡ before
  all_hung_up own address old new made before mid last more there less =
      let same = many own address old new made in
      omega (arith, more, there, same, less)

-- ---- what stands under the names of several

module _ {C : Type 0} {g : _} where
  abbrev pub Own : List (Slot C g) → Slot C g → Type 0
  Own base slot = place_at base (slot_name slot) ≡ Some slot.place

  own_behind : (first : Slot C g) (base slots : List (Slot C g)) → contains_text (map slot_name slots) (slot_name first) ≡ false
      → AllByRecursion (Own base) slots → AllByRecursion (Own (first ∷ base)) slots
  own_behind first base [] none all = tt
  own_behind first base (slot ∷ slots) none all =
      let parts = or_parts (bytes_eq (slot_name first) (slot_name slot)) (contains_text (map slot_name slots) (slot_name first)) none in (
        ap (λ b. option_map (λ (s : Slot C g). s.place) (if b then Some first else first_named slot_name base (slot_name slot))) parts.0 ∙ all.0,
        own_behind first base slots parts.1 all.1,
      )

  -- where the names differ, each stands under its own
  pub own_places : (slots : List (Slot C g)) → has_duplicate (map slot_name slots) ≡ false → AllByRecursion (Own slots) slots
  own_places [] distinct = tt
  own_places (slot ∷ slots) distinct =
      let parts = or_parts (contains_text (map slot_name slots) (slot_name slot)) (has_duplicate (map slot_name slots)) distinct in (
        ap (λ b. option_map (λ (s : Slot C g). s.place) (if b then Some slot else first_named slot_name slots (slot_name slot)))
            (text_is (slot_name slot)),
        own_behind slot slots slots parts.0 (own_places slots parts.1),
      )

  module _ {D : Type 0} (own address : C → List ℕ) (answered : C → ℕ) (disk : List ℕ → Option D) (base : List (Slot C g))
      (none : (name : List ℕ) → is_away (place_at base name) ≡ false) (named : (slot : Slot C g) → own (dial_of slot.made.value) ≡ slot_name slot)
      (Of : List (List ℕ) → Exchange → Type 0) (all : List Exchange) where
    abbrev marks : List ℕ → ℕ
    marks name = marks_told answered (disk name) (place_at base name)

    -- of a disk whose mirror is there so many marks may be told as its dial was answered
    marks_of : (o : Option D) (place : Place C g) (texts : List (List ℕ)) → is_away (Some place) ≡ false
        → IsAnsweredIn (Of texts) all (answered_in answered place) → IsAnsweredIn (Of texts) all (marks_told answered o (Some place))
    marks_of None place texts there is = inl refl
    marks_of (Some d) (New mirror) texts there is = is
    marks_of (Some d) (Back mirror) texts there is = is
    marks_of (Some d) Out texts there is = absurd cc

    marks_among : (slots : List (Slot C g)) → AllByRecursion (Own base) slots
        → AllZip (λ texts. IsAnsweredIn (Of texts) all) (map (slot_texts own address) slots) (map (slot_answered answered) slots)
        → AllByRecursion (λ texts. IsAnsweredIn (Of texts) all (marks (get_or texts 0 []))) (map (slot_texts own address) slots)
    marks_among [] at answers = tt
    marks_among (slot ∷ slots) at answers = (
      subst (λ n. IsAnsweredIn (Of (slot_texts own address slot)) all (marks n)) (sym (named slot))
          (subst (λ p. IsAnsweredIn (Of (slot_texts own address slot)) all (marks_told answered (disk (slot_name slot)) p)) (sym at.0)
          (marks_of (disk (slot_name slot)) slot.place (slot_texts own address slot) (sym (ap is_away at.0) ∙ none (slot_name slot)) answers.0)),
      marks_among slots at.1 answers.1,
    )

    pub marks_answered : has_duplicate (map slot_name base) ≡ false
        → AllZip (λ texts. IsAnsweredIn (Of texts) all) (map (slot_texts own address) base) (map (slot_answered answered) base)
        → AllByRecursion (λ texts. IsAnsweredIn (Of texts) all (marks (get_or texts 0 []))) (map (slot_texts own address) base)
    marks_answered distinct answers = marks_among base (own_places base distinct) answers
