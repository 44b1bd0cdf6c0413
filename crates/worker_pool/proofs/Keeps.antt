-- Each step keeps the rule of the numbers.
use Rattle.std.proofs.Common.{◌≡◌, ◌≢◌, ℕ, zero, suc, ◌+◌, ◌*◌, ◌%◌, ◌^◌, ◌<◌, ◌≤◌, List, [], ◌∷◌, ◌++◌, set, slice_index, sum_by, refl, sym, ap, ◌∙◌, subst}
use Rattle.std.proofs.Common.{⊎_elim, arith, mod-eq_of_lt}
use Rattle.std.proofs.lemmas.List.Sums.{sum_by-cons, sum_by-append}
use mathlib.Core.Option.{none, some, some-injective, some-ne-none}
use lib.ListN.{get_elem?}
use Rattle.atomic_table.specs.Table.{State, Me, step, keeps, Allows, Splits, Joins, opening, Seen, Final}
use Rattle.atomic_table.proofs.Lists.{at_set, at_snoc}
use Rattle.worker_pool.specs.declared.hand.Hand.{Hand}
use Rattle.worker_pool.specs.Hands.{sum_below, is_below, first_hand, spent_hand, drawing_hand, remaining_hand, split_off_hand, joined_hand}
use Rattle.worker_pool.specs.NumberRule.{NumberRule, Drew}
use Rattle.list_sums.proofs.Sums.{set_there, sum_set, sum_at, sum_cut, sum_joined}
use Rattle.worker_pool.proofs.Sums.{sum_idle, below_min}

abbrev St : Type 0
St = State (Unit {0}) Hand

-- a hand without a part has drawn nothing
abbrev Idle : Hand → Type 0
Idle hand = hand.parts ≡ 0 → hand.drawn ≡ []

idle_set : (hands : List Hand) (id : ℕ) (new : Hand) → ((k : ℕ) (hand : Hand) → get_elem? hands k ≡ some hand → Idle hand) → Idle new
    → (k : ℕ) (hand : Hand) → get_elem? (set hands id new) k ≡ some hand → Idle hand
idle_set hands id new others mine k hand at =
    ⊎_elim (λ (x : (k ≡ id) × (new ≡ hand)). subst Idle x.1 mine) (λ (x : (k ≢ id) × (get_elem? hands k ≡ some hand)). others k hand x.1)
    (at_set hands id k new hand at)

idle_push : (hands : List Hand) (new : Hand) → ((k : ℕ) (hand : Hand) → get_elem? hands k ≡ some hand → Idle hand) → Idle new
    → (k : ℕ) (hand : Hand) → get_elem? (hands ++ new ∷ []) k ≡ some hand → Idle hand
idle_push hands new others mine k hand at =
    ⊎_elim (λ (x : get_elem? hands k ≡ some hand). others k hand x) (λ (x : new ≡ hand). subst Idle x mine) (at_snoc hands new hand k at)

-- the numbers begin with one hand that has all parts
pub opens : NumberRule (opening (0 ∷ []) [] first_hand)
opens = record {
  next = 0;
  words = refl;
  drawn = λ f. refl;
  parts = refl;
  idle = only;
  turns = refl;
}
  where
    only : (k : ℕ) (hand : Hand) → get_elem? (first_hand ∷ []) k ≡ some hand → Idle hand
    only zero hand at = subst Idle (some-injective _ _ at) (λ none. refl)
    only (suc k) hand at = absurd (some-ne-none hand (sym at))

word_add : (n : ℕ) → n < 65 * 2 ^ 31 + 1 → (n + 1) % 2 ^ 64 ≡ n + 1
word_add n small = mod-eq_of_lt (omega arith)

-- one more number weighs what it weighs
pub drawn_more : (f : ℕ → ℕ) (numbers : List ℕ) (n : ℕ) → sum_by f (numbers ++ n ∷ []) ≡ sum_by f numbers + f n
drawn_more f numbers n = omega (arith, sum_by-append f numbers (n ∷ []), sum_by-cons f n [])

below_more : (f : ℕ → ℕ) (n : ℕ) → sum_below f (n + 1) ≡ sum_below f n + f n
below_more f n = let e : n + 1 ≡ suc n = omega arith in ap (sum_below f) e

pub draws : (slots id : ℕ) (m : Me (Unit {0}) Hand) → 0 < m.0.parts → 0 < m.0.turns
    → Allows NumberRule slots id m 0 (λ n. (n + 1) % 2 ^ 64) (Drew (step slots 0 1 0 none) m)
draws slots id m live more s r _ at _ =
    let hand : Hand = m.0 in
    let n : ℕ = slice_index s.words 0 in
    let is : n ≡ r.next = ap (λ ws. slice_index ws 0) r.words in
    let new : Hand = drawing_hand hand n in
    let turns = sum_set (λ (h : Hand). h.turns) s.views id hand new at in
    let left = r.turns in
    let own = sum_at (λ (h : Hand). h.turns) s.views id hand at in
    let small : n < 65 * 2 ^ 31 + 1 = omega arith in
    let drawn' : (f : ℕ → ℕ) → sum_by (λ (h : Hand). sum_by f h.drawn) (set s.views id new) ≡ sum_below f (n + 1) = λ f.
    (let e = sum_set (λ (h : Hand). sum_by f h.drawn) s.views id hand new at in
    let before : sum_by (λ (h : Hand). sum_by f h.drawn) s.views ≡ sum_below f n = r.drawn f ∙ ap (sum_below f) (sym is) in
    omega (arith, e, before, drawn_more f hand.drawn n, below_more f n)) in (
      new,
      keeps,
      tt,
      record {
        next = n + 1;
        words = ap (λ ws. set ws 0 ((n + 1) % 2 ^ 64)) r.words ∙ ap (λ (k : ℕ). k ∷ []) (word_add n small);
        drawn = drawn';
        parts = let e = sum_set (λ (h : Hand). h.parts) s.views id hand new at in let all = r.parts in omega arith;
        idle = idle_set s.views id new r.idle (λ none. absurd (omega arith));
        turns = omega arith;
      },
      (
        refl,
        λ k. let here = sum_at (λ (h : Hand). sum_by (is_below k) h.drawn) (set s.views id new) id new (set_there s.views id hand new at) in
            omega (arith, here, drawn' (is_below k), below_min k (n + 1)),
      ),
    )

pub parts : (id : ℕ) (hand : Hand) → 1 < hand.parts → 2 ^ 31 ≤ hand.turns → Splits NumberRule id hand (remaining_hand hand) split_off_hand
parts id hand more turns s r at =
    let left : Hand = remaining_hand hand in record {
      next = r.next;
      words = r.words;
      drawn = λ f. omega (arith, sum_cut (λ (h : Hand). sum_by f h.drawn) s.views id hand left split_off_hand at, r.drawn f);
      parts = let e = sum_cut (λ (h : Hand). h.parts) s.views id hand left split_off_hand at in let all = r.parts in omega arith;
      idle = idle_push (set s.views id left) split_off_hand (idle_set s.views id left r.idle (λ none. absurd (omega arith))) (λ none. refl);
      turns = let e = sum_cut (λ (h : Hand). h.turns) s.views id hand left split_off_hand at in let all = r.turns in omega arith;
    }

pub meets : (id : ℕ) (hand : Hand) (other : ℕ) (theirs : Hand) → 0 < hand.parts → Joins NumberRule id hand other theirs (joined_hand hand theirs) spent_hand
meets id hand other theirs live s r at apart there =
    let both : Hand = joined_hand hand theirs in record {
      next = r.next;
      words = r.words;
      drawn = λ f. omega (
        arith,
        sum_joined (λ (h : Hand). sum_by f h.drawn) s.views id hand other theirs both spent_hand at there,
        sum_by-append f hand.drawn theirs.drawn,
        r.drawn f,
      );
      parts = let e = sum_joined (λ (h : Hand). h.parts) s.views id hand other theirs both spent_hand at there in let all = r.parts in omega arith;
      idle = idle_set (set s.views id both) other spent_hand (idle_set s.views id both r.idle (λ none. absurd (omega arith))) (λ none. refl);
      turns = let e = sum_joined (λ (h : Hand). h.turns) s.views id hand other theirs both spent_hand at there in let all = r.turns in omega arith;
    }

-- the hand that has all parts drew every number below the next one, each once
pub ends : (id : ℕ) (hand : Hand) (words : List ℕ) (values : List (Unit {0})) → Final (Seen NumberRule id hand) words values → hand.parts ≡ 65
    → (next : ℕ) × ((f : ℕ → ℕ) → sum_by f hand.drawn ≡ sum_below f next)
ends id hand words values final all =
    let s = final.0 in
    let r = final.1.0 in
    let at = final.1.1 in
    let others : List Hand = set s.views id spent_hand in
    let parts' = sum_set (λ (h : Hand). h.parts) s.views id hand spent_hand at in
    let sum = r.parts in
    let no_parts : sum_by (λ (h : Hand). h.parts) others ≡ 0 = omega arith in
    let still = idle_set s.views id spent_hand r.idle (λ none. refl) in (
      r.next,
      λ f. let e = sum_set (λ (h : Hand). sum_by f h.drawn) s.views id hand spent_hand at in
          let rest = sum_idle (λ (h : Hand). sum_by f h.drawn) others no_parts (λ k other there none. ap (sum_by f) (still k other there none)) in
          omega (arith, e, rest, r.drawn f),
    )
