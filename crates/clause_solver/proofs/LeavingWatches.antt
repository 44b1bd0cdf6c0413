-- The later clauses leave the lists of the literals that they watch: as many watches go as they have, so none is left.
use Rattle.std.proofs.Common.{◌≡◌, ℕ, zero, suc, ◌+◌, ◌<◌, ◌≤◌, Bool, true, false, cond, not, eqb, ltb, List, [], ◌∷◌, length, get_or, set, drop, Option}
use Rattle.std.proofs.Common.{refl, sym, ap, ◌∙◌, subst, inl, inr, arith}
use Rattle.std.specs.List.{AllByRecursion, remove}
use Rattle.std.proofs.lemmas.Bool.{cases_eq, cases_lt, lt-ltb, le-ltb, eq-eqb, ne_eqb}
use Rattle.std.proofs.lemmas.List.{get_or-set_same, get_or-set_other, get_or-drop, get_or_past, length-drop}
use Rattle.cqe_base.specs.Literal.{Literal, same_literal}
use Rattle.cqe_base.specs.Machine.{Assigned}
use Rattle.cqe_base.proofs.ClauseTruth.{same_literal-true}
use Rattle.clause_solver.specs.declared.watches.Pair.{Pair}
use Rattle.clause_solver.specs.declared.watches.Watch.{Watch}
use Rattle.clause_store.specs.Codes.{code_of}
use Rattle.clause_solver.specs.Watching.{IsWatching, IsWatchOf, StaysBelow, IsLater, LosesLater, HaveLeft, no_pair, one_if, times_listed, times_watched}
use Rattle.clause_solver.specs.Watching.{times_watched_by, times_later, watches_below}

-- ---- one list loses watches

pub loses_none : (count : ℕ) (ws : List Watch) → LosesLater count 0 ws ws
loses_none count ws = record { below = refl; fewer = λ left h. omega (arith, h) }

pub loses_then : (count a b : ℕ) (xs ys zs : List Watch) → LosesLater count a xs ys → LosesLater count b ys zs → LosesLater count (a + b) xs zs
loses_then count a b xs ys zs first next = record {
  below = next.below ∙ first.below;
  fewer = λ left h. next.fewer left (first.fewer (b + left) (let e : times_later count xs ≤ a + (b + left) = omega arith in e));
}

-- a list that has none to lose
pub loses_past : (count lost : ℕ) (ws : List Watch) → times_later count ws ≡ 0 → LosesLater count lost ws ws
loses_past count lost ws none = record { below = refl; fewer = λ left h. omega arith }

-- one that loses more than it has to
loses_less : (count : ℕ) (b : Bool) (xs ys : List Watch) → LosesLater count 1 xs ys → LosesLater count (one_if b) xs ys
loses_less count true xs ys h = h
loses_less count false xs ys h = record { below = h.below; fewer = λ left le. h.fewer left (let e : times_later count xs ≤ 1 + left = omega arith in e) }

-- a later watch goes
pub removed : (count : ℕ) (ws : List Watch) (place : ℕ) → IsLater count ws place
    → (watches_below count (remove ws place) ≡ watches_below count ws) × (times_later count (remove ws place) + 1 ≡ times_later count ws)
removed count [] place at = absurd (let lt = at.within in omega arith)
removed count (w ∷ ws) zero at =
    let high : ltb w.clause count ≡ false = le-ltb w.clause count (at.later w) in (
      sym (ap (λ b. cond b (w ∷ watches_below count ws) (watches_below count ws)) high),
      (let e : times_later count ws + 1 ≡ 1 + times_later count ws = omega arith in e)
          ∙ sym (ap (λ b. one_if (not b) + times_later count ws) high),
    )
removed count (w ∷ ws) (suc place) at =
    let rest = removed count ws place (record { within = (let lt = at.within in omega arith); later = at.later }) in
    let here : ℕ = one_if (not (ltb w.clause count)) in (
      ap (λ vs. cond (ltb w.clause count) (w ∷ vs) vs) rest.0,
      (let fewer = rest.1 in let e : here + times_later count (remove ws place) + 1 ≡ here + times_later count ws = omega arith in e),
    )

pub loses_one : (count : ℕ) (ws vs : List Watch) (place : ℕ) → IsLater count ws place → vs ≡ remove ws place → LosesLater count 1 ws vs
loses_one count ws vs place at is = record {
  below = ap (watches_below count) is ∙ (removed count ws place at).0;
  fewer = λ left h. let less = (removed count ws place at).1 in let same = ap (times_later count) is in omega arith;
}

-- none is behind this place
pub none_behind : (count : ℕ) (w : Watch) (ws : List Watch) → w.clause < count → times_later count ws ≡ 0 → times_later count (w ∷ ws) ≡ 0
none_behind count w ws low none =
    let here : one_if (not (ltb w.clause count)) ≡ 0 = ap (λ b. one_if (not b)) (lt-ltb w.clause count low) in
    let e : one_if (not (ltb w.clause count)) + times_later count ws ≡ 0 = omega arith in
    e

-- a list that has lost all of them
pub none_later : (count : ℕ) (ws : List Watch) → times_later count ws ≤ 0 → ws ≡ watches_below count ws
none_later count [] none = refl
none_later count (w ∷ ws) none =
    let rest : times_later count ws ≤ 0 = (let all : one_if (not (ltb w.clause count)) + times_later count ws ≤ 0 = none in omega arith) in
    step (ltb w.clause count) (none_later count ws rest) none
  where
    step : (b : Bool) → ws ≡ watches_below count ws → one_if (not b) + times_later count ws ≤ 0
        → w ∷ ws ≡ cond b (w ∷ watches_below count ws) (watches_below count ws)
    step true rest le = ap (λ vs. w ∷ vs) rest
    step false rest le = absurd (let high : 1 + times_later count ws ≤ 0 = le in omega arith)

-- ---- one list in its place

module _ (count : ℕ) (lists : List (List Watch)) (literal : Literal) (ys : List Watch) (low : code_of literal < length lists)
    (lost : LosesLater count 1 (get_or lists (code_of literal) []) ys) where
  pub put_lost : HaveLeft count (λ l. one_if (same_literal literal l)) lists (set lists (code_of literal) ys)
  put_lost l =
      let b : Bool = same_literal literal l in
      let new : List (List Watch) = set lists (code_of literal) ys in
      elim (cases_eq (code_of l) (code_of literal)) [
        | inl same ↦ subst (λ k. LosesLater count (one_if b) (get_or lists k []) (get_or new k [])) (sym same)
            (subst (LosesLater count (one_if b) (get_or lists (code_of literal) [])) (sym (get_or-set_same lists (code_of literal) ys [] low))
            (loses_less count b (get_or lists (code_of literal) []) ys lost))
        | inr ne ↦ subst (LosesLater count (one_if b) (get_or lists (code_of l) []))
            (sym (get_or-set_other lists (code_of literal) (code_of l) ys [] ne)) (other l ne b refl)
      ]
    where
      other : (l : Literal) → (code_of l ≡ code_of literal → ⊥) → (b : Bool) → same_literal literal l ≡ b
          → LosesLater count (one_if b) (get_or lists (code_of l) []) (get_or lists (code_of l) [])
      other l ne true e = absurd (ne (ap code_of (sym (same_literal-true literal l e))))
      other l ne false e = loses_none count (get_or lists (code_of l) [])

-- a literal without a list
pub past_left : (count : ℕ) (lists : List (List Watch)) (literal : Literal) → length lists ≤ code_of literal
    → HaveLeft count (λ l. one_if (same_literal literal l)) lists lists
past_left count lists literal past l = step (same_literal literal l) refl
  where
    step : (b : Bool) → same_literal literal l ≡ b → LosesLater count (one_if b) (get_or lists (code_of l) []) (get_or lists (code_of l) [])
    step true e = loses_past count 1 (get_or lists (code_of l) [])
        (ap (times_later count) (get_or_past lists (code_of l) [] (subst (λ m. length lists ≤ code_of m) (same_literal-true literal l e) past)))
    step false e = loses_none count (get_or lists (code_of l) [])

-- ---- all lists

-- the watches of one clause, and those of the clauses behind it
one_later : (base : ℕ) (ws : List Watch) → times_later base ws ≡ times_listed ws base + times_later (suc base) ws
one_later base [] = refl
one_later base (w ∷ ws) =
    let rest = one_later base ws in
    let here = split w.clause in
    let e : one_if (not (ltb w.clause base)) + times_later base ws
    ≡ one_if (eqb w.clause base) + times_listed ws base + (one_if (not (ltb w.clause (suc base))) + times_later (suc base) ws) = omega arith in
    e
  where
    split : (c : ℕ) → one_if (not (ltb c base)) ≡ one_if (eqb c base) + one_if (not (ltb c (suc base)))
    split c = elim (cases_lt c base) [
      | inl lt ↦
          let here : one_if (not (ltb c base)) ≡ 0 = ap (λ b. one_if (not b)) (lt-ltb c base lt) in
          let one : one_if (eqb c base) ≡ 0 = ap one_if (ne_eqb c base (λ s. absurd (omega arith))) in
          let more : one_if (not (ltb c (suc base))) ≡ 0 = ap (λ b. one_if (not b)) (lt-ltb c (suc base) (omega arith)) in
          omega arith
      | inr ge ↦
          let here : one_if (not (ltb c base)) ≡ 1 = ap (λ b. one_if (not b)) (le-ltb c base ge) in
          elim (cases_eq c base) [
            | inl same ↦
                let one : one_if (eqb c base) ≡ 1 = ap one_if (eq-eqb c base same) in
                let more : one_if (not (ltb c (suc base))) ≡ 0 = ap (λ b. one_if (not b)) (lt-ltb c (suc base) (omega arith)) in
                omega arith
            | inr ne ↦
                let one : one_if (eqb c base) ≡ 0 = ap one_if (ne_eqb c base ne) in
                let past : suc base ≤ c = above c ge ne in
                let more : one_if (not (ltb c (suc base))) ≡ 1 = ap (λ b. one_if (not b)) (le-ltb c (suc base) past) in
                omega arith
          ]
    ]
      where
        above : (c : ℕ) → base ≤ c → (c ≡ base → ⊥) → suc base ≤ c
        above c ge ne = elim (cases_lt base c) [ inl lt ↦ lt | inr le ↦ absurd (ne (omega arith)) ]

-- a list without watches of clauses from this number on
none_at_end : (cs : List (List Literal)) (base : ℕ) (ws : List Watch) → length cs ≤ base → AllByRecursion (IsWatchOf cs) ws → times_later base ws ≡ 0
none_at_end cs base [] past h = refl
none_at_end cs base (w ∷ ws) past h = none_behind base w ws (let lt = h.0.within in omega arith) (none_at_end cs base ws past h.1)

-- a list has no more watches of these clauses than they watch its literal
later_few : (cs : List (List Literal)) (ws : List Watch) (l : Literal) (ps : List Pair) (base : ℕ) → length cs ≤ base + length ps
    → AllByRecursion (IsWatchOf cs) ws → ((i : ℕ) → i < length ps → times_listed ws (base + i) ≤ times_watched (get_or ps i no_pair) l)
    → times_later base ws ≤ times_watched_by ps l
later_few cs ws l [] base room h few = let none = none_at_end cs base ws (omega arith) h in omega arith
later_few cs ws l (p ∷ ps) base room h few =
    let split = one_later base ws in
    let here : times_listed ws base ≤ times_watched p l =
    subst (λ k. times_listed ws k ≤ times_watched p l) (let e : base + 0 ≡ base = omega arith in e) (few 0 (omega arith)) in
    let rest : times_later (suc base) ws ≤ times_watched_by ps l =
    later_few cs ws l ps (suc base) (omega arith) h (λ i lt. subst (λ k. times_listed ws k ≤ times_watched (get_or ps i no_pair) l)
    (let e : base + suc i ≡ suc base + i = omega arith in e) (few (suc i) (omega arith))) in
    let e : times_later base ws ≤ times_watched p l + times_watched_by ps l = omega arith in
    e

module _ (n : ℕ) (t : List Assigned) (cs : List (List Literal)) (lists lists' : List (List Watch)) (pairs : List Pair) (units : List ℕ)
    (falsified : Option ℕ) (g : Literal) (count : ℕ) (before : IsWatching n t cs lists pairs units falsified g []) (within : count ≤ length cs)
    (left : HaveLeft count (times_watched_by (drop count pairs)) lists lists') where
  few_later : (l : Literal) → times_later count (get_or lists (code_of l) []) ≤ times_watched_by (drop count pairs) l
  few_later l =
      let room = before.pairs_room in
      let all = length-drop count pairs in
      later_few cs (get_or lists (code_of l) []) l (drop count pairs) count (omega arith) (before.watches l)
      (λ i lt. subst (λ p. times_listed (get_or lists (code_of l) []) (count + i) ≤ times_watched p l) (sym (get_or-drop count pairs i no_pair))
      (before.few (count + i) l (omega arith)))

  pub all_left : (l : Literal) → StaysBelow count lists lists' (code_of l)
  all_left l = none_later count (get_or lists' (code_of l) []) ((left l).fewer 0 (let few = few_later l in omega arith)) ∙ (left l).below
