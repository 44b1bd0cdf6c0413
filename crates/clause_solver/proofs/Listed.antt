-- How many watches of a clause are in a list, while lists grow and shrink.
use Rattle.std.proofs.Common.{◌≡◌, ◌⊎◌, ℕ, ◌+◌, ◌<◌, ◌≤◌, Bool, true, false, cond, eqb, ltb, List, [], ◌∷◌, ◌++◌, length, get_or, set, refl, sym, ap, ◌∙◌}
use Rattle.std.proofs.Common.{subst, inl, inr, ⊎_elim, arith}
use Rattle.std.specs.List.{AllByRecursion}
use Rattle.std.proofs.lemmas.Bool.{cases_eq, eq-eqb, ne_eqb, false_from_ne_true}
use Rattle.std.proofs.lemmas.List.{get_or-set_same, get_or-set_other, length-set}
use Rattle.cqe_base.specs.Literal.{Literal, same_literal}
use Rattle.cqe_base.proofs.ClauseTruth.{same_literal-true, same_literal-same}
use Rattle.clause_solver.specs.declared.watches.Pair.{Pair}
use Rattle.clause_solver.specs.declared.watches.Watch.{Watch}
use Rattle.clause_store.specs.Codes.{code_of}
use Rattle.clause_store.proofs.Marking.{code_of-injective}
use Rattle.clause_solver.specs.Watching.{IsWatchOf, WatchesBeside, one_if, times_listed, times_watched, watches_below}

one_if_most : (b : Bool) → one_if b ≤ 1
one_if_most true = omega arith
one_if_most false = omega arith

-- ---- one list

times_push : (zs : List Watch) (v : Watch) (i : ℕ) → times_listed (zs ++ v ∷ []) i ≡ times_listed zs i + one_if (eqb v.clause i)
times_push [] v i = let e : one_if (eqb v.clause i) + 0 ≡ 0 + one_if (eqb v.clause i) = omega arith in e
times_push (x ∷ zs) v i =
    let more = times_push zs v i in
    let e : one_if (eqb x.clause i) + times_listed (zs ++ v ∷ []) i ≡ one_if (eqb x.clause i) + times_listed zs i + one_if (eqb v.clause i) = omega arith in e

-- one more watch, of another clause
pub other_more : (zs : List Watch) (v : Watch) (i : ℕ) → (i ≡ v.clause → ⊥) → times_listed (zs ++ v ∷ []) i ≡ times_listed zs i
other_more zs v i ne =
    let more = times_push zs v i in
    let none : one_if (eqb v.clause i) ≡ 0 = ap one_if (ne_eqb v.clause i (λ s. ne (sym s))) in
    omega arith

pub other_few : (zs : List Watch) (v : Watch) (i m : ℕ) → (i ≡ v.clause → ⊥) → times_listed zs i ≤ m → times_listed (zs ++ v ∷ []) i ≤ m
other_few zs v i m ne le = subst (λ k. k ≤ m) (sym (other_more zs v i ne)) le

-- a watch in the place of one of the same clause
keep_times : (kept rest : List Watch) (w v : Watch) (i : ℕ) → v.clause ≡ w.clause
    → times_listed (kept ++ w ∷ rest) i ≡ times_listed ((kept ++ v ∷ []) ++ rest) i
keep_times [] rest w v i same = ap (λ m. one_if (eqb m i) + times_listed rest i) (sym same)
keep_times (x ∷ kept) rest w v i same = ap (λ m. one_if (eqb x.clause i) + m) (keep_times kept rest w v i same)

pub keep_few : (kept rest : List Watch) (w v : Watch) (i m : ℕ) → v.clause ≡ w.clause → times_listed (kept ++ w ∷ rest) i ≤ m
    → times_listed ((kept ++ v ∷ []) ++ rest) i ≤ m
keep_few kept rest w v i m same le = subst (λ k. k ≤ m) (keep_times kept rest w v i same) le

-- a watch goes
drop_times : (kept rest : List Watch) (w : Watch) (i : ℕ) → times_listed (kept ++ w ∷ rest) i ≡ one_if (eqb w.clause i) + times_listed (kept ++ rest) i
drop_times [] rest w i = refl
drop_times (x ∷ kept) rest w i =
    let less = drop_times kept rest w i in
    let e : one_if (eqb x.clause i) + times_listed (kept ++ w ∷ rest) i
    ≡ one_if (eqb w.clause i) + (one_if (eqb x.clause i) + times_listed (kept ++ rest) i) =
    omega arith in
    e

pub drop_few : (kept rest : List Watch) (w : Watch) (i m : ℕ) → times_listed (kept ++ w ∷ rest) i ≤ m → times_listed (kept ++ rest) i ≤ m
drop_few kept rest w i m le = let less = drop_times kept rest w i in omega arith

-- a clause that isn't there has no watch
pub none_listed : (cs : List (List Literal)) (ws : List Watch) (i : ℕ) → length cs ≤ i → AllByRecursion (IsWatchOf cs) ws → times_listed ws i ≡ 0
none_listed cs [] i past h = refl
none_listed cs (w ∷ ws) i past h =
    let less = none_listed cs ws i past h.1 in
    let lt = h.0.within in
    let none : one_if (eqb w.clause i) ≡ 0 = ap one_if (ne_eqb w.clause i (λ s. absurd (omega arith))) in
    let e : one_if (eqb w.clause i) + times_listed ws i ≡ 0 = omega arith in
    e

-- the watches of the first clauses are no more
below_times : (count : ℕ) (ws : List Watch) (i : ℕ) → times_listed (watches_below count ws) i ≤ times_listed ws i
below_times count [] i = let e : 0 ≤ 0 = omega arith in e
below_times count (w ∷ ws) i = step (ltb w.clause count) (below_times count ws i)
  where
    step : (b : Bool) → times_listed (watches_below count ws) i ≤ times_listed ws i
        → times_listed (cond b (w ∷ watches_below count ws) (watches_below count ws)) i ≤ one_if (eqb w.clause i) + times_listed ws i
    step true le = let e : one_if (eqb w.clause i) + times_listed (watches_below count ws) i ≤ one_if (eqb w.clause i) + times_listed ws i = omega arith in e
    step false le = let e : times_listed (watches_below count ws) i ≤ one_if (eqb w.clause i) + times_listed ws i = omega arith in e

pub below_few : (count : ℕ) (ws : List Watch) (i m : ℕ) → times_listed ws i ≤ m → times_listed (watches_below count ws) i ≤ m
below_few count ws i m le = let less = below_times count ws i in omega arith

-- ---- the literals that a clause watches

beside_times : (p : Pair) (f other l : Literal) → WatchesBeside p f other → times_watched p l ≡ one_if (same_literal f l) + one_if (same_literal other l)
beside_times p f other l beside = ⊎_elim
    (λ e. ap (λ m. one_if (same_literal m l) + one_if (same_literal p.second l)) e.0 ∙ ap (λ m. one_if (same_literal f l) + one_if (same_literal m l)) e.1)
    (λ e. ap (λ m. one_if (same_literal p.first l) + one_if (same_literal m l)) e.0
    ∙ ap (λ m. one_if (same_literal m l) + one_if (same_literal f l)) e.1
    ∙ turned (one_if (same_literal other l)) (one_if (same_literal f l)))
    beside
  where
    turned : (a b : ℕ) → a + b ≡ b + a
    turned a b = omega arith

-- ---- one more watch in the list of a literal

module _ (lists : List (List Watch)) (f l : Literal) (v : Watch) (low : code_of f < length lists) (i : ℕ) where
  abbrev here : List Watch
  here = get_or lists (code_of l) []

  abbrev ends : List Watch
  ends = get_or lists (code_of f) [] ++ v ∷ []

  abbrev longer : List (List Watch)
  longer = set lists (code_of f) ends

  longer_here : code_of l ≡ code_of f → get_or longer (code_of l) [] ≡ here ++ v ∷ []
  longer_here same =
      ap (λ k. get_or longer k []) same
      ∙ get_or-set_same lists (code_of f) ends [] low
      ∙ ap (λ k. get_or lists k [] ++ v ∷ []) (sym same)

  at_most : code_of l ≡ code_of f → times_listed (here ++ v ∷ []) i ≤ one_if (same_literal f l) + times_listed here i
  at_most same =
      let more = times_push here v i in
      let most = one_if_most (eqb v.clause i) in
      let one : one_if (same_literal f l) ≡ 1 = ap one_if (subst (λ m. same_literal f m ≡ true) (code_of-injective f l (sym same)) (same_literal-same f)) in
      omega arith

  pub pushed_times : times_listed (get_or longer (code_of l) []) i ≤ one_if (same_literal f l) + times_listed here i
  pushed_times = elim (cases_eq (code_of l) (code_of f)) [
    | inl same ↦ subst (λ zs. times_listed zs i ≤ one_if (same_literal f l) + times_listed here i) (sym (longer_here same)) (at_most same)
    | inr other ↦ subst (λ zs. times_listed zs i ≤ one_if (same_literal f l) + times_listed here i)
        (sym (get_or-set_other lists (code_of f) (code_of l) ends [] other)) (omega arith)
  ]

-- ---- a clause watches another literal from now on

module _ (lists : List (List Watch)) (kept rest : List Watch) (p : Pair) (f other next : Literal) (w v : Watch) (low : code_of f < length lists)
    (room : code_of next < length lists) (beside : WatchesBeside p f other) (elsewhere : other ≡ f → ⊥)
    (before : (l : Literal) → times_listed (get_or (set lists (code_of f) (kept ++ w ∷ rest)) (code_of l) []) w.clause ≤ times_watched p l) where
  abbrev grown : List (List Watch)
  grown = set lists (code_of next) (get_or lists (code_of next) [] ++ v ∷ [])

  none_left : times_listed (kept ++ rest) w.clause ≡ 0
  none_left =
      let had : times_listed (kept ++ w ∷ rest) w.clause ≤ one_if (same_literal f f) + one_if (same_literal other f) =
      subst (λ m. times_listed (kept ++ w ∷ rest) w.clause ≤ m) (beside_times p f other f beside)
      (subst (λ zs. times_listed zs w.clause ≤ times_watched p f) (get_or-set_same lists (code_of f) (kept ++ w ∷ rest) [] low) (before f)) in
      let less = drop_times kept rest w w.clause in
      let one : one_if (eqb w.clause w.clause) ≡ 1 = ap one_if (eq-eqb w.clause w.clause refl) in
      let none : one_if (same_literal other f) ≡ 0 = ap one_if (false_from_ne_true _ (λ s. elsewhere (same_literal-true other f s))) in
      let most = one_if_most (same_literal f f) in
      omega arith

  other_at : (l : Literal) → (code_of l ≡ code_of f → ⊥) → times_listed (get_or lists (code_of l) []) w.clause ≤ one_if (same_literal other l)
  other_at l ne =
      let had : times_listed (get_or lists (code_of l) []) w.clause ≤ one_if (same_literal f l) + one_if (same_literal other l) =
      subst (λ m. times_listed (get_or lists (code_of l) []) w.clause ≤ m) (beside_times p f other l beside)
      (subst (λ zs. times_listed zs w.clause ≤ times_watched p l) (get_or-set_other lists (code_of f) (code_of l) (kept ++ w ∷ rest) [] ne) (before l)) in
      let none : one_if (same_literal f l) ≡ 0 = ap one_if (false_from_ne_true _ (λ s. ne (ap code_of (sym (same_literal-true f l s))))) in
      omega arith

  grown_here : (l : Literal) → code_of l ≡ code_of f → get_or (set grown (code_of f) (kept ++ rest)) (code_of l) [] ≡ kept ++ rest
  grown_here l same =
      ap (λ k. get_or (set grown (code_of f) (kept ++ rest)) k []) same
      ∙ get_or-set_same grown (code_of f) (kept ++ rest) []
      (let e = length-set lists (code_of next) (get_or lists (code_of next) [] ++ v ∷ []) in omega arith)

  pub moved_times : (l : Literal) → times_listed (get_or (set grown (code_of f) (kept ++ rest)) (code_of l) []) w.clause
      ≤ one_if (same_literal next l) + one_if (same_literal other l)
  moved_times l = elim (cases_eq (code_of l) (code_of f)) [
    | inl same ↦ subst (λ zs. times_listed zs w.clause ≤ one_if (same_literal next l) + one_if (same_literal other l)) (sym (grown_here l same))
        (let none = none_left in omega arith)
    | inr ne ↦ subst (λ zs. times_listed zs w.clause ≤ one_if (same_literal next l) + one_if (same_literal other l))
        (sym (get_or-set_other grown (code_of f) (code_of l) (kept ++ rest) [] ne))
        (let more = pushed_times lists next l v room w.clause in let had = other_at l ne in omega arith)
  ]
