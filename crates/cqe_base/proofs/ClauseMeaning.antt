-- The clause form means what its formulas mean.
use Rattle.std.proofs.Common.{◌≡◌, ℕ, Bool, true, false, cond, not, ◌&&◌, ◌||◌, List, [], ◌∷◌, ◌++◌, map, refl, sym, ap, ◌∙◌, subst}
use Rattle.std.specs.List.{list_any, list_all}
use Rattle.std.proofs.Math.Bool.{or-true}
use Rattle.std.proofs.lemmas.Bool.{or_left, or_right, or_parts, and_parts, both_ways}
use Rattle.std.proofs.lemmas.List.Folds.{list_any-append, list_all-append}
use Rattle.cqe_base.specs.declared.world.Fact.{Fact}
use Rattle.cqe_base.specs.ClauseForm.{same_fact}
use Rattle.cqe_base.specs.Truth.{same_truth}
use Rattle.cqe_base.specs.Ground.{Ground, Grounds, ground_true, ground_false, ground_atom, ground_not, ground_all, ground_some, ground_implies, ground_iff}
use Rattle.cqe_base.specs.Ground.{no_grounds, more_grounds, true_ground, all_true, some_true}
use Rattle.cqe_base.specs.Literal.{Literal, Positive, Negative, opposite, distinct_literals, literal_true, clause_true, clauses_true}
use Rattle.cqe_base.specs.ClauseForm.{NumberedFact, Numbering, is_numbered, number_of, with_fact, numbering_after, numbering_after_parts, literal_of}
use Rattle.cqe_base.specs.ClauseForm.{literals_of, and_clauses, or_clauses, iff_clauses, clauses_of, clauses_of_parts}
use Rattle.cqe_base.proofs.SameFact.{same_fact-same}
use Rattle.cqe_base.proofs.ClauseTruth.{literal_true-opposite, clause_true-distinct}
use Rattle.cqe_base.proofs.Numberings.{with_fact_cases, number_next, number_of-append}

edge_and : (s l r : Bool) → ((not s || (l || false)) && (not s || r)) ≡ (not s || (l && r))
edge_and true true r = refl
edge_and true false r = refl
edge_and false l r = refl

edge_or : (s l r : Bool) → ((s || (not l || false)) && (s || not r)) ≡ (s || not (l || r))
edge_or true l r = refl
edge_or false true r = refl
edge_or false false r = refl

and_edges_true : (signs : ℕ → Bool) (v : ℕ) (ls : List Literal)
    → clauses_true signs (map (λ l. distinct_literals (Negative v ∷ l ∷ [])) ls) ≡ (not (signs v) || list_all (literal_true signs) ls)
and_edges_true signs v [] = sym (or-true (not (signs v)))
and_edges_true signs v (l ∷ ls) =
    let here = clause_true-distinct signs (Negative v ∷ l ∷ []) in
    let rest = and_edges_true signs v ls in
    let both : (clause_true signs (distinct_literals (Negative v ∷ l ∷ [])) && clauses_true signs (map (λ l. distinct_literals (Negative v ∷ l ∷ [])) ls))
    ≡ ((not (signs v) || (literal_true signs l || false)) && (not (signs v) || list_all (literal_true signs) ls)) = cc in
    both ∙ edge_and (signs v) (literal_true signs l) (list_all (literal_true signs) ls)

or_edges_true : (signs : ℕ → Bool) (v : ℕ) (ls : List Literal)
    → clauses_true signs (map (λ l. distinct_literals (Positive v ∷ opposite l ∷ [])) ls) ≡ (signs v || not (list_any (literal_true signs) ls))
or_edges_true signs v [] = sym (or-true (signs v))
or_edges_true signs v (l ∷ ls) =
    let here = clause_true-distinct signs (Positive v ∷ opposite l ∷ []) in
    let turned = literal_true-opposite signs l in
    let rest = or_edges_true signs v ls in
    let both : (clause_true signs (distinct_literals (Positive v ∷ opposite l ∷ []))
    && clauses_true signs (map (λ l. distinct_literals (Positive v ∷ opposite l ∷ [])) ls))
    ≡ ((signs v || (not (literal_true signs l) || false)) && (signs v || not (list_any (literal_true signs) ls))) = cc in
    both ∙ edge_or (signs v) (literal_true signs l) (list_any (literal_true signs) ls)

not_and : (a b : Bool) → (not a || not b) ≡ not (a && b)
not_and true b = refl
not_and false b = refl

opposites_true : (signs : ℕ → Bool) (ls : List Literal) → clause_true signs (map opposite ls) ≡ not (list_all (literal_true signs) ls)
opposites_true signs [] = refl
opposites_true signs (l ∷ ls) =
    let turned = literal_true-opposite signs l in
    let rest = opposites_true signs ls in
    let both : (literal_true signs (opposite l) || clause_true signs (map opposite ls))
    ≡ (not (literal_true signs l) || not (list_all (literal_true signs) ls)) = cc in
    both ∙ not_and (literal_true signs l) (list_all (literal_true signs) ls)

and_node : (s r : Bool) → ((not s || r) && ((s || not r) && true)) ≡ same_truth s r
and_node true true = refl
and_node true false = refl
and_node false true = refl
and_node false false = refl

or_node : (s r : Bool) → ((s || not r) && ((not s || r) && true)) ≡ same_truth s r
or_node true true = refl
or_node true false = refl
or_node false true = refl
or_node false false = refl

-- the clauses of a conjunction say that its variable is true exactly where all parts are
pub and_clauses_true : (signs : ℕ → Bool) (v : ℕ) (ls : List Literal)
    → clauses_true signs (and_clauses v ls) ≡ same_truth (signs v) (list_all (literal_true signs) ls)
and_clauses_true signs v ls =
    let split = list_all-append (clause_true signs) (map (λ l. distinct_literals (Negative v ∷ l ∷ [])) ls)
    (distinct_literals (Positive v ∷ map opposite ls) ∷ []) in
    let edges = and_edges_true signs v ls in
    let last = clause_true-distinct signs (Positive v ∷ map opposite ls) in
    let turned = opposites_true signs ls in
    let all : clauses_true signs (and_clauses v ls)
    ≡ ((not (signs v) || list_all (literal_true signs) ls) && ((signs v || not (list_all (literal_true signs) ls)) && true)) = cc in
    all ∙ and_node (signs v) (list_all (literal_true signs) ls)

-- the clauses of a disjunction say that its variable is true exactly where some part is
pub or_clauses_true : (signs : ℕ → Bool) (v : ℕ) (ls : List Literal)
    → clauses_true signs (or_clauses v ls) ≡ same_truth (signs v) (list_any (literal_true signs) ls)
or_clauses_true signs v ls =
    let split = list_all-append (clause_true signs) (map (λ l. distinct_literals (Positive v ∷ opposite l ∷ [])) ls)
    (distinct_literals (Negative v ∷ ls) ∷ []) in
    let edges = or_edges_true signs v ls in
    let last = clause_true-distinct signs (Negative v ∷ ls) in
    let all : clauses_true signs (or_clauses v ls)
    ≡ ((signs v || not (list_any (literal_true signs) ls)) && ((not (signs v) || list_any (literal_true signs) ls) && true)) = cc in
    all ∙ or_node (signs v) (list_any (literal_true signs) ls)

iff_node : (s a b : Bool)
    → ((not s || (not a || (b || false)))
    && ((not s || (a || (not b || false))) && ((s || (a || (b || false))) && ((s || (not a || (not b || false))) && true)))) ≡ same_truth s (same_truth a b)
iff_node true true true = refl
iff_node true true false = refl
iff_node true false true = refl
iff_node true false false = refl
iff_node false true true = refl
iff_node false true false = refl
iff_node false false true = refl
iff_node false false false = refl

-- the clauses of an equivalence say that its variable is true exactly where its two sides agree
pub iff_clauses_true : (signs : ℕ → Bool) (v : ℕ) (a b : Literal)
    → clauses_true signs (iff_clauses v a b) ≡ same_truth (signs v) (same_truth (literal_true signs a) (literal_true signs b))
iff_clauses_true signs v a b =
    let c1 = clause_true-distinct signs (Negative v ∷ opposite a ∷ b ∷ []) in
    let c2 = clause_true-distinct signs (Negative v ∷ a ∷ opposite b ∷ []) in
    let c3 = clause_true-distinct signs (Positive v ∷ a ∷ b ∷ []) in
    let c4 = clause_true-distinct signs (Positive v ∷ opposite a ∷ opposite b ∷ []) in
    let na = literal_true-opposite signs a in
    let nb = literal_true-opposite signs b in
    let all : clauses_true signs (iff_clauses v a b)
    ≡ ((not (signs v) || (not (literal_true signs a) || (literal_true signs b || false)))
    && ((not (signs v) || (literal_true signs a || (not (literal_true signs b) || false)))
    && ((signs v || (literal_true signs a || (literal_true signs b || false)))
    && ((signs v || (not (literal_true signs a) || (not (literal_true signs b) || false))) && true)))) = cc in
    all ∙ iff_node (signs v) (literal_true signs a) (literal_true signs b)

-- two truth values that are the same are equal
pub same_truth-true : (a b : Bool) → same_truth a b ≡ true → a ≡ b
same_truth-true true b h = sym h
same_truth-true false true h = absurd (both_ways false refl h)
same_truth-true false false h = refl

pub same_truth-same : (a b : Bool) → a ≡ b → same_truth a b ≡ true
same_truth-same true true h = refl
same_truth-same false false h = refl
same_truth-same true false h = sym h
same_truth-same false true h = h

-- the signs of the numbered facts are those of the world
pub record Agrees (world : Fact → Bool) (facts : List NumberedFact) (signs : ℕ → Bool) : Type 0 where
  pub at : (f : Fact) (next : ℕ) → is_numbered facts f ≡ true → signs (number_of facts f next) ≡ world f

agrees_front : (world : Fact → Bool) (es ds : List NumberedFact) (signs : ℕ → Bool) → Agrees world (es ++ ds) signs → Agrees world es signs
agrees_front world es ds signs h =
    record {
      at = λ f next known.
          let all : is_numbered (es ++ ds) f ≡ true = list_any-append (λ e. same_fact f e.fact) es ds ∙ or_left _ _ known in
          let same = number_of-append es ds f next known in
          subst (λ k. signs k ≡ world f) same (h.at f next all);
    }

mutual
  -- signs that agree with a world after a walk did so before it
  pub agrees_before : (world : Fact → Bool) (signs : ℕ → Bool) (a : Ground) (n : Numbering) → Agrees world (numbering_after a n).facts signs
      → Agrees world n.facts signs
  agrees_before world signs ground_true n h = h
  agrees_before world signs ground_false n h = h
  agrees_before world signs (ground_atom f) n h =
      with_fact_cases n f (λ m. Agrees world m.facts signs → Agrees world n.facts signs) (λ _ h. h) (λ _ h. agrees_front world n.facts _ signs h) h
  agrees_before world signs (ground_not a) n h = agrees_before world signs a n h
  agrees_before world signs (ground_all parts) n h = agrees_before_parts world signs parts n h
  agrees_before world signs (ground_some parts) n h = agrees_before_parts world signs parts n h
  agrees_before world signs (ground_implies a b) n h = agrees_before world signs a n (agrees_before world signs b _ h)
  agrees_before world signs (ground_iff a b) n h = agrees_before world signs a n (agrees_before world signs b _ h)

  pub agrees_before_parts : (world : Fact → Bool) (signs : ℕ → Bool) (parts : Grounds) (n : Numbering)
      → Agrees world (numbering_after_parts parts n).facts signs → Agrees world n.facts signs
  agrees_before_parts world signs no_grounds n h = h
  agrees_before_parts world signs (more_grounds a rest) n h = agrees_before world signs a n (agrees_before_parts world signs rest _ h)

pub number_of-append_new : (es ds : List NumberedFact) (f : Fact) (next : ℕ) → is_numbered es f ≡ false → number_of (es ++ ds) f next ≡ number_of ds f next
number_of-append_new [] ds f next h = refl
number_of-append_new (e ∷ es) ds f next h =
    let parts : (same_fact f e.fact ≡ false) × (is_numbered es f ≡ false) = or_parts _ _ h in
    ap (λ b. cond b e.number (number_of (es ++ ds) f next)) parts.0 ∙ number_of-append_new es ds f next parts.1

pub number_of-self : (f : Fact) (k next : ℕ) → number_of (record { fact = f; number = k } ∷ []) f next ≡ k
number_of-self f k next = ap (λ b. cond b k next) (same_fact-same f)

-- a fact that was just numbered has the variable of its literal
atom_means : (world : Fact → Bool) (signs : ℕ → Bool) (n : Numbering) (f : Fact) → Agrees world (with_fact n f).facts signs
    → signs (number_of n.facts f n.variables) ≡ world f
atom_means world signs n f h =
    with_fact_cases n f (λ m. Agrees world m.facts signs → signs (number_of n.facts f n.variables) ≡ world f)
    (λ known h. h.at f n.variables known)
    (λ unknown h.
    let last : List NumberedFact = record { fact = f; number = n.variables } ∷ [] in
    let there : is_numbered (n.facts ++ last) f ≡ true =
    list_any-append (λ e. same_fact f e.fact) n.facts last ∙ or_right _ _ (or_left _ _ (same_fact-same f)) in
    let number : number_of (n.facts ++ last) f n.variables ≡ n.variables =
    number_of-append_new n.facts last f n.variables unknown ∙ number_of-self f n.variables n.variables in
    let next = number_next n.facts f n.variables unknown in
    let at = h.at f n.variables there in
    cc)
    h

pub same_truth_same_parts : (x y a b : Bool) → x ≡ a → y ≡ b → same_truth x y ≡ same_truth a b
same_truth_same_parts x y a b hx hy = cc

pub and_same : (x y a b : Bool) → x ≡ a → y ≡ b → (x && y) ≡ (a && b)
and_same x y a b hx hy = cc

pub or_same : (x y a b : Bool) → x ≡ a → y ≡ b → (x || y) ≡ (a || b)
or_same x y a b hx hy = cc

drop_false : (a b : Bool) → (a || (b || false)) ≡ (a || b)
drop_false true b = refl
drop_false false true = refl
drop_false false false = refl

pub implied : (o x y a b : Bool) → o ≡ not x → x ≡ a → y ≡ b → (o || (y || false)) ≡ (not a || b)
implied o x y a b ho hx hy = let e : (o || (y || false)) ≡ (not a || (b || false)) = cc in e ∙ drop_false (not a) b

-- the truth of literals, all and some
pub record PartsMean (world : Fact → Bool) (signs : ℕ → Bool) (parts : Grounds) (ls : List Literal) : Type 0 where
  pub all : list_all (literal_true signs) ls ≡ all_true world parts
  pub some : list_any (literal_true signs) ls ≡ some_true world parts

mutual
  -- where the clauses of a formula are true, its literal has its truth
  pub literal_means : (world : Fact → Bool) (signs : ℕ → Bool) (a : Ground) (n : Numbering) → signs 0 ≡ true → Agrees world (numbering_after a n).facts signs
      → clauses_true signs (clauses_of a n) ≡ true → literal_true signs (literal_of a n) ≡ true_ground world a
  literal_means world signs ground_true n z h t = z
  literal_means world signs ground_false n z h t = ap not z
  literal_means world signs (ground_atom f) n z h t = atom_means world signs n f h
  literal_means world signs (ground_not a) n z h t = literal_true-opposite signs (literal_of a n) ∙ ap not (literal_means world signs a n z h t)
  literal_means world signs (ground_all parts) n z h t =
      let m = numbering_after_parts parts n in
      let split = and_parts _ _ (sym (list_all-append (clause_true signs) (clauses_of_parts parts n) (and_clauses m.variables (literals_of parts n))) ∙ t) in
      let node = same_truth-true _ _ (sym (and_clauses_true signs m.variables (literals_of parts n)) ∙ split.1) in
      node ∙ (literals_mean world signs parts n z h split.0).all
  literal_means world signs (ground_some parts) n z h t =
      let m = numbering_after_parts parts n in
      let split = and_parts _ _ (sym (list_all-append (clause_true signs) (clauses_of_parts parts n) (or_clauses m.variables (literals_of parts n))) ∙ t) in
      let node = same_truth-true _ _ (sym (or_clauses_true signs m.variables (literals_of parts n)) ∙ split.1) in
      node ∙ (literals_mean world signs parts n z h split.0).some
  literal_means world signs (ground_implies a b) n z h t =
      let na = numbering_after a n in
      let m = numbering_after b na in
      let ls : List Literal = opposite (literal_of a n) ∷ literal_of b na ∷ [] in
      let split = and_parts _ _ (sym (list_all-append (clause_true signs) (clauses_of a n ++ clauses_of b na) (or_clauses m.variables ls)) ∙ t) in
      let inner = and_parts _ _ (sym (list_all-append (clause_true signs) (clauses_of a n) (clauses_of b na)) ∙ split.0) in
      let node = same_truth-true _ _ (sym (or_clauses_true signs m.variables ls) ∙ split.1) in
      let before = agrees_before world signs b na h in
      let ea = literal_means world signs a n z before inner.0 in
      let eb = literal_means world signs b na z h inner.1 in
      let ta = literal_true-opposite signs (literal_of a n) in
      node ∙ implied _ _ _ _ _ ta ea eb
  literal_means world signs (ground_iff a b) n z h t =
      let na = numbering_after a n in
      let m = numbering_after b na in
      let split = and_parts _ _
      (sym (list_all-append (clause_true signs) (clauses_of a n ++ clauses_of b na) (iff_clauses m.variables (literal_of a n) (literal_of b na))) ∙ t) in
      let inner = and_parts _ _ (sym (list_all-append (clause_true signs) (clauses_of a n) (clauses_of b na)) ∙ split.0) in
      let node = same_truth-true _ _ (sym (iff_clauses_true signs m.variables (literal_of a n) (literal_of b na)) ∙ split.1) in
      let before = agrees_before world signs b na h in
      let ea = literal_means world signs a n z before inner.0 in
      let eb = literal_means world signs b na z h inner.1 in
      node ∙ same_truth_same_parts _ _ _ _ ea eb

  pub literals_mean : (world : Fact → Bool) (signs : ℕ → Bool) (parts : Grounds) (n : Numbering) → signs 0 ≡ true
      → Agrees world (numbering_after_parts parts n).facts signs → clauses_true signs (clauses_of_parts parts n) ≡ true
      → PartsMean world signs parts (literals_of parts n)
  literals_mean world signs no_grounds n z h t = record { all = refl; some = refl }
  literals_mean world signs (more_grounds a rest) n z h t =
      let na = numbering_after a n in
      let split = and_parts _ _ (sym (list_all-append (clause_true signs) (clauses_of a n) (clauses_of_parts rest na)) ∙ t) in
      let before = agrees_before_parts world signs rest na h in
      let here = literal_means world signs a n z before split.0 in
      let there = literals_mean world signs rest na z h split.1 in
      record { all = and_same _ _ _ _ here there.all; some = or_same _ _ _ _ here there.some }
