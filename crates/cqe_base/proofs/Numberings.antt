-- Which variables a walk takes, and which its clauses use.
use Rattle.std.proofs.Common.{◌≡◌, ℕ, ◌+◌, ◌<◌, ◌≤◌, Bool, true, false, cond, ◌||◌, List, [], ◌∷◌, ◌++◌, map, refl, ap, ◌∙◌, arith}
use Rattle.std.specs.List.{AllByRecursion}
use Rattle.std.proofs.lemmas.Bool.{or_left, or_parts, or_from, both_ways, cond_both}
use Rattle.std.proofs.lemmas.List.Folds.{list_any-append}
use Rattle.cqe_base.specs.declared.world.Fact.{Fact}
use Rattle.cqe_base.specs.ClauseForm.{same_fact}
use Rattle.cqe_base.specs.Ground.{Ground, Grounds, ground_true, ground_false, ground_atom, ground_not, ground_all, ground_some, ground_implies, ground_iff}
use Rattle.cqe_base.specs.Ground.{no_grounds, more_grounds}
use Rattle.cqe_base.specs.Literal.{Literal, Positive, Negative, variable_of, opposite, has_literal, union, distinct_literals, ClauseBelow, ClausesBelow}
use Rattle.cqe_base.specs.ClauseForm.{NumbersRise, NumberedOnce, IsProper, NumberedFact, Numbering, is_numbered, number_of, with_fact, with_node}
use Rattle.cqe_base.specs.ClauseForm.{numbering_after, numbering_after_parts, literal_of, literals_of, and_clauses, or_clauses, iff_clauses, clauses_of}
use Rattle.cqe_base.specs.ClauseForm.{clauses_of_parts}
use Rattle.cqe_base.proofs.ClauseTruth.{variable_of-opposite}
use Rattle.cqe_base.proofs.SameFact.{same_fact-apart}

rising-le : (facts : List NumberedFact) (low high : ℕ) → NumbersRise low facts high → low ≤ high
rising-le [] low high h = h
rising-le (e ∷ facts) low high h = let le = h.0 in let rest = rising-le facts (e.number + 1) high h.1 in omega arith

rising-below : (facts : List NumberedFact) (low high : ℕ) → NumbersRise low facts high → AllByRecursion (λ e. e.number < high) facts
rising-below [] low high h = tt
rising-below (e ∷ facts) low high h = let rest = rising-le facts (e.number + 1) high h.1 in (omega arith, rising-below facts (e.number + 1) high h.1)

rising-more : (facts : List NumberedFact) (low high more : ℕ) → high ≤ more → NumbersRise low facts high → NumbersRise low facts more
rising-more [] low high more le h = omega arith
rising-more (e ∷ facts) low high more le h = (h.0, rising-more facts (e.number + 1) high more le h.1)

rising-push : (facts : List NumberedFact) (f : Fact) (low high : ℕ) → NumbersRise low facts high → NumbersRise low (facts ++ record {
  fact =
      f;
  number = high;
} ∷ []) (high + 1)
rising-push [] f low high h = (h, omega arith)
rising-push (e ∷ facts) f low high h = (h.0, rising-push facts f (e.number + 1) high h.1)

-- the constant has a number
pub proper_constant : (n : Numbering) → IsProper n → 0 < n.variables
proper_constant n p = let le = rising-le n.facts 1 n.variables p.rising in omega arith

-- and each fact, below the next free one
pub proper_below : (n : Numbering) → IsProper n → AllByRecursion (λ e. e.number < n.variables) n.facts
proper_below n p = rising-below n.facts 1 n.variables p.rising

-- what holds after a fact was numbered, in both cases
pub with_fact_cases : (n : Numbering) (f : Fact) (P : Numbering → Type 0) → (is_numbered n.facts f ≡ true → P n)
    → (is_numbered n.facts f ≡ false → P (record { variables = n.variables + 1; facts = n.facts ++ record { fact = f; number = n.variables } ∷ [] }))
    → P (with_fact n f)
with_fact_cases n f P known new =
    cond_both (is_numbered n.facts f) n (record { variables = n.variables + 1; facts = n.facts ++ record { fact = f; number = n.variables } ∷ [] }) P known new

mutual
  -- a walk only takes variables
  pub variables-grow : (a : Ground) (n : Numbering) → n.variables ≤ (numbering_after a n).variables
  variables-grow ground_true n = omega arith
  variables-grow ground_false n = omega arith
  variables-grow (ground_atom f) n = with_fact_cases n f (λ m. n.variables ≤ m.variables) (λ _. omega arith) (λ _. omega arith)
  variables-grow (ground_not a) n = variables-grow a n
  variables-grow (ground_all parts) n = let h = variables-grow_parts parts n in omega arith
  variables-grow (ground_some parts) n = let h = variables-grow_parts parts n in omega arith
  variables-grow (ground_implies a b) n = let h = variables-grow a n in let k = variables-grow b (numbering_after a n) in omega arith
  variables-grow (ground_iff a b) n = let h = variables-grow a n in let k = variables-grow b (numbering_after a n) in omega arith

  pub variables-grow_parts : (parts : Grounds) (n : Numbering) → n.variables ≤ (numbering_after_parts parts n).variables
  variables-grow_parts no_grounds n = omega arith
  variables-grow_parts (more_grounds a rest) n = let h = variables-grow a n in let k = variables-grow_parts rest (numbering_after a n) in omega arith

pub proper_node : (n : Numbering) → IsProper n → IsProper (with_node n)
proper_node n p = record { rising = rising-more n.facts 1 n.variables (n.variables + 1) (omega arith) p.rising; once = p.once }

-- the other facts aren't a fact that is new
not_numbered-push : (es : List NumberedFact) (f g : Fact) (v : ℕ) → is_numbered es g ≡ false → same_fact g f ≡ false → is_numbered (es ++ record {
  fact =
      f;
  number = v;
} ∷ []) g ≡ false
not_numbered-push es f g v unknown apart =
    list_any-append (λ e. same_fact g e.fact) es (record { fact = f; number = v } ∷ []) ∙ or_from _ _ unknown (or_from _ _ apart refl)

-- a new fact is numbered once
pub NumberedOnce-push : (es : List NumberedFact) (f : Fact) (v : ℕ) → NumberedOnce es → is_numbered es f ≡ false → NumberedOnce (es ++ record {
  fact =
      f;
  number = v;
} ∷ [])
NumberedOnce-push [] f v once new = (refl, tt)
NumberedOnce-push (e ∷ es) f v once new =
    let parts : (same_fact f e.fact ≡ false) × (is_numbered es f ≡ false) = or_parts _ _ new in
    (not_numbered-push es f e.fact v once.0 (same_fact-apart f e.fact parts.0), NumberedOnce-push es f v once.1 parts.1)

proper_fact : (n : Numbering) (f : Fact) → IsProper n → IsProper (with_fact n f)
proper_fact n f p =
    with_fact_cases n f IsProper (λ _. p) (λ new. record {
      rising = rising-push n.facts f 1 n.variables p.rising;
      once = NumberedOnce-push n.facts f n.variables p.once new;
    })

mutual
  -- a walk keeps that each number is below the next free one
  pub IsProper-after : (a : Ground) (n : Numbering) → IsProper n → IsProper (numbering_after a n)
  IsProper-after ground_true n p = p
  IsProper-after ground_false n p = p
  IsProper-after (ground_atom f) n p = proper_fact n f p
  IsProper-after (ground_not a) n p = IsProper-after a n p
  IsProper-after (ground_all parts) n p = proper_node _ (IsProper-after_parts parts n p)
  IsProper-after (ground_some parts) n p = proper_node _ (IsProper-after_parts parts n p)
  IsProper-after (ground_implies a b) n p = proper_node _ (IsProper-after b _ (IsProper-after a n p))
  IsProper-after (ground_iff a b) n p = proper_node _ (IsProper-after b _ (IsProper-after a n p))

  pub IsProper-after_parts : (parts : Grounds) (n : Numbering) → IsProper n → IsProper (numbering_after_parts parts n)
  IsProper-after_parts no_grounds n p = p
  IsProper-after_parts (more_grounds a rest) n p = IsProper-after_parts rest _ (IsProper-after a n p)

number_below_step : (e : NumberedFact) (rest m : ℕ) (b c : Bool) → e.number < m → (c ≡ true → rest < m) → (b || c) ≡ true → cond b e.number rest < m
number_below_step e rest m true c here go known = here
number_below_step e rest m false c here go known = go known

-- a known fact's number is one of the numbers
pub number_below : (es : List NumberedFact) (f : Fact) (next m : ℕ) → is_numbered es f ≡ true → AllByRecursion (λ e. e.number < m) es → number_of es f next < m
number_below [] f next m known h = absurd (both_ways false refl known)
number_below (e ∷ es) f next m known h =
    number_below_step e (number_of es f next) m (same_fact f e.fact) (is_numbered es f) h.0 (λ k. number_below es f next m k h.1) known

-- an unknown fact has the next free number
pub number_next : (es : List NumberedFact) (f : Fact) (next : ℕ) → is_numbered es f ≡ false → number_of es f next ≡ next
number_next [] f next unknown = refl
number_next (e ∷ es) f next unknown =
    let parts : (same_fact f e.fact ≡ false) × (is_numbered es f ≡ false) = or_parts _ _ unknown in
    ap (λ b. cond b e.number (number_of es f next)) parts.0 ∙ number_next es f next parts.1

pub fact_below : (n : Numbering) (f : Fact) → IsProper n → number_of n.facts f n.variables < (with_fact n f).variables
fact_below n f p =
    with_fact_cases n f (λ m. number_of n.facts f n.variables < m.variables)
    (λ known. number_below n.facts f n.variables n.variables known (proper_below n p))
    (λ unknown. let e = number_next n.facts f n.variables unknown in omega arith)

-- the literal of a formula uses a variable that the walk has taken
pub literal-below : (a : Ground) (n : Numbering) → IsProper n → variable_of (literal_of a n) < (numbering_after a n).variables
literal-below ground_true n p = proper_constant n p
literal-below ground_false n p = proper_constant n p
literal-below (ground_atom f) n p = fact_below n f p
literal-below (ground_not a) n p = let h = literal-below a n p in rw variable_of-opposite h
literal-below (ground_all parts) n p = omega arith
literal-below (ground_some parts) n p = omega arith
literal-below (ground_implies a b) n p = omega arith
literal-below (ground_iff a b) n p = omega arith

-- a clause that uses variables below k uses variables below any larger number
pub ClauseBelow-more : (c : List Literal) (k m : ℕ) → k ≤ m → ClauseBelow k c → ClauseBelow m c
ClauseBelow-more [] k m le h = h
ClauseBelow-more (l ∷ c) k m le h = let x : variable_of l < k = h.0 in (omega arith, ClauseBelow-more c k m le h.1)

pub ClausesBelow-more : (cs : List (List Literal)) (k m : ℕ) → k ≤ m → ClausesBelow k cs → ClausesBelow m cs
ClausesBelow-more [] k m le h = h
ClausesBelow-more (c ∷ cs) k m le h = (ClauseBelow-more c k m le h.0, ClausesBelow-more cs k m le h.1)

pub ClausesBelow-append : (k : ℕ) (cs ds : List (List Literal)) → ClausesBelow k cs → ClausesBelow k ds → ClausesBelow k (cs ++ ds)
ClausesBelow-append k [] ds h i = i
ClausesBelow-append k (c ∷ cs) ds h i = (h.0, ClausesBelow-append k cs ds h.1 i)

push_below : (k : ℕ) (c : List Literal) (l : Literal) → ClauseBelow k c → variable_of l < k → ClauseBelow k (c ++ l ∷ [])
push_below k [] l h i = (i, tt)
push_below k (m ∷ c) l h i = (h.0, push_below k c l h.1 i)

-- a union uses what its clauses use
pub ClauseBelow-union : (k : ℕ) (d c : List Literal) → ClauseBelow k c → ClauseBelow k d → ClauseBelow k (union c d)
ClauseBelow-union k [] c h i = h
ClauseBelow-union k (l ∷ d) c h i =
    ClauseBelow-union k d _ (cond_both (has_literal c l) c (c ++ l ∷ []) (ClauseBelow k) (λ _. h) (λ _. push_below k c l h i.0)) i.1

distinct_below : (k : ℕ) (c : List Literal) → ClauseBelow k c → ClauseBelow k (distinct_literals c)
distinct_below k c h = ClauseBelow-union k c [] tt h

pub opposite_below : (k : ℕ) (l : Literal) → variable_of l < k → variable_of (opposite l) < k
opposite_below k l h = rw variable_of-opposite h

opposites_below : (k : ℕ) (ls : List Literal) → ClauseBelow k ls → ClauseBelow k (map opposite ls)
opposites_below k [] h = h
opposites_below k (l ∷ ls) h = (opposite_below k l h.0, opposites_below k ls h.1)

and_edges_below : (k v : ℕ) (ls : List Literal) → v < k → ClauseBelow k ls → ClausesBelow k (map (λ l. distinct_literals (Negative v ∷ l ∷ [])) ls)
and_edges_below k v [] hv h = tt
and_edges_below k v (l ∷ ls) hv h = (distinct_below k (Negative v ∷ l ∷ []) (hv, (h.0, tt)), and_edges_below k v ls hv h.1)

or_edges_below : (k v : ℕ) (ls : List Literal) → v < k → ClauseBelow k ls → ClausesBelow k (map (λ l. distinct_literals (Positive v ∷ opposite l ∷ [])) ls)
or_edges_below k v [] hv h = tt
or_edges_below k v (l ∷ ls) hv h = (distinct_below k (Positive v ∷ opposite l ∷ []) (hv, (opposite_below k l h.0, tt)), or_edges_below k v ls hv h.1)

-- the clauses of a node use its variable and its children's
pub and_clauses-below : (k v : ℕ) (ls : List Literal) → v < k → ClauseBelow k ls → ClausesBelow k (and_clauses v ls)
and_clauses-below k v ls hv h =
    ClausesBelow-append k (map (λ l. distinct_literals (Negative v ∷ l ∷ [])) ls) (distinct_literals (Positive v ∷ map opposite ls) ∷ [])
    (and_edges_below k v ls hv h) (distinct_below k (Positive v ∷ map opposite ls) (hv, opposites_below k ls h), tt)

pub or_clauses-below : (k v : ℕ) (ls : List Literal) → v < k → ClauseBelow k ls → ClausesBelow k (or_clauses v ls)
or_clauses-below k v ls hv h =
    ClausesBelow-append k (map (λ l. distinct_literals (Positive v ∷ opposite l ∷ [])) ls) (distinct_literals (Negative v ∷ ls) ∷ [])
    (or_edges_below k v ls hv h) (distinct_below k (Negative v ∷ ls) (hv, h), tt)

pub iff_clauses-below : (k v : ℕ) (a b : Literal) → v < k → variable_of a < k → variable_of b < k → ClausesBelow k (iff_clauses v a b)
iff_clauses-below k v a b hv ha hb =
    let na = opposite_below k a ha in
    let nb = opposite_below k b hb in (
      distinct_below k (Negative v ∷ opposite a ∷ b ∷ []) (hv, (na, (hb, tt))),
      (
        distinct_below k (Negative v ∷ a ∷ opposite b ∷ []) (hv, (ha, (nb, tt))),
        (
          distinct_below k (Positive v ∷ a ∷ b ∷ []) (hv, (ha, (hb, tt))),
          (distinct_below k (Positive v ∷ opposite a ∷ opposite b ∷ []) (hv, (na, (nb, tt))), tt),
        ),
      ),
    )

-- so do the literals of parts
pub literals-below : (parts : Grounds) (n : Numbering) → IsProper n → ClauseBelow (numbering_after_parts parts n).variables (literals_of parts n)
literals-below no_grounds n p = tt
literals-below (more_grounds a rest) n p =
    let here = literal-below a n p in
    let grow = variables-grow_parts rest (numbering_after a n) in
    (omega arith, literals-below rest (numbering_after a n) (IsProper-after a n p))

mutual
  -- the clauses of a formula use variables that its walk or an earlier one has taken
  pub clauses-below : (a : Ground) (n : Numbering) → IsProper n → ClausesBelow (numbering_after a n).variables (clauses_of a n)
  clauses-below ground_true n p = tt
  clauses-below ground_false n p = tt
  clauses-below (ground_atom f) n p = tt
  clauses-below (ground_not a) n p = clauses-below a n p
  clauses-below (ground_all parts) n p =
      let m = numbering_after_parts parts n in
      let up : m.variables ≤ m.variables + 1 = omega arith in
      ClausesBelow-append _ (clauses_of_parts parts n) (and_clauses m.variables (literals_of parts n))
      (ClausesBelow-more _ _ _ up (clauses-below_parts parts n p))
      (and_clauses-below _ m.variables (literals_of parts n) (omega arith) (ClauseBelow-more _ _ _ up (literals-below parts n p)))
  clauses-below (ground_some parts) n p =
      let m = numbering_after_parts parts n in
      let up : m.variables ≤ m.variables + 1 = omega arith in
      ClausesBelow-append _ (clauses_of_parts parts n) (or_clauses m.variables (literals_of parts n))
      (ClausesBelow-more _ _ _ up (clauses-below_parts parts n p))
      (or_clauses-below _ m.variables (literals_of parts n) (omega arith) (ClauseBelow-more _ _ _ up (literals-below parts n p)))
  clauses-below (ground_implies a b) n p =
      let na = numbering_after a n in
      let m = numbering_after b na in
      let pa = IsProper-after a n p in
      let grow : na.variables ≤ m.variables = variables-grow b na in
      let la = literal-below a n p in
      let lb = literal-below b na pa in
      let ka : na.variables ≤ m.variables + 1 = omega arith in
      let kb : m.variables ≤ m.variables + 1 = omega arith in
      ClausesBelow-append _ (clauses_of a n ++ clauses_of b na) (or_clauses m.variables (opposite (literal_of a n) ∷ literal_of b na ∷ []))
      (ClausesBelow-append _ (clauses_of a n) (clauses_of b na)
      (ClausesBelow-more _ _ _ ka (clauses-below a n p))
      (ClausesBelow-more _ _ _ kb (clauses-below b na pa)))
      (or_clauses-below (m.variables + 1) m.variables (opposite (literal_of a n) ∷ literal_of b na ∷ []) (omega arith)
      (opposite_below (m.variables + 1) (literal_of a n) (omega arith), (omega arith, tt)))
  clauses-below (ground_iff a b) n p =
      let na = numbering_after a n in
      let m = numbering_after b na in
      let pa = IsProper-after a n p in
      let grow : na.variables ≤ m.variables = variables-grow b na in
      let la = literal-below a n p in
      let lb = literal-below b na pa in
      let ka : na.variables ≤ m.variables + 1 = omega arith in
      let kb : m.variables ≤ m.variables + 1 = omega arith in
      ClausesBelow-append _ (clauses_of a n ++ clauses_of b na) (iff_clauses m.variables (literal_of a n) (literal_of b na))
      (ClausesBelow-append _ (clauses_of a n) (clauses_of b na)
      (ClausesBelow-more _ _ _ ka (clauses-below a n p))
      (ClausesBelow-more _ _ _ kb (clauses-below b na pa)))
      (iff_clauses-below _ m.variables (literal_of a n) (literal_of b na) (omega arith) (omega arith) (omega arith))

  pub clauses-below_parts : (parts : Grounds) (n : Numbering) → IsProper n → ClausesBelow (numbering_after_parts parts n).variables (clauses_of_parts parts n)
  clauses-below_parts no_grounds n p = tt
  clauses-below_parts (more_grounds a rest) n p =
      let na = numbering_after a n in
      ClausesBelow-append _ (clauses_of a n) (clauses_of_parts rest na)
      (ClausesBelow-more _ _ _ (variables-grow_parts rest na) (clauses-below a n p))
      (clauses-below_parts rest na (IsProper-after a n p))

mutual
  -- the numbered facts stay in front
  pub facts-grow : (a : Ground) (n : Numbering) (f : Fact) → is_numbered n.facts f ≡ true → is_numbered (numbering_after a n).facts f ≡ true
  facts-grow ground_true n f h = h
  facts-grow ground_false n f h = h
  facts-grow (ground_atom g) n f h =
      with_fact_cases n g (λ m. is_numbered m.facts f ≡ true) (λ _. h) (λ _. list_any-append (λ e. same_fact f e.fact) n.facts _ ∙ or_left _ _ h)
  facts-grow (ground_not a) n f h = facts-grow a n f h
  facts-grow (ground_all parts) n f h = facts-grow_parts parts n f h
  facts-grow (ground_some parts) n f h = facts-grow_parts parts n f h
  facts-grow (ground_implies a b) n f h = facts-grow b _ f (facts-grow a n f h)
  facts-grow (ground_iff a b) n f h = facts-grow b _ f (facts-grow a n f h)

  pub facts-grow_parts : (parts : Grounds) (n : Numbering) (f : Fact) → is_numbered n.facts f ≡ true
      → is_numbered (numbering_after_parts parts n).facts f ≡ true
  facts-grow_parts no_grounds n f h = h
  facts-grow_parts (more_grounds a rest) n f h = facts-grow_parts rest _ f (facts-grow a n f h)

known_step : (b c : Bool) (x y z : ℕ) → (c ≡ true → y ≡ z) → (b || c) ≡ true → cond b x y ≡ cond b x z
known_step true c x y z go h = refl
known_step false c x y z go h = go h

-- a known fact keeps its number
pub number_of-append : (es ds : List NumberedFact) (f : Fact) (next : ℕ) → is_numbered es f ≡ true → number_of (es ++ ds) f next ≡ number_of es f next
number_of-append [] ds f next h = absurd (both_ways false refl h)
number_of-append (e ∷ es) ds f next h =
    known_step (same_fact f e.fact) (is_numbered es f) e.number (number_of (es ++ ds) f next) (number_of es f next) (λ k. number_of-append es ds f next k) h
