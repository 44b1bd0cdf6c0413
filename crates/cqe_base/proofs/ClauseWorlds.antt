-- Worlds of models, and models of worlds.
use Rattle.std.proofs.Common.{◌≡◌, ℕ, ◌<◌, ◌≤◌, Bool, true, false, cond, not, ◌||◌, eqb, List, [], ◌∷◌, ◌++◌, refl, sym, ap, ◌∙◌, subst, ⊎_elim, arith}
use Rattle.std.proofs.Common.{append_assoc}
use Rattle.std.specs.List.{list_all, AllByRecursion}
use Rattle.std.proofs.lemmas.Bool.{or_cases, or_left, and_parts, and_from, both_ways, ne_eqb, eq-eqb}
use Rattle.std.proofs.lemmas.List.Folds.{list_any-append, list_all-append}
use Rattle.cqe_base.specs.declared.world.Fact.{Fact}
use Rattle.cqe_base.specs.ClauseForm.{IsProper, same_fact}
use Rattle.cqe_base.specs.Truth.{same_truth}
use Rattle.cqe_base.specs.Ground.{Ground, Grounds, ground_true, ground_false, ground_atom, ground_not, ground_all, ground_some, ground_implies, ground_iff}
use Rattle.cqe_base.specs.Ground.{no_grounds, more_grounds, true_ground}
use Rattle.cqe_base.specs.SignedGround.{SignedGround, true_signed, all_signed_true}
use Rattle.cqe_base.specs.Literal.{Literal, Positive, Negative, variable_of, opposite, literal_true, clause_true, clauses_true, ClauseBelow, ClausesBelow}
use Rattle.cqe_base.specs.ClauseForm.{NumberedFact, Numbering, first_numbering, is_numbered, number_of, with_fact, with_node, numbering_after}
use Rattle.cqe_base.specs.ClauseForm.{numbering_after_parts, literal_of, literals_of, and_clauses, or_clauses, iff_clauses, clauses_of, clauses_of_parts}
use Rattle.cqe_base.specs.ClauseForm.{signed_literal, numbering_after_list, clauses_of_list, clause_form, numbering_of}
use Rattle.std.specs.Prelude.{if◌then◌else◌}
use Rattle.cqe_base.proofs.SameFact.{same_fact-true}
use Rattle.cqe_base.proofs.ClauseTruth.{literal_true-opposite}
use Rattle.cqe_base.proofs.ClauseMeaning.{and_clauses_true, or_clauses_true, iff_clauses_true, same_truth-same, Agrees, agrees_before, number_of-append_new}
use Rattle.cqe_base.proofs.ClauseMeaning.{literal_means, same_truth_same_parts, and_same, or_same}
use Rattle.cqe_base.proofs.Numberings.{proper_constant, proper_below, opposite_below, ClausesBelow-more, ClausesBelow-append, with_fact_cases, IsProper-after}
use Rattle.cqe_base.proofs.Numberings.{IsProper-after_parts, variables-grow, variables-grow_parts, literal-below, literals-below, clauses-below}
use Rattle.cqe_base.proofs.Numberings.{clauses-below_parts, number_below, number_of-append}

-- the sign of a fact: its number's, or false where it has none
abbrev pub sign_of_fact : List NumberedFact → (ℕ → Bool) → Fact → Bool
sign_of_fact [] signs fact = false
sign_of_fact (e ∷ facts) signs fact = if same_fact fact e.fact then signs e.number else sign_of_fact facts signs fact

agrees_before_list : (world : Fact → Bool) (signs : ℕ → Bool) (formulas : List SignedGround) (n : Numbering)
    → Agrees world (numbering_after_list formulas n).facts signs → Agrees world n.facts signs
agrees_before_list world signs [] n h = h
agrees_before_list world signs (s ∷ rest) n h = agrees_before world signs s.0 n (agrees_before_list world signs rest _ h)

signed_means : (world : Fact → Bool) (signs : ℕ → Bool) (s : SignedGround) (n : Numbering) → literal_true signs (literal_of s.0 n) ≡ true_ground world s.0
    → literal_true signs (signed_literal s n) ≡ true_signed world s
signed_means world signs (a, true) n h = h
signed_means world signs (a, false) n h = literal_true-opposite signs (literal_of a n) ∙ ap not h

unit_true : (b : Bool) → (b || false) ≡ true → b ≡ true
unit_true true h = refl
unit_true false h = h

-- signs that agree with a world and make a list's clauses true show that the world makes the list true
pub list_means : (world : Fact → Bool) (signs : ℕ → Bool) (formulas : List SignedGround) (n : Numbering) → signs 0 ≡ true
    → Agrees world (numbering_after_list formulas n).facts signs → clauses_true signs (clauses_of_list formulas n) ≡ true
    → all_signed_true world formulas ≡ true
list_means world signs [] n z h t = refl
list_means world signs (s ∷ rest) n z h t =
    let na = numbering_after s.0 n in
    let split = and_parts _ _ (sym (list_all-append (clause_true signs) (clauses_of s.0 n) ((signed_literal s n ∷ []) ∷ clauses_of_list rest na)) ∙ t) in
    let rest_split = and_parts _ _ split.1 in
    let means = literal_means world signs s.0 n z (agrees_before_list world signs rest na h) split.0 in
    and_from _ _
    (sym (signed_means world signs s n means) ∙ unit_true _ rest_split.0)
    (list_means world signs rest na z h rest_split.1)

world_step : (e : NumberedFact) (f : Fact) (signs : ℕ → Bool) (number : ℕ) (world : Bool) (b c : Bool) → (c ≡ true → signs number ≡ world) → (b || c) ≡ true
    → signs (cond b e.number number) ≡ cond b (signs e.number) world
world_step e f signs number world true c go h = refl
world_step e f signs number world false c go h = go h

world_at : (facts : List NumberedFact) (signs : ℕ → Bool) (f : Fact) (next : ℕ) → is_numbered facts f ≡ true
    → signs (number_of facts f next) ≡ sign_of_fact facts signs f
world_at [] signs f next h = absurd (both_ways false refl h)
world_at (e ∷ facts) signs f next h =
    world_step e f signs (number_of facts f next) (sign_of_fact facts signs f) (same_fact f e.fact) (is_numbered facts f) (λ k. world_at facts signs f next k) h

-- the signs of facts agree with the signs
pub Agrees-signs : (facts : List NumberedFact) (signs : ℕ → Bool) → Agrees (sign_of_fact facts signs) facts signs
Agrees-signs facts signs = record { at = world_at facts signs }

-- signs that make a clause form true make the list true at their facts
pub model_gives_signs : (formulas : List SignedGround) (signs : ℕ → Bool) → clauses_true signs (clause_form formulas) ≡ true
    → all_signed_true (sign_of_fact (numbering_of formulas).facts signs) formulas ≡ true
model_gives_signs formulas signs t =
    let split = and_parts _ _ t in
    list_means _ signs formulas first_numbering (unit_true _ split.0) (Agrees-signs (numbering_of formulas).facts signs) split.1

-- signs that agree below a number
abbrev pub SameBelow : ℕ → (ℕ → Bool) → (ℕ → Bool) → Type 0
SameBelow k signs old = (v : ℕ) → v < k → signs v ≡ old v

literal_same : (k : ℕ) (signs old : ℕ → Bool) (l : Literal) → SameBelow k signs old → variable_of l < k → literal_true signs l ≡ literal_true old l
literal_same k signs old (Positive v) s h = s v h
literal_same k signs old (Negative v) s h = ap not (s v h)

clause_same : (k : ℕ) (signs old : ℕ → Bool) (c : List Literal) → SameBelow k signs old → ClauseBelow k c → clause_true signs c ≡ clause_true old c
clause_same k signs old [] s h = refl
clause_same k signs old (l ∷ c) s h = or_same _ _ _ _ (literal_same k signs old l s h.0) (clause_same k signs old c s h.1)

clauses_same : (k : ℕ) (signs old : ℕ → Bool) (cs : List (List Literal)) → SameBelow k signs old → ClausesBelow k cs
    → clauses_true signs cs ≡ clauses_true old cs
clauses_same k signs old [] s h = refl
clauses_same k signs old (c ∷ cs) s h = and_same _ _ _ _ (clause_same k signs old c s h.0) (clauses_same k signs old cs s h.1)

-- signs that go on from old ones: they agree with them below n's variables, with the world at the facts of m, and make the clauses true
pub record Extends (world : Fact → Bool) (old signs : ℕ → Bool) (n m : Numbering) (cs : List (List Literal)) : Type 0 where
  pub below : SameBelow n.variables signs old
  pub agrees : Agrees world m.facts signs
  pub clauses : clauses_true signs cs ≡ true

-- signs with another sign at one variable
abbrev with_sign : (ℕ → Bool) → ℕ → Bool → ℕ → Bool
with_sign signs v b k = cond (eqb k v) b (signs k)

with_sign_below : (signs : ℕ → Bool) (v : ℕ) (b : Bool) → SameBelow v (with_sign signs v b) signs
with_sign_below signs v b k h =
    let apart : eqb k v ≡ false = ne_eqb k v (λ e. omega arith) in
    ap (λ t. cond t b (signs k)) apart

with_sign_at : (signs : ℕ → Bool) (v : ℕ) (b : Bool) → with_sign signs v b v ≡ b
with_sign_at signs v b = ap (λ t. cond t b (signs v)) (eq-eqb v v refl)

agrees_kept : (world : Fact → Bool) (facts : List NumberedFact) (k : ℕ) (signs old : ℕ → Bool) → AllByRecursion (λ e. e.number < k) facts
    → SameBelow k signs old → Agrees world facts old → Agrees world facts signs
agrees_kept world facts k signs old below s h =
    record { at = λ f next known. s (number_of facts f next) (number_below facts f next k known below) ∙ h.at f next known }

fact_agrees : (world : Fact → Bool) (facts : List NumberedFact) (f g : Fact) (v next : ℕ) (signs : ℕ → Bool) (b : Bool) → is_numbered facts g ≡ b
    → signs v ≡ world f → (is_numbered facts g ≡ true → signs (number_of facts g next) ≡ world g)
    → is_numbered (facts ++ record { fact = f; number = v } ∷ []) g ≡ true → signs (number_of (facts ++ record { fact = f; number = v } ∷ []) g next) ≡ world g
fact_agrees world facts f g v next signs true e here go known =
    ap signs (number_of-append facts (record { fact = f; number = v } ∷ []) g next e) ∙ go e
fact_agrees world facts f g v next signs false e here go known =
    let last : List NumberedFact = record { fact = f; number = v } ∷ [] in
    let some : (is_numbered facts g || (same_fact g f || false)) ≡ true = sym (list_any-append (λ e. same_fact g e.fact) facts last) ∙ known in
    let is_last : same_fact g f ≡ true =
    ⊎_elim (λ u. absurd (both_ways _ e u)) (λ u. unit_true _ u) (or_cases _ _ some) in
    let number : number_of (facts ++ last) g next ≡ v = number_of-append_new facts last g next e ∙ ap (λ b. cond b v next) is_last in
    let same : g ≡ f = same_fact-true g f is_last in
    ap signs number ∙ here ∙ ap world (sym same)

extend_fact : (world : Fact → Bool) (old : ℕ → Bool) (f : Fact) (n : Numbering) → IsProper n → Agrees world n.facts old → (signs : ℕ → Bool)
    × Extends world old signs n (with_fact n f) []
extend_fact world old f n p h =
    with_fact_cases n f (λ m. (signs : ℕ → Bool) × Extends world old signs n m [])
    (λ known. (old, record { below = λ v _. refl; agrees = h; clauses = refl }))
    (λ unknown.
    let signs : ℕ → Bool = with_sign old n.variables (world f) in
    let below : SameBelow n.variables signs old = with_sign_below old n.variables (world f) in
    let kept = agrees_kept world n.facts n.variables signs old (proper_below n p) below h in (
      signs,
      record {
        below = below;
        agrees = record {
          at =
              λ g next known. fact_agrees world n.facts f g n.variables next signs (is_numbered n.facts g) refl (with_sign_at old n.variables (world f))
              (λ k. kept.at g next k) known;
        };
        clauses = refl;
      },
    ))

-- one extension after another
extends_then : (world : Fact → Bool) (old s1 s2 : ℕ → Bool) (n m k : Numbering) (cs ds : List (List Literal)) → n.variables ≤ m.variables
    → ClausesBelow m.variables cs → Extends world old s1 n m cs → Extends world s1 s2 m k ds → Extends world old s2 n k (cs ++ ds)
extends_then world old s1 s2 n m k cs ds le below e1 e2 =
    record {
      below = λ v h. let h' : v < m.variables = omega arith in e2.below v h' ∙ e1.below v h;
      agrees = e2.agrees;
      clauses = list_all-append (clause_true s2) cs ds ∙ and_from _ _ (clauses_same m.variables s2 s1 cs e2.below below ∙ e1.clauses) e2.clauses;
    }

-- a node's variable gets the sign that makes its clauses true
extends_node : (world : Fact → Bool) (old s1 : ℕ → Bool) (n m : Numbering) (cs node : List (List Literal)) (value : Bool) → IsProper m
    → n.variables ≤ m.variables → ClausesBelow m.variables cs → Extends world old s1 n m cs → clauses_true (with_sign s1 m.variables value) node ≡ true
    → Extends world old (with_sign s1 m.variables value) n (with_node m) (cs ++ node)
extends_node world old s1 n m cs node value p le below e t =
    let same = with_sign_below s1 m.variables value in
    record {
      below = λ v h. let h' : v < m.variables = omega arith in same v h' ∙ e.below v h;
      agrees = agrees_kept world m.facts m.variables (with_sign s1 m.variables value) s1 (proper_below m p) same e.agrees;
      clauses = list_all-append (clause_true (with_sign s1 m.variables value)) cs node
          ∙ and_from _ _ (clauses_same m.variables (with_sign s1 m.variables value) s1 cs same below ∙ e.clauses) t;
    }

literals_all_same : (k : ℕ) (signs old : ℕ → Bool) (ls : List Literal) → SameBelow k signs old → ClauseBelow k ls
    → list_all (literal_true signs) ls ≡ list_all (literal_true old) ls
literals_all_same k signs old [] s h = refl
literals_all_same k signs old (l ∷ ls) s h = and_same _ _ _ _ (literal_same k signs old l s h.0) (literals_all_same k signs old ls s h.1)

and_node_true : (s1 : ℕ → Bool) (v : ℕ) (ls : List Literal) → ClauseBelow v ls
    → clauses_true (with_sign s1 v (list_all (literal_true s1) ls)) (and_clauses v ls) ≡ true
and_node_true s1 v ls below =
    let value = list_all (literal_true s1) ls in
    let signs = with_sign s1 v value in
    and_clauses_true signs v ls
    ∙ same_truth-same _ _ (with_sign_at s1 v value ∙ sym (literals_all_same v signs s1 ls (with_sign_below s1 v value) below))

or_node_true : (s1 : ℕ → Bool) (v : ℕ) (ls : List Literal) → ClauseBelow v ls → clauses_true (with_sign s1 v (clause_true s1 ls)) (or_clauses v ls) ≡ true
or_node_true s1 v ls below =
    let value = clause_true s1 ls in
    let signs = with_sign s1 v value in
    or_clauses_true signs v ls
    ∙ same_truth-same _ _ (with_sign_at s1 v value ∙ sym (clause_same v signs s1 ls (with_sign_below s1 v value) below))

iff_node_true : (s1 : ℕ → Bool) (v : ℕ) (a b : Literal) → variable_of a < v → variable_of b < v
    → clauses_true (with_sign s1 v (same_truth (literal_true s1 a) (literal_true s1 b))) (iff_clauses v a b) ≡ true
iff_node_true s1 v a b ha hb =
    let value = same_truth (literal_true s1 a) (literal_true s1 b) in
    let signs = with_sign s1 v value in
    let same = with_sign_below s1 v value in
    iff_clauses_true signs v a b
    ∙ same_truth-same _ _ (with_sign_at s1 v value
    ∙ sym (same_truth_same_parts _ _ _ _ (literal_same v signs s1 a same ha) (literal_same v signs s1 b same hb)))

zero_kept : (old signs : ℕ → Bool) (n : Numbering) → IsProper n → SameBelow n.variables signs old → old 0 ≡ true → signs 0 ≡ true
zero_kept old signs n p s z = s 0 (proper_constant n p) ∙ z

mutual
  -- signs that agree with a world have an extension that makes a formula's clauses true
  pub extension : (world : Fact → Bool) (old : ℕ → Bool) (a : Ground) (n : Numbering) → IsProper n → Agrees world n.facts old → (signs : ℕ → Bool)
      × Extends world old signs n (numbering_after a n) (clauses_of a n)
  extension world old ground_true n p h = (old, record { below = λ v _. refl; agrees = h; clauses = refl })
  extension world old ground_false n p h = (old, record { below = λ v _. refl; agrees = h; clauses = refl })
  extension world old (ground_atom f) n p h = extend_fact world old f n p h
  extension world old (ground_not a) n p h = extension world old a n p h
  extension world old (ground_all parts) n p h =
      let m = numbering_after_parts parts n in
      let ls = literals_of parts n in
      let e = extension_parts world old parts n p h in (
        with_sign e.0 m.variables (list_all (literal_true e.0) ls),
        extends_node world old e.0 n m (clauses_of_parts parts n) (and_clauses m.variables ls) (list_all (literal_true e.0) ls)
            (IsProper-after_parts parts n p) (variables-grow_parts parts n) (clauses-below_parts parts n p) e.1
            (and_node_true e.0 m.variables ls (literals-below parts n p)),
      )
  extension world old (ground_some parts) n p h =
      let m = numbering_after_parts parts n in
      let ls = literals_of parts n in
      let e = extension_parts world old parts n p h in (
        with_sign e.0 m.variables (clause_true e.0 ls),
        extends_node world old e.0 n m (clauses_of_parts parts n) (or_clauses m.variables ls) (clause_true e.0 ls)
            (IsProper-after_parts parts n p) (variables-grow_parts parts n) (clauses-below_parts parts n p) e.1
            (or_node_true e.0 m.variables ls (literals-below parts n p)),
      )
  extension world old (ground_implies a b) n p h =
      let na = numbering_after a n in
      let m = numbering_after b na in
      let pa = IsProper-after a n p in
      let ls : List Literal = opposite (literal_of a n) ∷ literal_of b na ∷ [] in
      let ea = extension world old a n p h in
      let eb = extension world ea.0 b na pa ea.1.agrees in
      let grow_a = variables-grow a n in
      let grow_b = variables-grow b na in
      let la = literal-below a n p in
      let la' : variable_of (literal_of a n) < m.variables = omega arith in
      let ls_below : ClauseBelow m.variables ls = (opposite_below m.variables (literal_of a n) la', (literal-below b na pa, tt)) in
      let both = extends_then world old ea.0 eb.0 n na m (clauses_of a n) (clauses_of b na) grow_a (clauses-below a n p) ea.1 eb.1 in
      let cs_below = ClausesBelow-append m.variables (clauses_of a n) (clauses_of b na)
      (ClausesBelow-more (clauses_of a n) na.variables m.variables grow_b (clauses-below a n p)) (clauses-below b na pa) in (
        with_sign eb.0 m.variables (clause_true eb.0 ls),
        extends_node world old eb.0 n m (clauses_of a n ++ clauses_of b na) (or_clauses m.variables ls) (clause_true eb.0 ls)
            (IsProper-after b na pa) (omega arith) cs_below both
            (or_node_true eb.0 m.variables ls ls_below),
      )
  extension world old (ground_iff a b) n p h =
      let na = numbering_after a n in
      let m = numbering_after b na in
      let pa = IsProper-after a n p in
      let ea = extension world old a n p h in
      let eb = extension world ea.0 b na pa ea.1.agrees in
      let grow_a = variables-grow a n in
      let grow_b = variables-grow b na in
      let la = literal-below a n p in
      let la' : variable_of (literal_of a n) < m.variables = omega arith in
      let both = extends_then world old ea.0 eb.0 n na m (clauses_of a n) (clauses_of b na) grow_a (clauses-below a n p) ea.1 eb.1 in
      let cs_below = ClausesBelow-append m.variables (clauses_of a n) (clauses_of b na)
      (ClausesBelow-more (clauses_of a n) na.variables m.variables grow_b (clauses-below a n p)) (clauses-below b na pa) in
      let value = same_truth (literal_true eb.0 (literal_of a n)) (literal_true eb.0 (literal_of b na)) in (
        with_sign eb.0 m.variables value,
        extends_node world old eb.0 n m (clauses_of a n ++ clauses_of b na) (iff_clauses m.variables (literal_of a n) (literal_of b na)) value
            (IsProper-after b na pa) (omega arith) cs_below both
            (iff_node_true eb.0 m.variables (literal_of a n) (literal_of b na) la' (literal-below b na pa)),
      )

  pub extension_parts : (world : Fact → Bool) (old : ℕ → Bool) (parts : Grounds) (n : Numbering) → IsProper n → Agrees world n.facts old → (signs : ℕ → Bool)
      × Extends world old signs n (numbering_after_parts parts n) (clauses_of_parts parts n)
  extension_parts world old no_grounds n p h = (old, record { below = λ v _. refl; agrees = h; clauses = refl })
  extension_parts world old (more_grounds a rest) n p h =
      let na = numbering_after a n in
      let m = numbering_after_parts rest na in
      let ea = extension world old a n p h in
      let er = extension_parts world ea.0 rest na (IsProper-after a n p) ea.1.agrees in
      (er.0, extends_then world old ea.0 er.0 n na m (clauses_of a n) (clauses_of_parts rest na) (variables-grow a n) (clauses-below a n p) ea.1 er.1)

pub signed_below : (s : SignedGround) (n : Numbering) → IsProper n → variable_of (signed_literal s n) < (numbering_after s.0 n).variables
signed_below (a, true) n p = literal-below a n p
signed_below (a, false) n p = opposite_below _ (literal_of a n) (literal-below a n p)

-- the same for a list of signed formulas that the world makes true
pub list_extension : (world : Fact → Bool) (old : ℕ → Bool) (formulas : List SignedGround) (n : Numbering) → IsProper n → old 0 ≡ true
    → Agrees world n.facts old → all_signed_true world formulas ≡ true → (signs : ℕ → Bool)
    × Extends world old signs n (numbering_after_list formulas n) (clauses_of_list formulas n)
list_extension world old [] n p z h t = (old, record { below = λ v _. refl; agrees = h; clauses = refl })
list_extension world old (s ∷ rest) n p z h t =
    let na = numbering_after s.0 n in
    let pa = IsProper-after s.0 n p in
    let truth = and_parts (true_signed world s) (all_signed_true world rest) t in
    let ea = extension world old s.0 n p h in
    let za = zero_kept old ea.0 n p ea.1.below z in
    let means = literal_means world ea.0 s.0 n za ea.1.agrees ea.1.clauses in
    let here = signed_means world ea.0 s n means ∙ truth.0 in
    let root : clauses_true ea.0 ((signed_literal s n ∷ []) ∷ []) ≡ true = and_from _ _ (or_left _ _ here) refl in
    let root_below : ClausesBelow na.variables ((signed_literal s n ∷ []) ∷ []) = ((signed_below s n p, tt), tt) in
    let e1 : Extends world old ea.0 n na (clauses_of s.0 n ++ (signed_literal s n ∷ []) ∷ []) =
    record {
      below = ea.1.below;
      agrees = ea.1.agrees;
      clauses =
          list_all-append (clause_true ea.0) (clauses_of s.0 n) ((signed_literal s n ∷ []) ∷ []) ∙ and_from _ _ ea.1.clauses root;
    } in
    let er = list_extension world ea.0 rest na pa za ea.1.agrees truth.1 in
    let cs_below = ClausesBelow-append na.variables (clauses_of s.0 n) ((signed_literal s n ∷ []) ∷ []) (clauses-below s.0 n p) root_below in
    let all = extends_then world old ea.0 er.0 n na (numbering_after_list rest na) (clauses_of s.0 n ++ (signed_literal s n ∷ []) ∷ [])
    (clauses_of_list rest na) (variables-grow s.0 n) cs_below e1 er.1 in (
      er.0,
      subst (λ cs. Extends world old er.0 n (numbering_after_list rest na) cs)
          (append_assoc (clauses_of s.0 n) ((signed_literal s n ∷ []) ∷ []) (clauses_of_list rest na)) all,
    )

pub IsProper-first : IsProper first_numbering
IsProper-first = record { rising = omega arith; once = tt }

-- a world that makes a list true gives signs that make its clause form true, and that are the world's at the numbered facts
pub world_gives_model : (world : Fact → Bool) (formulas : List SignedGround) → all_signed_true world formulas ≡ true → (signs : ℕ → Bool)
    × (clauses_true signs (clause_form formulas) ≡ true) × Agrees world (numbering_of formulas).facts signs
world_gives_model world formulas t =
    let e = list_extension world (λ _. true) formulas first_numbering IsProper-first refl
    (record { at = λ f next known. absurd (both_ways false refl known) }) t in
    (e.0, and_from _ _ (or_left _ _ (e.1.below 0 (omega arith))) e.1.clauses, e.1.agrees)
