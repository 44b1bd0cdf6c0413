-- One more entry of a trail whose latest entry is last.
use Rattle.std.proofs.Common.{◌≡◌, ℕ, zero, suc, Option, subst, arith, map, append_assoc, ◌+◌, ◌-◌, ◌<◌, ◌≤◌, Bool, true, false, cond, eqb, List, [], ◌∷◌, ◌++◌}
use Rattle.std.proofs.Common.{length, reverse, get_or, take, drop, refl, sym, ap, ◌∙◌}
use Rattle.std.specs.List.{range_with_len, position_from, list_all}
use Rattle.clause_solver.specs.declared.ends.Advance.{Advance}
use Rattle.clause_solver.specs.PlainStates.{StepIs}
use Rattle.std.proofs.lemmas.List.{take_more, take-append-drop, reverse-append}
use Rattle.std.proofs.lemmas.List.Sums.{sum_by-append, sum_by-drop_more}
use Rattle.std.proofs.lemmas.Bool.{both_ways, le-leb, lt-ltb, le-ltb}
use Rattle.std.proofs.Math.Numerals.{suc-eq-add-one}
use Rattle.cqe_base.specs.Literal.{Literal, variable_of}
use Rattle.cqe_base.specs.Machine.{Assigned, Decided, Because, assigned_literal, level, level_of, cut, is_current, current_count, latest_against, resolved_with}
use Rattle.cqe_base.specs.Machine.{analysis, State, is_false, step, conflict_or_unit_step}
use Rattle.cqe_base.specs.Refutation.{RefutationLine}
use Rattle.clause_solver.specs.Entries.{is_decided}

-- one more element of a list comes first in its reverse
pub reverse-take_more : {X : Type 0} (xs : List X) (i : ℕ) (x : X) → i < length xs → x ≡ get_or xs i x → reverse (take (i + 1) xs) ≡ x ∷ reverse (take i xs)
reverse-take_more xs i x h e =
    ap reverse (take_more xs i x h ∙ ap (λ y. take i xs ++ y ∷ []) (sym e)) ∙ reverse-append (take i xs) (x ∷ [])

-- a decided entry raises the level
pub level-cons : (x : Assigned) (t : List Assigned) → level (x ∷ t) ≡ cond (is_decided x) (level t + 1) (level t)
level-cons (Decided l) t = suc-eq-add-one (level t)
level-cons (Because i l) t = refl

-- the level of a trail with one more entry
pub level_step : (xs : List Assigned) (i : ℕ) (x : Assigned) (n n' : ℕ) → i < length xs → x ≡ get_or xs i x → n ≡ level (reverse (take i xs))
    → n' ≡ cond (is_decided x) (n + 1) n → n' ≡ level (reverse (take (i + 1) xs))
level_step xs i x n n' h e counted step =
    step
    ∙ ap (λ m. cond (is_decided x) (m + 1) m) counted
    ∙ sym (level-cons x (reverse (take i xs)))
    ∙ ap level (sym (reverse-take_more xs i x h e))

-- the level of a literal on a trail with one more entry
pub level_of_step : (xs : List Assigned) (i : ℕ) (x : Assigned) (l : Literal) (n f f' : ℕ) → i < length xs → x ≡ get_or xs i x
    → n ≡ level (reverse (take (i + 1) xs)) → f ≡ level_of (reverse (take i xs)) l → f' ≡ cond (eqb (variable_of l) (variable_of (assigned_literal x))) n f
    → f' ≡ level_of (reverse (take (i + 1) xs)) l
level_of_step xs i x l n f f' h e counted found step =
    let more = reverse-take_more xs i x h e in
    let n_is : n ≡ level (x ∷ reverse (take i xs)) = counted ∙ ap level more in
    step
    ∙ ap (λ m. cond (eqb (variable_of l) (variable_of (assigned_literal x))) m f) n_is
    ∙ ap (λ m. cond (eqb (variable_of l) (variable_of (assigned_literal x))) (level (x ∷ reverse (take i xs))) m) found
    ∙ ap (λ t. level_of t l) (sym more)

-- a value that was chosen by a test
pub chosen_true : (b : Bool) (m x y : ℕ) → b ≡ true → m ≡ x → m ≡ cond b x y
chosen_true true m x y e h = h
chosen_true false m x y e h = absurd (both_ways _ refl e)

pub chosen_false : (b : Bool) (m x y : ℕ) → b ≡ false → m ≡ y → m ≡ cond b x y
chosen_false false m x y e h = h
chosen_false true m x y e h = absurd (both_ways _ e refl)

-- a trail of at most this level stays
pub cut-low : (k : ℕ) (t : List Assigned) → level t ≤ k → cut k t ≡ t
cut-low k [] h = refl
cut-low k (x ∷ t) h = ap (λ b. cond b (x ∷ t) (cut k t)) (le-leb (level (x ∷ t)) k h)

-- one more resolution where too many literals of the current level are left
pub analysis_more : (cs : List (List Literal)) (trail : List Assigned) (keep n i : ℕ) (line line' : RefutationLine) → i < n
    → keep < current_count trail line.clause → line' ≡ resolved_with cs (latest_against trail line.clause) line
    → analysis cs trail keep (n - (i + 1)) line' ≡ analysis cs trail keep (n - i) line
analysis_more cs trail keep n i line line' low more e =
    let one : n - i ≡ suc (n - (i + 1)) = omega arith in
    ap (analysis cs trail keep (n - (i + 1))) e
    ∙ sym (ap (λ b. cond b (analysis cs trail keep (n - (i + 1)) (resolved_with cs (latest_against trail line.clause) line)) line)
    (lt-ltb keep (current_count trail line.clause) more))
    ∙ sym (ap (λ times. analysis cs trail keep times line) one)

-- few enough literals of the current level are left
pub analysis_done : (cs : List (List Literal)) (trail : List Assigned) (keep times : ℕ) (line : RefutationLine) → current_count trail line.clause ≤ keep
    → analysis cs trail keep times line ≡ line
analysis_done cs trail keep zero line few = refl
analysis_done cs trail keep (suc times) line few =
    ap (λ b. cond b (analysis cs trail keep times (resolved_with cs (latest_against trail line.clause) line)) line)
    (le-ltb keep (current_count trail line.clause) few)

more_counted : (before here behind one left most whole : ℕ) → behind + left ≡ most → here ≡ one + behind → one ≡ 1 → before + here ≡ whole → left ≡ 0
    → most < whole
more_counted before here behind one left most whole same at counted sum none = omega arith

-- the literals of the current level behind a place, and one at that
pub more_current : (t : List Assigned) (c : List Literal) (i left most : ℕ) (l : Literal) → i < length c → current_count t (drop (length c - i) c) + left ≡ most
    → l ≡ get_or c (length c - 1 - i) l → is_current t l ≡ true → left ≡ 0 → most < current_count t c
more_current t c i left most l lt same at on none =
    let k = length c - 1 - i in
    let next : length c - i ≡ k + 1 = omega arith in
    more_counted (current_count t (take k c)) (current_count t (drop k c)) (current_count t (drop (k + 1) c)) (cond (is_current t l) 1 0) left most
    (current_count t c)
    (ap (λ j. current_count t (drop j c) + left) (sym next) ∙ same)
    (sum_by-drop_more (λ m. cond (is_current t m) 1 0) c k l (omega arith) ∙ ap (λ m. cond (is_current t m) 1 0 + current_count t (drop (k + 1) c)) (sym at))
    (ap (λ b. cond b 1 0) on)
    (sym (sum_by-append (λ m. cond (is_current t m) 1 0) (take k c) (drop k c)) ∙ ap (current_count t) (take-append-drop k c))
    none

-- the numbers from v to below n begin with v
pub range_more : (v n : ℕ) → v < n → range_with_len v (n - v) ≡ v ∷ range_with_len (v + 1) (n - (v + 1))
range_more v n h =
    let one : n - v ≡ suc (n - (v + 1)) = omega arith in
    ap (λ k. range_with_len v k) one

-- one more sign
pub signs_step : (f : ℕ → Bool) (xs xs' : List Bool) (v n : ℕ) → v < n → xs' ≡ xs ++ f v ∷ []
    → xs' ++ map f (range_with_len (v + 1) (n - (v + 1))) ≡ xs ++ map f (range_with_len v (n - v))
signs_step f xs xs' v n h e =
    ap (λ ys. ys ++ map f (range_with_len (v + 1) (n - (v + 1)))) e
    ∙ append_assoc xs (f v ∷ []) (map f (range_with_len (v + 1) (n - (v + 1))))
    ∙ ap (λ r. xs ++ map f r) (sym (range_more v n h))

-- a step is that of the first rule that applies
pub step_at : (n : ℕ) (s : State) (o : Option ℕ) → o ≡ position_from (list_all (is_false s.trail)) 0 s.clauses → step n s ≡ conflict_or_unit_step n s o
unfolding step
step_at n s o e = ap (conflict_or_unit_step n s) (sym e)

-- what is said of the rule that applies is said of the step
pub StepIs-step : (n : ℕ) (s : State) (o : Option ℕ) (a : Advance) (new : State) → o ≡ position_from (list_all (is_false s.trail)) 0 s.clauses
    → StepIs (conflict_or_unit_step n s o) a new → StepIs (step n s) a new
StepIs-step n s o a new e h = subst (λ x. StepIs x a new) (sym (step_at n s o e)) h
