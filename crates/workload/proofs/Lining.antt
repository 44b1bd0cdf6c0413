-- The lines of a facts file are its statements.
use Rattle.std.proofs.Common.{◌≡◌, ◌∙◌, sym, ap, subst, refl, ℕ, zero, suc, ◌+◌, ◌*◌, ◌/◌, ◌<◌, Bool, true, not, ◌&&◌, ◌==◌, List, [], ◌∷◌, ◌++◌, map, codes}
use Rattle.std.proofs.Common.{decimal, Some, arith, append_assoc}
use Rattle.std.specs.Fmt.{digits}
use Rattle.std.specs.List.{list_all, flat_map, range_with_len, AllByRecursion}
use Rattle.std.proofs.Math.Nat.{mod-lt}
use Rattle.std.proofs.lemmas.Bool.{and_parts, not-true}
use Rattle.std.proofs.lemmas.List.{append-nil}
use Rattle.std.proofs.lemmas.List.Folds.{list_all-append}
use Rattle.cqe_base.specs.FactText.{stated_fact}
use Rattle.cqe_base.specs.Lines.{lines_begun, text_lines, without_return, content}
use Rattle.cqe_base.proofs.TextLines.{lines_begun-byte}
use Rattle.sentence_text.specs.Laws.{CanonicalFormsRead}
use Rattle.workload.specs.Draws.{state_after}
use Rattle.workload.specs.Statements.{statement_text, facts_text, illness, treatment, illnesses, treatments, statements}
use Rattle.workload.specs.Stated.{workload_schema, meant_fact, stated_facts}
use Rattle.workload.specs.declared.statement.Statement.{Statement}
use Rattle.workload.specs.declared.statement.Statement.TheVariants.{Drug, Has}
use Rattle.workload.proofs.Stating.{IsWithin, states}

-- the byte is no line feed
abbrev pub is_other : ℕ → Bool
is_other b = not (b == 10)

pub line_up : (seen bytes rest : List ℕ) → list_all is_other bytes ≡ true → lines_begun seen (bytes ++ 10 ∷ rest) ≡ record {
  bytes =
      seen ++ bytes;
  ended = true;
} ∷ lines_begun [] rest
line_up [] [] rest all = refl
line_up (s ∷ seen) [] rest all = ap (λ (l : List ℕ). record { bytes = l; ended = true } ∷ lines_begun [] rest) (sym (append-nil (s ∷ seen)))
line_up seen (b ∷ bytes) rest all =
    let parts = and_parts (is_other b) (list_all is_other bytes) all in
    lines_begun-byte seen (bytes ++ 10 ∷ rest) b (not-true (b == 10) parts.0) ∙ line_up (seen ++ b ∷ []) bytes rest parts.1
    ∙ ap (λ (l : List ℕ). record { bytes = l; ended = true } ∷ lines_begun [] rest) (append_assoc seen (b ∷ []) bytes)

pub all_at : (p : ℕ → Bool) (a n j k : ℕ) → k ≡ a + j → j < n → list_all p (range_with_len a n) ≡ true → p k ≡ true
all_at p a zero j k is less all = absurd (omega (arith, less))
all_at p a (suc n) zero k is less all = subst (λ m. p m ≡ true) (omega (arith, is)) (and_parts (p a) (list_all p (range_with_len (a + 1) n)) all).0
all_at p a (suc n) (suc j) k is less all =
    all_at p (a + 1) n j k (omega (arith, is)) (omega (arith, less)) (and_parts (p a) (list_all p (range_with_len (a + 1) n)) all).1

few_digits : list_all (λ n. list_all is_other (decimal n)) (range_with_len 0 40) ≡ true
unfolding digits
few_digits = refl

no_feed_in : (n : ℕ) → n < 40 → list_all is_other (decimal n) ≡ true
no_feed_in n less = all_at (λ m. list_all is_other (decimal m)) 0 40 n n (omega arith) less few_digits

on_one_line : (statement : Statement) → IsWithin statement → list_all is_other (statement_text statement) ≡ true
on_one_line (Drug j) less =
    list_all-append is_other (decimal j) (codes ")") ∙ ap (λ (b : Bool). b && true) (no_feed_in j less)
on_one_line (Has j k) within =
    list_all-append is_other (decimal j) (codes ", d" ++ (decimal k ++ codes ")"))
    ∙ (λ i. no_feed_in j within.0 i
    && (list_all-append is_other (decimal k) (codes ")") ∙ ap (λ (b : Bool). b && true) (no_feed_in k (omega (arith, within.1)))) i)

kept : (text : List ℕ) → without_return (text ++ codes ")") ≡ text ++ codes ")"
kept [] = refl
kept (a ∷ []) = refl
kept (a ∷ b ∷ text) = ap (λ (l : List ℕ). a ∷ l) (kept (b ∷ text))

pub no_return : (statement : Statement) → without_return (statement_text statement) ≡ statement_text statement
no_return (Drug j) = kept (codes "drug(p" ++ decimal j)
no_return (Has j k) =
    let whole : (codes "has(p" ++ (decimal j ++ (codes ", d" ++ decimal k))) ++ codes ")" ≡ statement_text (Has j k) =
    ap (λ (l : List ℕ). codes "has(p" ++ l) (append_assoc (decimal j) (codes ", d" ++ decimal k) (codes ")")) in
    subst (λ t. without_return t ≡ t) whole (kept (codes "has(p" ++ (decimal j ++ (codes ", d" ++ decimal k))))

-- the first line is the first statement
pub first_line : (statement : Statement) (all : List Statement) → IsWithin statement → text_lines (facts_text (statement ∷ all)) ≡ record {
  bytes =
      statement_text statement;
  ended = true;
} ∷ text_lines (facts_text all)
unfolding text_lines
first_line statement all within =
    ap (lines_begun []) (append_assoc (statement_text statement) (codes "\n") (facts_text all))
    ∙ line_up [] (statement_text statement) (facts_text all) (on_one_line statement within)

-- the lines of the text of some statements state their facts
pub lines_state : CanonicalFormsRead → (all : List Statement) → AllByRecursion IsWithin all
    → stated_facts (facts_text all) ≡ map (λ statement. Some (meant_fact statement)) all
unfolding text_lines
lines_state law [] within = refl
lines_state law (statement ∷ all) within =
    ap (map (λ l. stated_fact workload_schema (content l))) (first_line statement all within.0)
    ∙ (λ i. (ap (stated_fact workload_schema) (no_return statement) ∙ states law statement within.0) i ∷ lines_state law all within.1 i)

each_map : {A : Type 0} (P : A → Type 0) (f : ℕ → A) (xs : List ℕ) → ((n : ℕ) → P (f n)) → AllByRecursion P (map f xs)
each_map P f [] each = tt
each_map P f (x ∷ xs) each = (each x, each_map P f xs each)

each_append : {A : Type 0} (P : A → Type 0) (xs ys : List A) → AllByRecursion P xs → AllByRecursion P ys → AllByRecursion P (xs ++ ys)
each_append P [] ys first second = second
each_append P (x ∷ xs) ys first second = (first.0, each_append P xs ys first.1 second)

treated : (seed : ℕ) (xs : List ℕ) → AllByRecursion IsWithin (flat_map (treatment seed) xs)
treated seed [] = tt
treated seed (x ∷ xs) = (
  mod-lt (state_after seed (600 + x + 1) / 65536) {m = 40} (omega arith),
  ((mod-lt (state_after seed (600 + x + 1) / 65536) {m = 40} (omega arith), omega arith), treated seed xs),
)

-- all statements are about the forty persons and the twelve diseases
pub within : (seed : ℕ) → AllByRecursion IsWithin (statements seed)
unfolding illnesses treatments
within seed =
    each_append IsWithin (illnesses seed 300) (treatments seed 20)
    (each_map IsWithin (illness seed) (range_with_len 0 300) (λ n.
    (mod-lt (state_after seed (2 * n + 1) / 65536) {m = 40} (omega arith), mod-lt (state_after seed (2 * n + 1 + 1) / 65536) {m = 12} (omega arith))))
    (treated seed (range_with_len 0 20))
