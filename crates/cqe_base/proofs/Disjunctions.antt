-- The disjunction of secrets: where it is false, and that what is guarded are sentences.
use Rattle.std.proofs.Common.{◌≡◌, true, false, List, [], ◌∷◌, ◌++◌, refl, sym, ap, ◌∙◌, arith}
use Rattle.std.proofs.lemmas.Bool.{or_from}
use Rattle.std.specs.Prelude.{Contains, fold}
use Rattle.std.specs.List.{list_any, list_all}
use Rattle.cqe_base.specs.declared.user.Method.{Method}
use Rattle.cqe_base.specs.declared.user.Method.TheVariants.{Lying, Refusal, Combined}
use Rattle.cqe_base.specs.Schema.{DatabaseSchema}
use Rattle.cqe_base.specs.Facts.{FactSet}
use Rattle.cqe_base.specs.Formula.{Formula, disjunction, is_sentence_of}
use Rattle.cqe_base.specs.Truth.{true_in}
use Rattle.cqe_base.specs.History.{disjunction_of}
use Rattle.cqe_base.specs.Censor.{guarded_by, guard_by}
use Rattle.cqe_base.proofs.Truths.{and_first, and_second, and_both, or_first, or_second, list_any-false, list_all-append}

fold_false : (schema : DatabaseSchema) (world : FactSet) (s : Formula) (secrets : List Formula) → true_in schema world (fold disjunction s secrets) ≡ false
    → (true_in schema world s ≡ false) × (list_any (true_in schema world) secrets ≡ false)
unfolding true_in
fold_false schema world s [] e = (e, refl)
fold_false schema world s (t ∷ secrets) e =
    let r : (true_in schema world (disjunction s t) ≡ false)
    × (list_any (true_in schema world) secrets ≡ false) = fold_false schema world (disjunction s t) secrets e in
    (or_first _ _ r.0, or_from (true_in schema world t) _ (or_second (true_in schema world s) _ r.0) r.1)

-- where the disjunction is false, each secret is
pub disjunction_false : (schema : DatabaseSchema) (world : FactSet) (secrets : List Formula) → true_in schema world (disjunction_of secrets) ≡ false
    → (secret : Formula) → Contains secrets secret → true_in schema world secret ≡ false
disjunction_false schema world [] e secret (k, low, is) = absurd (omega arith)
disjunction_false schema world (s ∷ secrets) e secret within =
    let r : (true_in schema world s ≡ false) × (list_any (true_in schema world) secrets ≡ false) = fold_false schema world s secrets e in
    list_any-false (true_in schema world) (s ∷ secrets) (or_from (true_in schema world s) _ r.0 r.1) secret within

fold-append : (s : Formula) (xs ys : List Formula) → fold disjunction s (xs ++ ys) ≡ fold disjunction (fold disjunction s xs) ys
fold-append s [] ys = refl
fold-append s (x ∷ xs) ys = fold-append (disjunction s x) xs ys

-- where the disjunction of more secrets is false, that of the first ones is
pub first_disjunction_false : (schema : DatabaseSchema) (world : FactSet) (xs ys : List Formula) → true_in schema world (disjunction_of (xs ++ ys)) ≡ false
    → true_in schema world (disjunction_of xs) ≡ false
unfolding true_in
first_disjunction_false schema world [] ys e = refl
first_disjunction_false schema world (s ∷ xs) ys e =
    (fold_false schema world (fold disjunction s xs) ys (ap (true_in schema world) (sym (fold-append s xs ys)) ∙ e)).0

-- the disjunction of sentences is one
fold_sentence : (schema : DatabaseSchema) (s : Formula) (sentences : List Formula) → is_sentence_of schema s ≡ true
    → list_all (is_sentence_of schema) sentences ≡ true → is_sentence_of schema (fold disjunction s sentences) ≡ true
fold_sentence schema s [] one all = one
fold_sentence schema s (t ∷ sentences) one all = fold_sentence schema (disjunction s t) sentences (and_both _ _ one (and_first _ _ all)) (and_second _ _ all)

disjunction_sentence : (schema : DatabaseSchema) (sentences : List Formula) → list_all (is_sentence_of schema) sentences ≡ true
    → is_sentence_of schema (disjunction_of sentences) ≡ true
disjunction_sentence schema [] all = refl
disjunction_sentence schema (s ∷ sentences) all = fold_sentence schema s sentences (and_first _ _ all) (and_second _ _ all)

-- what is guarded are sentences
pub guarded_sentences : (schema : DatabaseSchema) (m : Method) (secrets : List Formula) → list_all (is_sentence_of schema) secrets ≡ true
    → list_all (is_sentence_of schema) (guarded_by m secrets) ≡ true
guarded_sentences schema Lying secrets all = and_both _ _ (disjunction_sentence schema secrets all) refl
guarded_sentences schema Refusal secrets all = all
guarded_sentences schema Combined secrets all = all

-- what is guarded for one more secret is a sentence
pub guard_sentence : (schema : DatabaseSchema) (m : Method) (secrets : List Formula) (s : Formula) → list_all (is_sentence_of schema) secrets ≡ true
    → is_sentence_of schema s ≡ true → is_sentence_of schema (guard_by m (secrets ++ s ∷ []) s) ≡ true
guard_sentence schema Lying secrets s all one =
    disjunction_sentence schema (secrets ++ s ∷ [])
    (list_all-append (is_sentence_of schema) secrets (s ∷ []) ∙ and_both _ _ all (and_both _ _ one refl))
guard_sentence schema Refusal secrets s all one = one
guard_sentence schema Combined secrets s all one = one
