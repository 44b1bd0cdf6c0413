-- Facts of each element of a list.
use Rattle.std.proofs.Common.{◌≡◌, ◌<◌, ◌+◌, ℕ, zero, suc, Bool, true, List, [], ◌∷◌, ◌++◌, length, get_or, map, refl, sym, ap, subst, ◌∙◌, arith, append_assoc}
use Rattle.std.specs.List.{list_all, range_with_len}
use Rattle.std.proofs.lemmas.Bool.{and_parts}
use Rattle.cqe_base.specs.Schema.{DatabaseSchema}
use Rattle.cqe_base.specs.Formula.{falsum, formula_of, is_sentence_of}
use Rattle.cqe_base.specs.declared.sentence.Sentence.{Sentence}
use Rattle.std.specs.Prelude.{slice_index_or}
use Rattle.std.proofs.lemmas.List.{get_or-map}
use Rattle.cqe_base.specs.History.{UserProfile, History, AnsweredQuery}
use Rattle.cqe_base.specs.Limits.{KeepsSizes}

-- a test that all pass at a place
pub all_at : {X Y : Type 0} (p : Y → Bool) (f : X → Y) (xs : List X) (i : ℕ) (x : X) → list_all p (map f xs) ≡ true → x ≡ get_or xs i x → i < length xs
    → p (f x) ≡ true
all_at p f [] i x all is low = absurd (omega arith)
all_at p f (y ∷ ys) zero x all is low = ap (λ z. p (f z)) is ∙ (and_parts (p (f y)) (list_all p (map f ys)) all).0
all_at p f (y ∷ ys) (suc i) x all is low = all_at p f ys i x (and_parts (p (f y)) (list_all p (map f ys)) all).1 is (omega arith)

sentences_behind : (schema : DatabaseSchema) (user : UserProfile) (before after : History) → KeepsSizes schema user (before ++ after)
    → list_all (λ (e : AnsweredQuery). is_sentence_of schema e.query) after ≡ true
sentences_behind schema user before [] sizes = refl
sentences_behind schema user before (e ∷ after) sizes =
    let first : is_sentence_of schema e.query ≡ true = (sizes before e after refl).sentence in
    rw first (sentences_behind schema user (before ++ e ∷ []) after (subst (KeepsSizes schema user) (sym (append_assoc before (e ∷ []) after)) sizes))

-- the queries of entries within the sizes are sentences
pub sentences : (schema : DatabaseSchema) (user : UserProfile) (entries : History) → KeepsSizes schema user entries
    → list_all (λ (e : AnsweredQuery). is_sentence_of schema e.query) entries ≡ true
sentences schema user entries sizes = sentences_behind schema user [] entries sizes

-- one more number
pub range_more : (a n : ℕ) → range_with_len a (n + 1) ≡ range_with_len a n ++ (a + n) ∷ []
range_more a zero =
    let same : a ≡ a + 0 = omega arith in
    ap (λ m. m ∷ []) same
range_more a (suc n) =
    let size : suc n + 1 ≡ suc (n + 1) = omega arith in
    let last : (a + 1) + n ≡ a + suc n = omega arith in
    ap (range_with_len a) size ∙ ap (λ l. a ∷ l) (range_more (a + 1) n) ∙ ap (λ m. (a ∷ range_with_len (a + 1) n) ++ m ∷ []) last

-- a secret by its place
pub secret_here : (secrets : List Sentence) (k : ℕ) (d : Sentence) → k < length secrets
    → formula_of (get_or secrets k d) ≡ slice_index_or (map formula_of secrets) k falsum
secret_here secrets k d low = sym (get_or-map formula_of secrets k d falsum low)
