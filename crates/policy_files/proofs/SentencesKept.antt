-- The sentences that are read from a user's texts.
use Rattle.std.proofs.Common.{◌≡◌, ℕ, ◌+◌, ◌≤◌, Bool, true, List, [], ◌∷◌, ◌++◌, length, length-append, Result, Ok, Err, Option, Some, None, refl, ap, ◌∙◌}
use Rattle.std.proofs.Common.{arith, subst}
use Rattle.std.specs.Prelude.{nat_lt, nat_le}
use Rattle.std.specs.List.{list_all}
use Rattle.std.proofs.lemmas.List.Folds.{list_all-append}
use Rattle.toml.specs.Data.{Data}
use Rattle.cqe_base.specs.Schema.{Text, DatabaseSchema}
use Rattle.cqe_base.specs.Formula.{Formula, nodes, is_sentence_of}
use Rattle.cqe_base.specs.Reading.{Refusal, ReadingsAreSentences, reading}
use Rattle.policy_files.specs.declared.keys.PolicyVersion.{PolicyVersion}
use Rattle.policy_files.specs.declared.keys.PolicyVersion.TheVariants.{One, Two}
use Rattle.policy_files.specs.declared.text.Bounds.{Bounds}
use Rattle.policy_files.specs.Tree.{elements, is_string_array, text_in}
use Rattle.policy_files.specs.Users.{small_sentence, sentence_of, sentences_behind, sentences_of, known_of, least_secrets, secrets_of, secrecies_of}
use Rattle.policy_files.proofs.OkSteps.{first_ok, unless_ok, when_ok, same_ok, within_ok}

-- one more element that passes
pub all_more : {X : Type 0} (p : X → Bool) (xs : List X) (x : X) → list_all p xs ≡ true → p x ≡ true → list_all p (xs ++ x ∷ []) ≡ true
all_more p xs x all here = list_all-append p xs (x ∷ []) ∙ rw (all, here) refl

module _ (schema : DatabaseSchema) where
  -- sentences of the schema with at most so many nodes each
  pub record AreSmallSentences (most : ℕ) (sentences : List Formula) : Type 0 where
    pub of_schema : list_all (is_sentence_of schema) sentences ≡ true
    pub small : list_all (λ s. nat_le (nodes schema s) most) sentences ≡ true

  pub none_are : (most : ℕ) → AreSmallSentences most []
  none_are most = record { of_schema = refl; small = refl }

  small_ok : (user : ℕ) (key : Text) (most index : ℕ) (read : Result Formula Refusal) (s : Formula) → small_sentence schema user key most index read ≡ Ok s
      → (read ≡ Ok s) × (nat_le (nodes schema s) most ≡ true)
  small_ok user key most index (Err why) s e = absurd (cc)
  small_ok user key most index (Ok t) s e =
      let h = when_ok (nat_le (nodes schema t) most) _ (Ok t) s e in
      let same : t ≡ s = same_ok t s h.1 in
      (ap (λ (x : Formula). Ok x) same, subst (λ x. nat_le (nodes schema x) most ≡ true) same h.0)

  sentence_ok : ReadingsAreSentences → (user : ℕ) (key : Text) (most index : ℕ) (text : Text) (s : Formula)
      → sentence_of schema user key most index text ≡ Ok s → (is_sentence_of schema s ≡ true) × (nat_le (nodes schema s) most ≡ true)
  unfolding sentence_of
  sentence_ok law user key most index text s e =
      let read = small_ok user key most index (reading schema text) s
      (unless_ok (nat_lt 4096 (length text)) _ (small_sentence schema user key most index (reading schema text)) s e).1 in
      (law schema text s read.0, read.1)

  behind_ok : ReadingsAreSentences → (user : ℕ) (key : Text) (most : ℕ) (read : List Formula) (texts : List Data) (all : List Formula)
      → AreSmallSentences most read → sentences_behind schema user key most read texts ≡ Ok all
      → AreSmallSentences most all × (length all ≡ length read + length texts)
  behind_ok law user key most read [] all good e =
      let same : read ≡ all = same_ok read all e in
      (subst (AreSmallSentences most) same good, omega (arith, ap length same))
  behind_ok law user key most read (text ∷ texts) all good e =
      first_ok (sentence_of schema user key most (length read) (text_in text)) (λ s. sentences_behind schema user key most (read ++ s ∷ []) texts) all e
      (λ s here rest.
      let one = sentence_ok law user key most (length read) (text_in text) s here in
      let more = behind_ok law user key most (read ++ s ∷ []) texts all
      (record {
        of_schema = all_more (is_sentence_of schema) read s good.of_schema one.0;
        small =
            all_more (λ x. nat_le (nodes schema x) most) read s good.small one.1;
      }) rest in
      (more.0, omega (arith, more.1, length-append read (s ∷ []))))

  -- sentences of an array, within these bounds
  pub record AreSomeSentences (bounds : Bounds) (sentences : List Formula) : Type 0 where
    pub good : AreSmallSentences bounds.nodes sentences
    pub enough : bounds.least ≤ length sentences
    pub few : length sentences ≤ bounds.greatest

  sentences_ok : ReadingsAreSentences → (user : ℕ) (key : Text) (bounds : Bounds) (value : Data) (all : List Formula)
      → sentences_of schema user key bounds value ≡ Ok all → AreSomeSentences bounds all
  unfolding sentences_of
  sentences_ok law user key bounds value all e =
      let h = when_ok (is_string_array value) _ _ all e in
      first_ok {A = ℕ} _ _ all h.1 (λ count here rest.
      let fits = within_ok bounds.least bounds.greatest _ (length (elements value)) count here in
      let read = behind_ok law user key bounds.nodes [] (elements value) all (none_are bounds.nodes) rest in
      let size : length all ≡ 0 + length (elements value) = read.1 in
      let low : bounds.least ≤ length (elements value) = fits.0 in
      let high : length (elements value) ≤ bounds.greatest = fits.1 in
      record { good = read.0; enough = omega arith; few = omega arith })

  no_sentences : (bounds : Bounds) (all : List Formula) → bounds.least ≡ 0 → [] ≡ all → AreSomeSentences bounds all
  no_sentences bounds all least none =
      subst (AreSomeSentences bounds) none (record { good = none_are bounds.nodes; enough = omega arith; few = omega arith })

  pub known_ok : ReadingsAreSentences → (user : ℕ) (value : Option Data) (all : List Formula) → known_of schema user value ≡ Ok all
      → AreSomeSentences (record { least = 0; greatest = 256; nodes = 20000 }) all
  known_ok law user None all e = no_sentences _ all refl (same_ok [] all e)
  known_ok law user (Some value) all e = sentences_ok law user _ _ value all e

  -- whatever the version, at most 16 secrets of at most 20,000 nodes
  pub secrets_ok : ReadingsAreSentences → (version : PolicyVersion) (user : ℕ) (value : Option Data) (all : List Formula)
      → secrets_of version schema user value ≡ Ok all → AreSmallSentences 20000 all
  secrets_ok law One user None all e = absurd (cc)
  secrets_ok law Two user None all e = (no_sentences (record { least = 0; greatest = 16; nodes = 20000 }) all refl (same_ok [] all e)).good
  secrets_ok law version user (Some value) all e =
      (sentences_ok law user _ (record { least = least_secrets version; greatest = 16; nodes = 20000 }) value all e).good

  pub secrecies_ok : ReadingsAreSentences → (user : ℕ) (value : Option Data) (all : List Formula) → secrecies_of schema user value ≡ Ok all
      → AreSmallSentences 19999 all
  secrecies_ok law user None all e = (no_sentences (record { least = 0; greatest = 8; nodes = 19999 }) all refl (same_ok [] all e)).good
  secrecies_ok law user (Some value) all e = (sentences_ok law user _ (record { least = 0; greatest = 8; nodes = 19999 }) value all e).good
