-- The blocks of a text that is accepted: they are right.
use Rattle.std.proofs.Common.{◌≡◌, ◌≤◌, ℕ, ◌+◌, Bool, true, false, List, [], ◌∷◌, ◌++◌, length, Option, Some, None, Result, Ok, Err, refl, sym, ap}
use Rattle.std.proofs.Common.{inl, inr, subst, ◌∙◌, arith, append_assoc, append-nil}
use Rattle.std.specs.Prelude.{if◌then◌else◌, bytes_eq, codes}
use Rattle.std.specs.List.{list_all, flat_map}
use Rattle.std.specs.Cmp.Lexicographic.{same_text}
use Rattle.std.proofs.lemmas.Bool.{and_parts, and_from}
use Rattle.cqe_base.specs.declared.world.Fact.{Fact}
use Rattle.cqe_base.specs.Schema.{DatabaseSchema, Text}
use Rattle.cqe_base.specs.Facts.{FactSet}
use Rattle.cqe_base.specs.Literal.{Literal}
use Rattle.cqe_base.specs.History.{UserProfile, History}
use Rattle.cqe_base.specs.Censor.{Probe}
use Rattle.cqe_base.specs.Refutation.{RefutationLine, is_refutation}
use Rattle.entailment.specs.Small.{is_small_line}
use Rattle.entailment.specs.Certificates.{clauses_of_probe}
use Rattle.dossier.specs.Fields.{is_alone, first_word, field_of, fields_from}
use Rattle.dossier.specs.Words.{line_in, listed_world, facts_listed}
use Rattle.dossier.specs.Written.{refutation_line_text, open_text, IsRightBlock}
use Rattle.dossier.specs.Right.{AreRightBlocks}
use Rattle.dossier.specs.Checked.{Task, admitting, asking, adding, Showing, Awaited, block, step, is_countermodel, behind_task, awaited_for, behind_block}
use Rattle.dossier.specs.Checked.{open_block, follows_block, refutation_end, refutation_line, checked_from}
use Rattle.dossier.specs.declared.error.DossierError.{DossierError}
use Rattle.dossier.specs.declared.error.DossierError.TheVariants as refused
use Rattle.dossier.proofs.LinesBack.{joined, joined-both, joined-one, word-back, LineIs}
use Rattle.dossier.proofs.ListedBack.{IsListedBy, listed-by}
use Rattle.dossier.proofs.RefLinesBack.{line-back}

-- ---- lines

-- the first word of a line, and what stands behind it
abbrev pub word_of_line : Text → Text
word_of_line line = (first_word line).0

abbrev pub rest_of_line : Text → Text
rest_of_line line = (first_word line).1

-- a line that is this word alone
pub is-alone : (n : ℕ) (line word : Text) → is_alone (field_of n line) word ≡ true → line ≡ word
is-alone n line word is = by (word-back line)
  where
    words : bytes_eq (word_of_line line) word ≡ true
    words = (and_parts (bytes_eq (word_of_line line) word) (bytes_eq (rest_of_line line) []) is).0

    rests : rest_of_line line ≡ []
    rests = same_text (rest_of_line line) [] (sym (and_parts (bytes_eq (word_of_line line) word) (bytes_eq (rest_of_line line) []) is).1)

    by : LineIs line (word_of_line line) (rest_of_line line) → line ≡ word
    by (inl (none, same)) = same ∙ same_text (word_of_line line) word (sym words)
    by (inr (some, same)) = let long = ap length rests in absurd (omega (arith, some, long))

-- a line of this word with something behind it
pub is-followed : (line word : Text) → bytes_eq (word_of_line line) word ≡ true → 1 ≤ length (rest_of_line line) → line ≡ word ++ 32 ∷ rest_of_line line
is-followed line word is some = by (word-back line)
  where
    by : LineIs line (word_of_line line) (rest_of_line line) → line ≡ word ++ 32 ∷ rest_of_line line
    by (inl (none, same)) = let empty = ap length none in absurd (omega (arith, some, empty))
    by (inr (more, same)) = same ∙ ap (λ w. w ++ 32 ∷ rest_of_line line) (same_text (word_of_line line) word (sym is))

-- what isn't empty has something
pub some-of : (text : Text) (b : ℕ) (more : Text) → text ≡ b ∷ more → 1 ≤ length text
some-of text b more is = let long = ap length is in omega (arith, long)

module _ (schema : DatabaseSchema) (world : FactSet) (name : Text) (user : UserProfile) (all : History) where
  -- these lines, of which the first has this number, lead to these items where this is awaited
  abbrev pub Runs : Result Awaited DossierError → ℕ → List Text → Type 0
  Runs awaited n lines = checked_from schema world name user awaited n (fields_from n lines) ≡ Ok all

  -- the first of these lines are a text of this kind, and behind it something is awaited
  pub record GoesOn (Is : Text → Type 0) (after : Result Awaited DossierError) (lines : List Text) : Type 0 where
    pub first : List Text
    pub rest : List Text
    pub parts : lines ≡ first ++ rest
    pub is : Is (joined first)
    pub number : ℕ
    pub further : Runs after number rest

  pub goes-none : (Is : Text → Type 0) (after : Result Awaited DossierError) (n : ℕ) (lines : List Text) → Is [] → Runs after n lines → GoesOn Is after lines
  goes-none Is after n lines none runs = record { first = []; rest = lines; parts = refl; is = none; number = n; further = runs }

  pub goes-line : (Is : Text → Type 0) (after : Result Awaited DossierError) (n : ℕ) (line : Text) (lines : List Text) → Is (line ++ codes "\n")
      → Runs after n lines → GoesOn Is after (line ∷ lines)
  goes-line Is after n line lines is runs =
      record { first = line ∷ []; rest = lines; parts = refl; is = subst Is (sym (joined-one line)) is; number = n; further = runs }

  -- a line in front of it
  pub goes-behind : (Is Ks : Text → Type 0) (after : Result Awaited DossierError) (line : Text) (lines : List Text)
      → ((text : Text) → Is text → Ks ((line ++ codes "\n") ++ text)) → GoesOn Is after lines → GoesOn Ks after (line ∷ lines)
  goes-behind Is Ks after line lines makes goes = record {
    first = line ∷ goes.first;
    rest = goes.rest;
    parts = ap (λ ls. line ∷ ls) goes.parts;
    is = makes (joined goes.first) goes.is;
    number = goes.number;
    further = goes.further;
  }

  -- one text and then another
  pub goes-both : (Is Js Ks : Text → Type 0) (middle after : Result Awaited DossierError) (lines : List Text)
      → ((first second : Text) → Is first → Js second → Ks (first ++ second))
      → (goes : GoesOn Is middle lines) → GoesOn Js after goes.rest → GoesOn Ks after lines
  goes-both Is Js Ks middle after lines makes goes more = record {
    first = goes.first ++ more.first;
    rest = more.rest;
    parts = goes.parts ∙ ap (λ ls. goes.first ++ ls) more.parts ∙ sym (append_assoc goes.first more.first more.rest);
    is = subst Ks (sym (joined-both goes.first more.first)) (makes (joined goes.first) (joined more.first) goes.is more.is);
    number = more.number;
    further = more.further;
  }

  pub goes-as : (Is Ks : Text → Type 0) (after : Result Awaited DossierError) (lines : List Text) → ((text : Text) → Is text → Ks text)
      → GoesOn Is after lines → GoesOn Ks after lines
  goes-as Is Ks after lines turns goes = record {
    first = goes.first;
    rest = goes.rest;
    parts = goes.parts;
    is = turns (joined goes.first) goes.is;
    number = goes.number;
    further = goes.further;
  }

  -- ---- a block

  module _ (s : Showing) where
    abbrev clauses : List (List Literal)
    clauses = clauses_of_probe schema s.probe.premises s.probe.goal

    -- it shows some verdict, and is right
    abbrev IsShownIn : List Text → Type 0
    IsShownIn lines = (verdict : Bool) × GoesOn (IsRightBlock schema s.probe) (behind_block schema world name user s verdict) lines

    -- one that lists a world
    open-text : (line : Text) (facts : List Fact) → bytes_eq (word_of_line line) (codes "open") ≡ true → IsListedBy schema (rest_of_line line) facts
        → facts_listed schema (rest_of_line line) ≡ Some facts → line ++ codes "\n" ≡ open_text schema facts
    open-text line facts is listed found =
        ap (λ l. l ++ codes "\n")
        (is-followed line (codes "open") is (some-listed (rest_of_line line) refl) ∙ ap (λ t. codes "open" ++ 32 ∷ t) listed.text_is)
      where
        some-listed : (rest : Text) → rest_of_line line ≡ rest → 1 ≤ length (rest_of_line line)
        some-listed [] none =
            let lists : None ≡ Some facts = ap (facts_listed schema) (sym none) ∙ found in
            absurd cc
        some-listed (b ∷ rest) some = some-of (rest_of_line line) b rest some

    open-shown : (n : ℕ) (line : Text) (lines : List Text) → bytes_eq (word_of_line line) (codes "open") ≡ true
        → (found : Option (List Fact)) → facts_listed schema (rest_of_line line) ≡ found
        → Runs (open_block schema world name user n s found) (n + 1) lines → IsShownIn (line ∷ lines)
    open-shown n line lines is None found runs = absurd cc
    open-shown n line lines is (Some facts) found runs = by (is_countermodel schema s.probe (listed_world facts)) refl runs
      where
        by : (b : Bool) → is_countermodel schema s.probe (listed_world facts) ≡ b
            → Runs (if b then behind_block schema world name user s false else Err (refused.Verdict n)) (n + 1) lines → IsShownIn (line ∷ lines)
        by false counter runs = absurd cc
        by true counter runs =
            let listed = listed-by schema (rest_of_line line) facts found in (
              false,
              goes-line (IsRightBlock schema s.probe) (behind_block schema world name user s false) (n + 1) line lines
                  (inl (facts, listed.sorted, listed.few, listed.of_schema, counter, open-text line facts is listed found)) runs,
            )

    -- the lines of a refutation behind some, and its end
    record AreSteps (done : List RefutationLine) (lines : List Text) : Type 0 where
      more : List RefutationLine
      right : is_refutation clauses (done ++ more) ≡ true
      small : list_all is_small_line more ≡ true
      goes : GoesOn (λ text. text ≡ flat_map refutation_line_text more ++ codes "end\n") (behind_block schema world name user s true) lines

    step-text : (line : Text) (next : RefutationLine) → bytes_eq (word_of_line line) (codes "line") ≡ true → line_in (rest_of_line line) ≡ Some next
        → (line ++ codes "\n" ≡ refutation_line_text next) × (is_small_line next ≡ true)
    step-text line next is read =
        let (written, low) = line-back (rest_of_line line) next read in (
          ap (λ l. l ++ codes "\n")
              (is-followed line (codes "line") is (some-said (rest_of_line line) refl) ∙ ap (λ t. codes "line" ++ 32 ∷ t) written),
          low,
        )
      where
        some-said : (rest : Text) → rest_of_line line ≡ rest → 1 ≤ length (rest_of_line line)
        some-said [] none =
            let reads : None ≡ Some next = ap line_in (sym none) ∙ read in
            absurd cc
        some-said (b ∷ rest) some = some-of (rest_of_line line) b rest some

    step-more : (n : ℕ) (done : List RefutationLine) (line : Text) (lines : List Text) → bytes_eq (word_of_line line) (codes "line") ≡ true
        → ((next : RefutationLine) → Runs (Ok (step s (done ++ next ∷ []))) (n + 1) lines → AreSteps (done ++ next ∷ []) lines)
        → (found : Option RefutationLine) → line_in (rest_of_line line) ≡ found
        → Runs (refutation_line schema world name user n s done found) (n + 1) lines → AreSteps done (line ∷ lines)
    step-more n done line lines is go None read runs = absurd cc
    step-more n done line lines is go (Some next) read runs =
        let rest = go next runs in
        let (written, low) = step-text line next is read in
        record {
          more = next ∷ rest.more;
          right = subst (λ ls. is_refutation clauses ls ≡ true) (append_assoc done (next ∷ []) rest.more) rest.right;
          small = and_from (is_small_line next) (list_all is_small_line rest.more) low rest.small;
          goes = goes-behind (λ text. text ≡ flat_map refutation_line_text rest.more ++ codes "end\n")
              (λ text. text ≡ flat_map refutation_line_text (next ∷ rest.more) ++ codes "end\n") (behind_block schema world name user s true) line lines
              (λ text same. (λ i. written i ++ same i)
              ∙ sym (append_assoc (refutation_line_text next) (flat_map refutation_line_text rest.more) (codes "end\n")))
              rest.goes;
        }

    step-end : (n : ℕ) (done : List RefutationLine) (line : Text) (lines : List Text) → line ≡ codes "end"
        → Runs (refutation_end schema world name user n s done) (n + 1) lines → AreSteps done (line ∷ lines)
    step-end n done line lines is runs = by (is_refutation clauses done) refl runs
      where
        by : (b : Bool) → is_refutation clauses done ≡ b
            → Runs (if b then behind_block schema world name user s true else Err (refused.Verdict n)) (n + 1) lines → AreSteps done (line ∷ lines)
        by false right runs = absurd cc
        by true right runs = record {
          more = [];
          right = ap (is_refutation clauses) (append-nil done) ∙ right;
          small = refl;
          goes = goes-line (λ text. text ≡ flat_map refutation_line_text [] ++ codes "end\n") (behind_block schema world name user s true) (n + 1) line lines
              (ap (λ l. l ++ codes "\n") is) runs;
        }

    steps-shown : (done : List RefutationLine) (n : ℕ) (lines : List Text) → Runs (Ok (step s done)) n lines → AreSteps done lines
    steps-shown done n [] runs = absurd cc
    steps-shown done n (line ∷ lines) runs =
        step-by n done line lines (λ next more. steps-shown (done ++ next ∷ []) (n + 1) lines more)
        (bytes_eq (word_of_line line) (codes "line")) refl (is_alone (field_of n line) (codes "end")) refl runs
      where
        step-by : (n : ℕ) (done : List RefutationLine) (line : Text) (lines : List Text)
            → ((next : RefutationLine) → Runs (Ok (step s (done ++ next ∷ []))) (n + 1) lines → AreSteps (done ++ next ∷ []) lines)
            → (a : Bool) → bytes_eq (word_of_line line) (codes "line") ≡ a → (b : Bool) → is_alone (field_of n line) (codes "end") ≡ b
            → Runs
            (if a then refutation_line schema world name user n s done (line_in (rest_of_line line))
            else if b then refutation_end schema world name user n s done else Err (refused.Form n)) (n + 1) lines
            → AreSteps done (line ∷ lines)
        step-by n done line lines go true is b end runs = step-more n done line lines is go (line_in (rest_of_line line)) refl runs
        step-by n done line lines go false is true end runs = step-end n done line lines (is-alone n line (codes "end") end) runs
        step-by n done line lines go false is false end runs = absurd cc

    -- one with a refutation
    follows-shown : (n : ℕ) (line : Text) (lines : List Text) → line ≡ codes "follows" → (task : Task)
        → Runs (follows_block schema world name user n s task) (n + 1) lines → IsShownIn (line ∷ lines)
    follows-shown n line lines is admitting runs = absurd cc
    follows-shown n line lines is (adding secret size) runs = absurd cc
    follows-shown n line lines is (asking at mark query size) runs =
        let steps = steps-shown [] (n + 1) lines runs in (
          true,
          goes-behind (λ text. text ≡ flat_map refutation_line_text steps.more ++ codes "end\n") (IsRightBlock schema s.probe)
              (behind_block schema world name user s true) line lines
              (λ text same. inr (
                steps.more,
                steps.right,
                steps.small,
                (λ i. (is i ++ codes "\n") ++ same i) ∙ sym (append_assoc (codes "follows\n") (flat_map refutation_line_text steps.more) (codes "end\n")),
              ))
              steps.goes,
        )

    pub block-shown : (n : ℕ) (lines : List Text) → Runs (Ok (block s)) n lines → IsShownIn lines
    block-shown n [] runs = absurd cc
    block-shown n (line ∷ lines) runs =
        by (bytes_eq (word_of_line line) (codes "open")) refl (is_alone (field_of n line) (codes "follows")) refl runs
      where
        by : (a : Bool) → bytes_eq (word_of_line line) (codes "open") ≡ a → (b : Bool) → is_alone (field_of n line) (codes "follows") ≡ b
            → Runs
            (if a then open_block schema world name user n s (facts_listed schema (rest_of_line line))
            else if b then follows_block schema world name user n s s.task else Err (refused.Form n)) (n + 1) lines
            → IsShownIn (line ∷ lines)
        by true is b alone runs = open-shown n line lines is (facts_listed schema (rest_of_line line)) refl runs
        by false is true alone runs = follows-shown n line lines (is-alone n line (codes "follows") alone) s.task runs
        by false is false alone runs = absurd cc

  -- ---- the blocks of probes

  -- they are right, and some verdicts lead on
  pub blocks-shown : (entries : History) (task : Task) (probes : List Probe) (shown : List Bool) (n : ℕ) (lines : List Text)
      → Runs (awaited_for schema world name user entries task probes shown) n lines
      → (verdicts : List Bool) × GoesOn (AreRightBlocks schema probes) (behind_task schema world name user entries task verdicts) lines
  blocks-shown entries task [] shown n lines runs =
      (shown, goes-none (AreRightBlocks schema []) (behind_task schema world name user entries task shown) n lines refl runs)
  blocks-shown entries task (probe ∷ more) shown n lines runs =
      let s : Showing = record { entries = entries; task = task; probe = probe; more = more; shown = shown } in
      let (verdict, first) = block-shown s n lines runs in
      let (verdicts, rest) = blocks-shown entries task more (shown ++ verdict ∷ []) first.number first.rest first.further in (
        verdicts,
        goes-both (IsRightBlock schema probe) (AreRightBlocks schema more) (AreRightBlocks schema (probe ∷ more))
            (behind_block schema world name user s verdict) (behind_task schema world name user entries task verdicts) lines
            (λ here there is are. (here, there, is, are, refl)) first rest,
      )
