-- What all parts of a query's probes found together.
use Rattle.std.proofs.Common.{◌≡◌, ◌<◌, ◌≤◌, ◌+◌, ◌*◌, ℕ, suc, true, ◌||◌, List, [], ◌∷◌, ◌++◌, All, map, take, length}
use Rattle.std.proofs.Common.{slice_index_or, refl, sym, ap, ◌∙◌, subst, arith}
use Rattle.std.specs.Prelude.{Option, Some, None, IfSome, fold}
use Rattle.std.specs.List.{list_any, list_all, between}
use Rattle.std.proofs.lemmas.Bool.{or_parts}
use Rattle.std.proofs.lemmas.List.{take-append-drop, take-take, take_all}
use Rattle.std.proofs.lemmas.List.Folds.{list_any-append}
use Rattle.std.proofs.lemmas.Slice.{between_is, between_from_start}
use Rattle.cqe_base.specs.declared.user.User.{User}
use Rattle.cqe_base.specs.declared.user.Method.{Method}
use Rattle.cqe_base.specs.declared.user.Method.TheVariants.{Lying, Refusal, Combined}
use Rattle.cqe_base.specs.Schema.{DatabaseSchema}
use Rattle.cqe_base.specs.Formula.{Formula, nodes, is_sentence_of}
use Rattle.cqe_base.specs.Entailment.{Signed, entails}
use Rattle.cqe_base.specs.History.{profile_of}
use Rattle.cqe_base.specs.Limits.{FitsProbes}
use Rattle.cqe_base.specs.Censor.{guarded_by, with_query, with_negation}
use Rattle.std.specs.Prelude.{nat_le}
use Rattle.entailment.specs.Logs.{log_nodes}
use Rattle.entailment.specs.Views.{LogView, schema_of, log_of, IsViewOf}
use Rattle.entailment.specs.GroundSentences.{sentence_of, IsGroundOver}
use Rattle.entailment.specs.declared.sentences.GroundSentence.{GroundSentence}
use Rattle.censors.specs.Guards.{GuardedSentences}
use Rattle.censors.specs.declared.examination.Answer.{Answer}
use Rattle.censors.specs.declared.parts.Cut.{Cut}
use Rattle.censors.specs.declared.parts.PartFound.{PartFound}
use Rattle.censors.specs.declared.lent.Lane.{Lane}
use Rattle.censors.specs.Asked.{is_spent_at, IsAnswerOfAll, AreHarms, IsImpliedBy, together}
use Rattle.censors.specs.Parts.{start_of, yes_before, no_before, IsCut, Question, question_of, CanBeAsked, CanBeAskedAt, IsPartFound, HasRun, joined, gathered}
use Rattle.censors.specs.Parts.{harms_of, CanBeExamined}
use Rattle.censors.proofs.Parting.{start-rises}

-- ---- answers over goals that follow one another

taken : {X : Type 0} (xs : List X) (a b : ℕ) → a ≤ b → take b xs ≡ take a xs ++ between a b xs
taken xs a b le = sym (take-append-drop a (take b xs)) ∙ (λ k. take-take a b xs le k ++ sym (between_is xs a b) k)

module _ (schema : DatabaseSchema) (budget : ℕ) (premises : List Signed) where
  -- the answer over the goals up to one together with that over those from there up to another
  answers_join : (goals : List Formula) (a b : ℕ) (all one : Answer) → a ≤ b → IsAnswerOfAll schema budget premises (take a goals) all
      → IsAnswerOfAll schema budget premises (between a b goals) one
      → IsAnswerOfAll schema budget premises (take b goals) (together all one)
  answers_join goals a b all one le before now =
      let whole = taken goals a b le in
      let spent_at = λ (goal : Formula). is_spent_at schema budget premises (goal, true) in
      let entailed_at = λ (goal : Formula). entails schema premises (goal, true) in
      record {
        spent = (λ k. before.spent k || now.spent k) ∙ sym (ap (list_any spent_at) whole ∙ list_any-append spent_at (take a goals) (between a b goals));
        entailed = λ none.
            let both = or_parts all.spent one.spent none in
            (λ k. before.entailed both.0 k || now.entailed both.1 k)
            ∙ sym (ap (list_any entailed_at) whole ∙ list_any-append entailed_at (take a goals) (between a b goals));
      }

-- ---- parts

-- what the parts before this one found
pub record IsFoundUpTo (cut : Cut) (part : ℕ) (q : Question) (found : PartFound) : Type 0 where
  pub implied : IsImpliedBy q.method q.schema q.budget q.log q.query found.implied
  pub yes : IsAnswerOfAll q.schema q.budget (with_query q.log q.query) (take (yes_before (start_of cut part)) q.goals) found.yes
  pub no : IsAnswerOfAll q.schema q.budget (with_negation q.log q.query) (take (no_before (start_of cut part)) q.goals) found.no

module _ (count : ℕ) (cut : Cut) (is : IsCut count cut) (q : Question) where
  first_found : (found : Option PartFound) → IfSome found (IsPartFound cut 0 q) → IfSome found (IsFoundUpTo cut 1 q)
  first_found None none = tt
  first_found (Some found) first = record {
    implied = first.implied refl;
    yes = subst (λ goals. IsAnswerOfAll q.schema q.budget (with_query q.log q.query) goals found.yes)
        (between_from_start q.goals (yes_before (start_of cut 1))) first.yes;
    no = subst (λ goals. IsAnswerOfAll q.schema q.budget (with_negation q.log q.query) goals found.no)
        (between_from_start q.goals (no_before (start_of cut 1))) first.no;
  }

  joined_found : (part : ℕ) (all one : Option PartFound) → IfSome all (IsFoundUpTo cut part q) → IfSome one (IsPartFound cut part q)
      → IfSome (joined all one) (IsFoundUpTo cut (part + 1) q)
  joined_found part None one before now = tt
  joined_found part (Some all) None before now = tt
  joined_found part (Some all) (Some one) before now =
      let rises = start-rises count cut is part in
      record {
        implied = before.implied;
        yes = answers_join q.schema q.budget (with_query q.log q.query) q.goals (yes_before (start_of cut part)) (yes_before (start_of cut (part + 1)))
            all.yes one.yes (omega (arith, rises)) before.yes now.yes;
        no = answers_join q.schema q.budget (with_negation q.log q.query) q.goals (no_before (start_of cut part)) (no_before (start_of cut (part + 1)))
            all.no one.no (omega (arith, rises)) before.no now.no;
      }

  folded_found : (part : ℕ) (all : Option PartFound) (lanes : List Lane) → IfSome all (IsFoundUpTo cut part q)
      → ((k : ℕ) (d : Lane) → k < length lanes → IfSome (slice_index_or lanes k d).found (IsPartFound cut (part + k) q))
      → IfSome (fold joined all (map (λ (lane : Lane). lane.found) lanes)) (IsFoundUpTo cut (part + length lanes) q)
  folded_found part all [] up each = let same : part ≡ part + 0 = omega arith in subst (λ n. IfSome all (IsFoundUpTo cut n q)) same up
  folded_found part all (lane ∷ lanes) up each =
      let same : part + 0 ≡ part = omega arith in
      let here = subst (λ n. IfSome lane.found (IsPartFound cut n q)) same (each 0 lane (omega arith)) in
      let rest = folded_found (part + 1) (joined all lane.found) lanes (joined_found part all lane.found up here)
      (λ k d low.
      let next : part + suc k ≡ part + 1 + k = omega arith in
      subst (λ n. IfSome (slice_index_or lanes k d).found (IsPartFound cut n q)) next (each (suc k) d (omega (arith, low)))) in
      let long : part + 1 + length lanes ≡ part + length (lane ∷ lanes) = omega arith in
      subst (λ n. IfSome (fold joined (joined all lane.found) (map (λ (l : Lane). l.found) lanes)) (IsFoundUpTo cut n q)) long rest

  -- what lanes found that ran the first parts, each one
  pub gathered_found : (lanes : List Lane) → ((k : ℕ) (d : Lane) → k < length lanes → IfSome (slice_index_or lanes k d).found (IsPartFound cut k q))
      → IfSome (gathered (map (λ (lane : Lane). lane.found) lanes)) (IsFoundUpTo cut (length lanes) q)
  gathered_found [] each = tt
  gathered_found (lane ∷ lanes) each =
      let rest = folded_found 1 lane.found lanes (first_found lane.found (each 0 lane (omega arith)))
      (λ k d low.
      let next : suc k ≡ 1 + k = omega arith in
      subst (λ n. IfSome (slice_index_or lanes k d).found (IsPartFound cut n q)) next (each (suc k) d (omega (arith, low)))) in
      let long : 1 + length lanes ≡ length (lane ∷ lanes) = omega arith in
      subst (λ n. IfSome (fold joined lane.found (map (λ (l : Lane). l.found) lanes)) (IsFoundUpTo cut n q)) long rest

  -- where they are all parts, it is what all probes found
  pub all_found : (parts : ℕ) (found : PartFound) → start_of cut parts ≡ 2 * count → count ≡ length q.goals → IsFoundUpTo cut parts q found
      → IsImpliedBy q.method q.schema q.budget q.log q.query found.implied
      × AreHarms q.schema q.budget q.log q.query q.goals (harms_of found.yes found.no)
  all_found parts found ends many up =
      let with_yes = subst (λ goals. IsAnswerOfAll q.schema q.budget (with_query q.log q.query) goals found.yes)
      (take_all (yes_before (start_of cut parts)) q.goals (omega (arith, ends, many))) up.yes in
      let with_no = subst (λ goals. IsAnswerOfAll q.schema q.budget (with_negation q.log q.query) goals found.no)
      (take_all (no_before (start_of cut parts)) q.goals (omega (arith, ends, many))) up.no in (
        up.implied,
        record {
          spent = λ k. with_yes.spent k || with_no.spent k;
          yes = λ none. with_yes.entailed (or_parts found.yes.spent found.no.spent none).0;
          no = λ none. with_no.entailed (or_parts found.yes.spent found.no.spent none).1;
        },
      )

-- ---- what can be asked

module _ (user : User) (query : GroundSentence) (goals : List GroundSentence) where
  -- over a view of the same log the same can be asked
  pub asked_alike : (first view : LogView) → IsViewOf (schema_of first) (log_of first) view → CanBeAskedAt user query goals first
      → CanBeAskedAt user query goals view
  asked_alike first view alike can =
      subst (λ s. CanBeAsked user query goals s (log_of view)) (sym alike.0) (subst (λ l. CanBeAsked user query goals (schema_of first) l) (sym alike.1) can)

  -- what lanes found that ran over views of one log is found after that log
  pub each_found : (cut : Cut) (schema : DatabaseSchema) (log : List Signed) (before after : List Lane) → length after ≡ length before
      → All (λ (lane : Lane). IsViewOf schema log lane.view) before
      → ((k : ℕ) (d : Lane) → k < length before → HasRun cut k user query goals (slice_index_or before k d) (slice_index_or after k d))
      → (k : ℕ) (d : Lane) → k < length after → IfSome (slice_index_or after k d).found (IsPartFound cut k (question_of user query goals schema log))
  each_found cut schema log before after long alike ran k d low =
      let within : k < length before = omega (arith, low, long) in
      let found = (slice_index_or after k d).found in
      let view = (slice_index_or before k d).view in
      subst (λ s. IfSome found (IsPartFound cut k (question_of user query goals s log))) (alike k d within).0
      (subst (λ l. IfSome found (IsPartFound cut k (question_of user query goals (schema_of view) l))) (alike k d within).1 (ran k d within).found)

  -- what can be examined can be asked, against the guarded sentences
  pub asked_guarded : (guards : GuardedSentences) (first : LogView) → CanBeExamined guards user query first
      → map sentence_of goals ≡ guards.sentences → All (IsGroundOver guards.schema) goals → CanBeAskedAt user query goals first
  asked_guarded guards first can same over = record {
    sentence = can.sentence;
    grounded = can.grounded;
    all_nodes = can.all_nodes;
    goal_sentences = ap (list_all (is_sentence_of (schema_of first))) (same ∙ can.guarded_are) ∙ can.fits.guarded_sentences;
    goal_nodes = ap (list_all (λ goal. nat_le (nodes (schema_of first) goal) 40000)) (same ∙ can.guarded_are) ∙ can.fits.guarded_nodes;
    grounded_goals = subst (λ s. All (IsGroundOver s) goals) can.guards_schema over;
    budget = can.fits.budget;
  }

-- over a view of the same log the same can be examined
pub examined_alike : (guards : GuardedSentences) (user : User) (query : GroundSentence) (first view : LogView)
    → IsViewOf (schema_of first) (log_of first) view → CanBeExamined guards user query first → CanBeExamined guards user query view
examined_alike guards user query first view alike can =
    let there = sym alike.0 in
    record {
      fits = subst (λ s. FitsProbes s (profile_of user)) there can.fits;
      guards_schema = can.guards_schema ∙ there;
      guarded_are = can.guarded_are;
      sentence = ap (λ s. is_sentence_of s (sentence_of query)) alike.0 ∙ can.sentence;
      grounded = subst (λ s. IsGroundOver s query) there can.grounded;
      all_nodes = subst (λ s. log_nodes s (log_of view) + nodes s (sentence_of query) ≤ 60000) there
          (subst (λ l. log_nodes (schema_of first) l + nodes (schema_of first) (sentence_of query) ≤ 60000) (sym alike.1) can.all_nodes);
    }

-- few sentences are guarded
pub guarded_few : (method : Method) (secrets : List Formula) → length secrets ≤ 16 → length (guarded_by method secrets) ≤ 16
guarded_few Lying secrets few = omega arith
guarded_few Refusal secrets few = few
guarded_few Combined secrets few = few
