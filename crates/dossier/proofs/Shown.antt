-- A text that is accepted shows that the user is admissible and the history sound: each state that is reached keeps what was shown so far.
use Rattle.std.proofs.Common.{◌≡◌, ℕ, ◌+◌, ◌==◌, Bool, true, false, not, ◌&&◌, ◌||◌, List, [], ◌∷◌, ◌++◌, length, map, Option, Some, None, Result, Ok, Err}
use Rattle.std.proofs.Common.{refl, sym, ap, subst, ◌∙◌, append_assoc, append-nil}
use Rattle.std.specs.Prelude.{⊤, if◌then◌else◌, bytes_eq, codes, decimal}
use Rattle.std.specs.List.{list_any, list_all}
use Rattle.std.proofs.lemmas.Bool.{eqb-true}
use Rattle.std.proofs.lemmas.List.{map-append}
use Rattle.cqe_base.specs.declared.user.Mark.{Mark}
use Rattle.cqe_base.specs.declared.user.Mark.TheVariants.{Yes, No, Refused, Undecided, Protected}
use Rattle.cqe_base.specs.declared.user.Purpose.TheVariants.{Asking, Protecting}
use Rattle.cqe_base.specs.declared.world.Fact.{Fact}
use Rattle.cqe_base.specs.Schema.{DatabaseSchema, Text}
use Rattle.cqe_base.specs.Facts.{FactSet, is_fact_of, IsWorldOf}
use Rattle.cqe_base.specs.Formula.{Formula}
use Rattle.cqe_base.specs.Entailment.{holds_in, entails, TestIsEntailment}
use Rattle.cqe_base.specs.History.{UserProfile, AnsweredQuery, History, known, log, is_added, user_at}
use Rattle.cqe_base.specs.Censor.{Probe, guarded, probes, probes_against, entails_some, knows_truth_by, IsAdmissible}
use Rattle.cqe_base.specs.Refutation.{RefutationLine, is_refutation}
use Rattle.cqe_base.specs.MachineLaws.{RefutationEntails}
use Rattle.cqe_base.proofs.Truths.{true_is_not_false, false_if_not_true, and_first, and_second, list_any-map, map-map}
use Rattle.cqe_base.proofs.Members.{list_all-Member}
use Rattle.cqe_base.proofs.Worlds.{from_list-Member}
use Rattle.entailment.specs.Certificates.{clauses_of_probe}
use Rattle.user_desk.specs.Entries.{kind_of, mark_of}
use Rattle.soundness.specs.Sound.{IsSoundItem, IsSound, EmptyHistoryIsSound, SoundHistoriesGrow}
use Rattle.soundness.specs.Verdicts.{VerdictsGiveMarks}
use Rattle.dossier.specs.Fields.{ended_parts, FieldSaid, first_word, is_alone, fields_of}
use Rattle.dossier.specs.Words.{line_in, mark_named, listed_world, is_listing, facts_in, facts_listed, if_listed}
use Rattle.dossier.specs.Checked.{Task, admitting, asking, adding, Showing, Awaited, head, admission, block, step, item, nothing, addition_probe}
use Rattle.dossier.specs.Checked.{is_countermodel, behind_item, mark_shown, behind_task, awaited_for, behind_block, open_block, follows_block}
use Rattle.dossier.specs.Checked.{refutation_end, refutation_line, sentence_in, asked, ask_line, added, protect_line, head_rest, head_line, admission_line}
use Rattle.dossier.specs.Checked.{block_line, step_line, item_line, after_line, history_at_end, checked_from}
use Rattle.dossier.specs.Promised.{CheckedAreSound}
use Rattle.dossier.specs.declared.error.DossierError.{DossierError}
use Rattle.dossier.specs.declared.error.DossierError.TheVariants as refused

-- ---- marks

mark_back : (m : Mark) → mark_of (kind_of m) ≡ Some m
mark_back Yes = refl
mark_back No = refl
mark_back Refused = refl
mark_back Undecided = refl
mark_back Protected = refl

-- marks of one kind are one
same_kind : (a b : Mark) → (kind_of a == kind_of b) ≡ true → a ≡ b
same_kind a b e =
    let same : Some a ≡ Some b = sym (mark_back a) ∙ ap mark_of (eqb-true (kind_of a) (kind_of b) e) ∙ mark_back b in
    cc

-- ---- worlds that are listed

listed-of_schema : (schema : DatabaseSchema) (text : Text) (found : Option (List Fact)) (facts : List Fact)
    → if_listed schema text found ≡ Some facts → list_all (is_fact_of schema) facts ≡ true
listed-of_schema schema text None facts e = absurd cc
listed-of_schema schema text (Some found) facts e = by (is_listing schema text found) refl e
  where
    by : (b : Bool) → is_listing schema text found ≡ b → (if b then Some found else None) ≡ Some facts → list_all (is_fact_of schema) facts ≡ true
    by true is e =
        let same : found ≡ facts = cc in
        subst (λ fs. list_all (is_fact_of schema) fs ≡ true) same (and_first _ _ (and_first _ _ is))
    by false is e = absurd cc

facts_of_schema : (schema : DatabaseSchema) (text : Text) (facts : List Fact) → facts_listed schema text ≡ Some facts
    → list_all (is_fact_of schema) facts ≡ true
facts_of_schema schema text facts e = by (bytes_eq text (codes "-")) e
  where
    by : (b : Bool) → (if b then Some [] else if_listed schema text (facts_in schema (ended_parts 41 text))) ≡ Some facts
        → list_all (is_fact_of schema) facts ≡ true
    by true e = let none : [] ≡ facts = cc in subst (λ fs. list_all (is_fact_of schema) fs ≡ true) none refl
    by false e = listed-of_schema schema text (facts_in schema (ended_parts 41 text)) facts e

world_of_schema : (schema : DatabaseSchema) (facts : List Fact) → list_all (is_fact_of schema) facts ≡ true → IsWorldOf schema (listed_world facts)
world_of_schema schema facts all fact has = list_all-Member (is_fact_of schema) facts all fact (from_list-Member facts fact has)

module _ (test : TestIsEntailment) (refutes : RefutationEntails) (empty : EmptyHistoryIsSound) (grows : SoundHistoriesGrow) (verdicts_give : VerdictsGiveMarks)
    (schema : DatabaseSchema) (world : FactSet) (name : Text) (user : UserProfile) where
  -- whether the premises of a probe entail its goal
  abbrev follows : Probe → Bool
  follows probe = entails schema probe.premises probe.goal

  -- a world in which the premises are true and the goal is false shows that they don't
  counter_shows : (probe : Probe) (other : FactSet) → IsWorldOf schema other → is_countermodel schema probe other ≡ true → follows probe ≡ false
  counter_shows probe other of_schema is =
      false_if_not_true (follows probe)
      (λ yes.
      let holds : holds_in schema other probe.goal ≡ true = (test schema probe.premises probe.goal).0 yes other of_schema (and_first _ _ is) in
      let fails : not (holds_in schema other probe.goal) ≡ true = and_second _ _ is in
      true_is_not_false (sym fails ∙ ap not holds))

  -- a right refutation shows that they do
  refutation_shows : (probe : Probe) (lines : List RefutationLine) → is_refutation (clauses_of_probe schema probe.premises probe.goal) lines ≡ true
      → follows probe ≡ true
  refutation_shows probe lines right = (test schema probe.premises probe.goal).1 (refutes schema probe.premises probe.goal lines right)

  -- ---- what is shown so far

  -- the user is admissible and the items are sound
  pub record IsShown (entries : History) : Type 0 where
    pub admissible : IsAdmissible schema world user
    pub sound : IsSound schema world user entries

  -- all probes of a task
  abbrev task_probes : History → Task → List Probe
  task_probes entries admitting = probes_against (known user) (guarded user)
  task_probes entries (asking line mark query size) = probes (user_at user entries) (log user entries) query
  task_probes entries (adding secret size) = addition_probe user entries secret ∷ []

  -- what stands before a task's blocks
  abbrev Stands : History → Task → Type 0
  Stands entries admitting = (entries ≡ []) × (knows_truth_by user.method schema world (known user) ≡ true)
  Stands entries (asking line mark query size) = IsShown entries × (is_added mark ≡ false)
  Stands entries (adding secret size) = IsShown entries

  -- none of the verdicts says yes, but for an ask
  abbrev IsQuiet : Task → List Bool → Type 0
  IsQuiet admitting shown = list_any (λ v. v) shown ≡ false
  IsQuiet (asking line mark query size) shown = ⊤
  IsQuiet (adding secret size) shown = list_any (λ v. v) shown ≡ false

  abbrev IsAsking : Task → Type 0
  IsAsking admitting = ⊥
  IsAsking (asking line mark query size) = ⊤
  IsAsking (adding secret size) = ⊥

  -- the verdicts on the first probes of a task are right, and these probes are still to be shown
  record IsOwed (entries : History) (task : Task) (owed : List Probe) (shown : List Bool) : Type 0 where
    stands : Stands entries task
    done : List Probe
    split : task_probes entries task ≡ done ++ owed
    right : map follows done ≡ shown
    quiet : IsQuiet task shown

  abbrev IsGood : Awaited → Type 0
  IsGood head = ⊤
  IsGood admission = ⊤
  IsGood (block s) = IsOwed s.entries s.task (s.probe ∷ s.more) s.shown
  IsGood (step s lines) = IsOwed s.entries s.task (s.probe ∷ s.more) s.shown × IsAsking s.task
  IsGood (item entries) = IsShown entries
  IsGood (nothing entries) = IsShown entries

  abbrev IsGoodResult : Result Awaited DossierError → Type 0
  IsGoodResult (Ok awaited) = IsGood awaited
  IsGoodResult (Err why) = ⊤

  -- one more item
  abbrev one : Formula → Mark → ℕ → AnsweredQuery
  one query mark size = record { query = query; mark = mark; length = size }

  grown : (entries : History) (query : Formula) (mark : Mark) (size : ℕ) → IsShown entries → IsSoundItem schema world user entries (one query mark size)
      → IsShown (entries ++ one query mark size ∷ [])
  grown entries query mark size shown sound = record {
    admissible = shown.admissible;
    sound = grows schema world user entries (one query mark size) shown.sound sound;
  }

  -- an undecided ask needs nothing
  undecided_sound : (entries : History) (query : Formula) (size : ℕ) → IsSoundItem schema world user entries (one query Undecided size)
  undecided_sound entries query size = record {
    has_mark = λ settled. absurd (true_is_not_false (sym settled));
    is_unentailed = λ is. absurd (true_is_not_false (sym is));
  }

  -- an ask has the mark that right verdicts give
  asked_sound : (entries : History) (query : Formula) (mark : Mark) (size : ℕ) (shown : List Bool) → is_added mark ≡ false
      → map follows (probes (user_at user entries) (log user entries) query) ≡ shown
      → (kind_of mark == kind_of (mark_shown schema world name user entries query shown)) ≡ true
      → IsSoundItem schema world user entries (one query mark size)
  asked_sound entries query mark size shown isnt right same = record {
    has_mark = λ settled. same_kind mark _ same ∙ verdicts_give schema world user entries query shown (sym right);
    is_unentailed = λ is. absurd (true_is_not_false (sym is ∙ isnt));
  }

  -- what was added isn't entailed
  added_sound : (entries : History) (secret : Formula) (size : ℕ) → follows (addition_probe user entries secret) ≡ false
      → IsSoundItem schema world user entries (one secret Protected size)
  added_sound entries secret size fails = record {
    has_mark = λ settled. absurd (true_is_not_false (sym settled));
    is_unentailed = λ is. fails;
  }

  -- right verdicts of which none says yes: no guarded sentence is entailed
  none_entailed : (goals : List Formula) (shown : List Bool) → map follows (probes_against (known user) goals) ≡ shown → list_any (λ v. v) shown ≡ false
      → entails_some schema (known user) goals ≡ false
  none_entailed goals shown right quiet =
      sym (list_any-map (λ v. v) (λ goal. entails schema (known user) (goal, true)) goals)
      ∙ ap (list_any (λ v. v)) (sym (map-map follows (λ goal. record { premises = known user; goal = (goal, true) }) goals))
      ∙ ap (list_any (λ v. v)) right ∙ quiet

  -- of one probe the verdict says no
  one_fails : (probe : Probe) (shown : List Bool) → map follows (probe ∷ []) ≡ shown → list_any (λ v. v) shown ≡ false → follows probe ≡ false
  one_fails probe shown right quiet =
      let none : (follows probe || false) ≡ false = ap (list_any (λ v. v)) right ∙ quiet in
      by (follows probe) none
    where
      by : (b : Bool) → (b || false) ≡ false → b ≡ false
      by true e = absurd (true_is_not_false e)
      by false e = refl

  -- ---- steps

  task_good : (entries : History) (task : Task) (shown : List Bool) → Stands entries task → map follows (task_probes entries task) ≡ shown → IsQuiet task shown
      → IsGoodResult (behind_task schema world name user entries task shown)
  task_good entries admitting shown (none, truth) right quiet = record {
    admissible = record { knows_truth = truth; knows_no_secret = none_entailed (guarded user) shown right quiet };
    sound = subst (IsSound schema world user) (sym none) (empty schema world user);
  }
  task_good entries (asking line mark query size) shown (before, isnt) right quiet =
      by (kind_of mark == kind_of (mark_shown schema world name user entries query shown)) refl
    where
      by : (b : Bool) → (kind_of mark == kind_of (mark_shown schema world name user entries query shown)) ≡ b
          → IsGoodResult (if b then Ok (behind_item entries query mark size) else Err (refused.Mark line))
      by true same = grown entries query mark size before (asked_sound entries query mark size shown isnt right same)
      by false same = tt
  task_good entries (adding secret size) shown before right quiet =
      grown entries secret Protected size before (added_sound entries secret size (one_fails (addition_probe user entries secret) shown right quiet))

  owed_good : (entries : History) (task : Task) (owed : List Probe) (shown : List Bool) → IsOwed entries task owed shown
      → IsGoodResult (awaited_for schema world name user entries task owed shown)
  owed_good entries task [] shown owing =
      task_good entries task shown owing.stands
      (ap (map follows) (owing.split ∙ append-nil owing.done) ∙ owing.right) owing.quiet
  owed_good entries task (probe ∷ more) shown owing = owing

  -- the next probe of a task is shown by its right verdict
  block_good : (s : Showing) (verdict : Bool) → IsOwed s.entries s.task (s.probe ∷ s.more) s.shown → follows s.probe ≡ verdict
      → IsQuiet s.task (s.shown ++ verdict ∷ []) → IsGoodResult (behind_block schema world name user s verdict)
  block_good s verdict owing right quiet =
      owed_good s.entries s.task s.more (s.shown ++ verdict ∷ []) (record {
        stands = owing.stands;
        done = owing.done ++ s.probe ∷ [];
        split = owing.split ∙ sym (append_assoc owing.done (s.probe ∷ []) s.more);
        right = map-append follows owing.done (s.probe ∷ []) ∙ (λ i. owing.right i ++ right i ∷ []);
        quiet = quiet;
      })

  still_none : (shown : List Bool) → list_any (λ v. v) shown ≡ false → list_any (λ v. v) (shown ++ false ∷ []) ≡ false
  still_none [] e = refl
  still_none (true ∷ shown) e = absurd (true_is_not_false e)
  still_none (false ∷ shown) e = still_none shown e

  still_quiet : (task : Task) (shown : List Bool) → IsQuiet task shown → IsQuiet task (shown ++ false ∷ [])
  still_quiet admitting shown quiet = still_none shown quiet
  still_quiet (asking line mark query size) shown quiet = tt
  still_quiet (adding secret size) shown quiet = still_none shown quiet

  asking_quiet : (task : Task) (shown : List Bool) → IsAsking task → IsQuiet task shown
  asking_quiet admitting shown is = absurd is
  asking_quiet (asking line mark query size) shown is = tt
  asking_quiet (adding secret size) shown is = absurd is

  open_good : (line : ℕ) (s : Showing) (text : Text) (found : Option (List Fact)) → facts_listed schema text ≡ found
      → IsOwed s.entries s.task (s.probe ∷ s.more) s.shown → IsGoodResult (open_block schema world name user line s found)
  open_good line s text None is owing = tt
  open_good line s text (Some facts) is owing = by (is_countermodel schema s.probe (listed_world facts)) refl
    where
      by : (b : Bool) → is_countermodel schema s.probe (listed_world facts) ≡ b
          → IsGoodResult (if b then behind_block schema world name user s false else Err (refused.Verdict line))
      by true counter =
          block_good s false owing
          (counter_shows s.probe (listed_world facts) (world_of_schema schema facts (facts_of_schema schema text facts is)) counter)
          (still_quiet s.task s.shown owing.quiet)
      by false counter = tt

  follows_good : (line : ℕ) (s : Showing) (task : Task) → s.task ≡ task → IsOwed s.entries s.task (s.probe ∷ s.more) s.shown
      → IsGoodResult (follows_block schema world name user line s task)
  follows_good line s admitting is owing = tt
  follows_good line s (asking at mark query size) is owing = (owing, subst IsAsking (sym is) tt)
  follows_good line s (adding secret size) is owing = tt

  block_line_good : (s : Showing) (field : FieldSaid) → IsOwed s.entries s.task (s.probe ∷ s.more) s.shown
      → IsGoodResult (block_line schema world name user s field)
  block_line_good s field owing = by (bytes_eq field.word (codes "open")) (is_alone field (codes "follows"))
    where
      by : (a b : Bool)
          → IsGoodResult
          (if a then open_block schema world name user field.line s (facts_listed schema field.rest)
          else if b then follows_block schema world name user field.line s s.task else Err (refused.Form field.line))
      by true b = open_good field.line s field.rest (facts_listed schema field.rest) refl owing
      by false true = follows_good field.line s s.task refl owing
      by false false = tt

  line_good : (line : ℕ) (s : Showing) (lines : List RefutationLine) (next : Option RefutationLine)
      → IsOwed s.entries s.task (s.probe ∷ s.more) s.shown × IsAsking s.task → IsGoodResult (refutation_line schema world name user line s lines next)
  line_good line s lines None owing = tt
  line_good line s lines (Some next) owing = owing

  end_good : (line : ℕ) (s : Showing) (lines : List RefutationLine) → IsOwed s.entries s.task (s.probe ∷ s.more) s.shown × IsAsking s.task
      → IsGoodResult (refutation_end schema world name user line s lines)
  end_good line s lines (owing, is) = by (is_refutation (clauses_of_probe schema s.probe.premises s.probe.goal) lines) refl
    where
      by : (b : Bool) → is_refutation (clauses_of_probe schema s.probe.premises s.probe.goal) lines ≡ b
          → IsGoodResult (if b then behind_block schema world name user s true else Err (refused.Verdict line))
      by true right =
          block_good s true owing (refutation_shows s.probe lines right) (asking_quiet s.task (s.shown ++ true ∷ []) is)
      by false right = tt

  step_line_good : (s : Showing) (lines : List RefutationLine) (field : FieldSaid) → IsOwed s.entries s.task (s.probe ∷ s.more) s.shown × IsAsking s.task
      → IsGoodResult (step_line schema world name user s lines field)
  step_line_good s lines field owing = by (bytes_eq field.word (codes "line")) (is_alone field (codes "end"))
    where
      by : (a b : Bool)
          → IsGoodResult
          (if a then refutation_line schema world name user field.line s lines (line_in field.rest)
          else if b then refutation_end schema world name user field.line s lines else Err (refused.Form field.line))
      by true b = line_good field.line s lines (line_in field.rest) owing
      by false true = end_good field.line s lines owing
      by false false = tt

  -- ---- items

  -- the word of an ask names no mark of an item that was added
  named_asked : (word : Text) (mark : Mark) → mark_named word ≡ Some mark → is_added mark ≡ false
  named_asked word mark e =
      by (bytes_eq word (codes "yes")) (bytes_eq word (codes "no")) (bytes_eq word (codes "refused")) (bytes_eq word (codes "undecided")) e
    where
      found : (m : Mark) → Some m ≡ Some mark → is_added m ≡ false → is_added mark ≡ false
      found m same none = let is : m ≡ mark = cc in subst (λ m. is_added m ≡ false) is none

      by : (a b c d : Bool)
          → (if a then Some Yes else if b then Some No else if c then Some Refused else if d then Some Undecided else None) ≡ Some mark → is_added mark ≡ false
      by true b c d e = found Yes e refl
      by false true c d e = found No e refl
      by false false true d e = found Refused e refl
      by false false false true e = found Undecided e refl
      by false false false false e = absurd cc

  -- an ask whose probes are still to be shown
  asked_owed : (line : ℕ) (entries : History) (mark : Mark) (query : Formula) (size : ℕ) → IsShown entries → is_added mark ≡ false
      → IsGoodResult
      (awaited_for schema world name user entries (asking line mark query size) (probes (user_at user entries) (log user entries) query) [])
  asked_owed line entries mark query size shown isnt =
      owed_good entries (asking line mark query size) (probes (user_at user entries) (log user entries) query) [] (record {
        stands = (shown, isnt);
        done = [];
        split = refl;
        right = refl;
        quiet = tt;
      })

  asked_good : (line : ℕ) (entries : History) (mark : Mark) (size : ℕ) (found : Option Formula) → IsShown entries → is_added mark ≡ false
      → IsGoodResult (asked schema world name user line entries mark size found)
  asked_good line entries mark size None shown is = tt
  asked_good line entries Undecided size (Some query) shown is = grown entries query Undecided size shown (undecided_sound entries query size)
  asked_good line entries Yes size (Some query) shown is = asked_owed line entries Yes query size shown is
  asked_good line entries No size (Some query) shown is = asked_owed line entries No query size shown is
  asked_good line entries Refused size (Some query) shown is = asked_owed line entries Refused query size shown is
  asked_good line entries Protected size (Some query) shown is = absurd (true_is_not_false is)

  ask_good : (line : ℕ) (entries : History) (named : Option Mark) (text : Text) → IsShown entries → ((mark : Mark) → named ≡ Some mark → is_added mark ≡ false)
      → IsGoodResult (ask_line schema world name user line entries named text)
  ask_good line entries None text shown is = tt
  ask_good line entries (Some mark) [] shown is = tt
  ask_good line entries (Some mark) (b ∷ text) shown is =
      asked_good line entries mark (length (b ∷ text)) (sentence_in schema user entries Asking (b ∷ text)) shown (is mark refl)

  added_good : (line : ℕ) (entries : History) (size : ℕ) (found : Option Formula) → IsShown entries
      → IsGoodResult (added schema world name user line entries size found)
  added_good line entries size None shown = tt
  added_good line entries size (Some secret) shown =
      owed_good entries (adding secret size) (addition_probe user entries secret ∷ []) [] (record {
        stands = shown;
        done = [];
        split = refl;
        right = refl;
        quiet = refl;
      })

  protect_good : (line : ℕ) (entries : History) (text : Text) → IsShown entries → IsGoodResult (protect_line schema world name user line entries text)
  protect_good line entries [] shown = tt
  protect_good line entries (b ∷ text) shown =
      added_good line entries (length (b ∷ text)) (sentence_in schema user entries Protecting (b ∷ text)) shown

  item_line_good : (entries : History) (field : FieldSaid) → IsShown entries → IsGoodResult (item_line schema world name user entries field)
  item_line_good entries field shown =
      by (bytes_eq field.word (codes "ask")) (bytes_eq field.word (codes "protect"))
      (bytes_eq field.word (codes "done") && bytes_eq field.rest (decimal (length entries)))
    where
      by : (a b c : Bool)
          → IsGoodResult
          (if a then ask_line schema world name user field.line entries (mark_named (first_word field.rest).0) (first_word field.rest).1
          else if b then protect_line schema world name user field.line entries field.rest
          else if c then Ok (nothing entries) else Err (refused.Form field.line))
      by true b c =
          ask_good field.line entries (mark_named (first_word field.rest).0) (first_word field.rest).1 shown (named_asked (first_word field.rest).0)
      by false true c = protect_good field.line entries field.rest shown
      by false false true = shown
      by false false false = tt

  -- ---- lines and texts

  head_good : (field : FieldSaid) → IsGoodResult (head_line schema world name user field)
  head_good field =
      by (bytes_eq field.word (codes "dossier")) (bytes_eq field.rest (head_rest name user (codes "open")))
      (bytes_eq field.rest (head_rest name user (codes "closed"))) (bytes_eq field.rest (head_rest name user (codes "sealed")))
    where
      by : (a b c d : Bool)
          → IsGoodResult
          (if not a then Err (refused.Form field.line) else if b then Ok admission else if c then Err (refused.Admission field.line)
          else if d then Err (refused.Admission field.line) else Err (refused.Form field.line))
      by false b c d = tt
      by true true c d = tt
      by true false true d = tt
      by true false false true = tt
      by true false false false = tt

  admission_good : (field : FieldSaid) → IsGoodResult (admission_line schema world name user field)
  admission_good field = by (is_alone field (codes "admission")) (knows_truth_by user.method schema world (known user)) refl
    where
      by : (a b : Bool) → knows_truth_by user.method schema world (known user) ≡ b
          → IsGoodResult
          (if not a then Err (refused.Form field.line)
          else if b then awaited_for schema world name user [] admitting (probes_against (known user) (guarded user)) []
          else Err (refused.Admission field.line))
      by false b truth = tt
      by true true truth =
          owed_good [] admitting (probes_against (known user) (guarded user)) []
          (record { stands = (refl, truth); done = []; split = refl; right = refl; quiet = refl })
      by true false truth = tt

  after_good : (awaited : Awaited) (field : FieldSaid) → IsGood awaited → IsGoodResult (after_line schema world name user awaited field)
  after_good head field good = head_good field
  after_good admission field good = admission_good field
  after_good (block s) field good = block_line_good s field good
  after_good (step s lines) field good = step_line_good s lines field good
  after_good (item entries) field good = item_line_good entries field good
  after_good (nothing entries) field good = tt

  end_shown : (awaited : Awaited) (number : ℕ) (entries : History) → IsGood awaited → history_at_end schema world name user awaited number ≡ Ok entries
      → IsShown entries
  end_shown (nothing shown) number entries good e = let same : shown ≡ entries = cc in subst IsShown same good
  end_shown head number entries good e = absurd cc
  end_shown admission number entries good e = absurd cc
  end_shown (block s) number entries good e = absurd cc
  end_shown (step s lines) number entries good e = absurd cc
  end_shown (item shown) number entries good e = absurd cc

  from_shown : (found : Result Awaited DossierError) (number : ℕ) (fields : List FieldSaid) (entries : History) → IsGoodResult found
      → checked_from schema world name user found number fields ≡ Ok entries → IsShown entries
  from_shown (Err why) number fields entries good e = absurd cc
  from_shown (Ok awaited) number [] entries good e = end_shown awaited number entries good e
  from_shown (Ok awaited) number (field ∷ fields) entries good e =
      from_shown (after_line schema world name user awaited field) (number + 1) fields entries (after_good awaited field good) e

pub checked_are_sound : TestIsEntailment → RefutationEntails → EmptyHistoryIsSound → SoundHistoriesGrow → VerdictsGiveMarks → CheckedAreSound
checked_are_sound test refutes empty grows verdicts schema world name user text entries e =
    let shown = from_shown test refutes empty grows verdicts schema world name user (Ok head) 1 (fields_of text) entries tt e in
    (shown.admissible, shown.sound)
