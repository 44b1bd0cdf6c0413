-- Blocks as they are written are accepted, and each shows the right verdict.
use Rattle.std.proofs.Common.{◌≡◌, ◌≤◌, inl, inr, ◌==◌, ℕ, Bool, true, false, not, List, [], ◌∷◌, ◌++◌, length, map, Some, Ok, Err, Result}
use Rattle.std.proofs.Common.{refl, sym, ap, subst, ◌∙◌, arith, append_assoc, append-nil, length-append}
use Rattle.std.specs.Prelude.{if◌then◌else◌, ⊤, codes}
use Rattle.std.specs.List.{list_all, list_any, flat_map}
use Rattle.std.specs.List.Sorted.{IsStrictlySortedBy}
use Rattle.cqe_base.specs.declared.world.Fact.{Fact}
use Rattle.cqe_base.specs.Schema.{DatabaseSchema, Text, is_valid_schema}
use Rattle.cqe_base.specs.Facts.{FactSet, IsWorldOf, fact_cmp, is_fact_of}
use Rattle.cqe_base.specs.Literal.{Literal}
use Rattle.cqe_base.specs.Entailment.{holds_in, entails}
use Rattle.cqe_base.specs.History.{UserProfile, History}
use Rattle.cqe_base.specs.Censor.{Probe}
use Rattle.cqe_base.specs.Refutation.{RefutationLine, is_refutation, is_result, chain_result, lines_right}
use Rattle.cqe_base.proofs.Truths.{true_is_not_false, false_if_not_true, and_first, and_second, or_first, or_second}
use Rattle.cqe_base.proofs.Members.{list_all-Member}
use Rattle.cqe_base.proofs.Worlds.{from_list-Member, entails-true, Entails-entails}
use Rattle.cqe_base.proofs.Outcomes.{refutation_entails}
use Rattle.entailment.specs.Certificates.{clauses_of_probe}
use Rattle.audit_text.specs.Text.{world_text}
use Rattle.audit_print.specs.Said.{world_said}
use Rattle.entailment.specs.Small.{is_small_literal, is_small_number, is_small_line}
use Rattle.dossier.specs.Words.{line_in, listed_world}
use Rattle.dossier.specs.Written.{literal_text, number_text, refutation_line_text, follows_text, open_text, IsRightBlock}
use Rattle.dossier.specs.Right.{AreRightBlocks}
use Rattle.dossier.specs.Checked.{Task, admitting, asking, adding, Showing, Awaited, block, step, is_countermodel, behind_task, awaited_for, behind_block}
use Rattle.dossier.specs.Checked.{open_block, follows_block, refutation_line, block_line, step_line}
use Rattle.dossier.specs.declared.error.DossierError.{DossierError}
use Rattle.dossier.specs.declared.error.DossierError.TheVariants as refused
use Rattle.dossier.proofs.FactLists.{listed-back, world-lacks, world-some}
use Rattle.dossier.proofs.RefLines.{line-read, line-lacks}
use Rattle.dossier.proofs.Ended.{none-both}
use Rattle.dossier.proofs.Leads.{field-with, field-alone, Leads, leads-none, leads-both, leads-one}

-- the text of facts, and what stands behind the word of a line
abbrev listed_text : DatabaseSchema → List Fact → Text
listed_text schema facts = world_text (Some (world_said schema facts))

abbrev said_of : RefutationLine → Text
said_of line = flat_map literal_text line.clause ++ codes ":" ++ flat_map number_text line.chain

-- a right line has a chain, and is read back
module _ (clauses : List (List Literal)) where
  read-by : (clause : List Literal) (chain : List ℕ) → list_all is_small_literal clause ≡ true → list_all is_small_number chain ≡ true
      → is_result clause (chain_result clauses chain) ≡ true
      → line_in (flat_map literal_text clause ++ codes ":" ++ flat_map number_text chain) ≡ Some (record { clause = clause; chain = chain })
  read-by clause [] small few right = absurd (true_is_not_false (sym right))
  read-by clause (n ∷ chain) small few right = line-read clause n chain small few

-- something stands behind the word of a line
some-behind : (clause : List Literal) (chain : List ℕ) → 1 ≤ length (flat_map literal_text clause ++ codes ":" ++ flat_map number_text chain)
some-behind clause chain =
    omega (
      arith,
      length-append (flat_map literal_text clause ++ codes ":") (flat_map number_text chain),
      length-append (flat_map literal_text clause) (codes ":"),
    )

module _ (schema : DatabaseSchema) (world : FactSet) (name : Text) (user : UserProfile) where
  abbrev LeadsOn : Result Awaited DossierError → Text → Result Awaited DossierError → Type 0
  LeadsOn first text after = Leads schema world name user first text after

  -- ---- verdicts

  -- whether the premises of a probe entail its goal
  abbrev pub follows : Probe → Bool
  follows probe = entails schema probe.premises probe.goal

  refutation-shows : (probe : Probe) (lines : List RefutationLine) → is_refutation (clauses_of_probe schema probe.premises probe.goal) lines ≡ true
      → follows probe ≡ true
  refutation-shows probe lines right =
      Entails-entails schema probe.premises probe.goal (refutation_entails schema probe.premises probe.goal lines right)

  of-schema : (facts : List Fact) → list_all (is_fact_of schema) facts ≡ true → IsWorldOf schema (listed_world facts)
  of-schema facts all fact has = list_all-Member (is_fact_of schema) facts all fact (from_list-Member facts fact has)

  counter-shows : (probe : Probe) (facts : List Fact) → list_all (is_fact_of schema) facts ≡ true → is_countermodel schema probe (listed_world facts) ≡ true
      → follows probe ≡ false
  counter-shows probe facts all is =
      false_if_not_true (follows probe)
      (λ yes.
      let holds : holds_in schema (listed_world facts) probe.goal ≡ true =
      entails-true schema probe.premises probe.goal yes (listed_world facts) (of-schema facts all) (and_first _ _ is) in
      let fails : not (holds_in schema (listed_world facts) probe.goal) ≡ true = and_second _ _ is in
      true_is_not_false (sym fails ∙ ap not holds))

  -- ---- a block

  module _ (valid : is_valid_schema schema ≡ true) (s : Showing) where
    -- one that lists a world
    open-leads : (facts : List Fact) → list_all (is_fact_of schema) facts ≡ true → length facts ≤ 100000 → IsStrictlySortedBy fact_cmp facts
        → is_countermodel schema s.probe (listed_world facts) ≡ true
        → LeadsOn (Ok (block s)) (open_text schema facts) (behind_block schema world name user s false)
    open-leads facts all few sorted counter =
        leads-one schema world name user (block s) (codes "open" ++ 32 ∷ listed_text schema facts) (behind_block schema world name user s false)
        (none-both (λ b. b == 10) (codes "open ") (listed_text schema facts) refl (world-lacks schema valid facts all))
        (λ n. ap (block_line schema world name user s) (field-with n (codes "open") (listed_text schema facts) refl (world-some schema valid facts all))
        ∙ ap (open_block schema world name user n s) (listed-back schema valid facts all few sorted)
        ∙ ap (λ b. if b then behind_block schema world name user s false else Err (refused.Verdict n)) counter)

    -- one with a refutation
    abbrev IsAsking : Task → Type 0
    IsAsking admitting = ⊥
    IsAsking (asking line mark query size) = ⊤
    IsAsking (adding secret size) = ⊥

    follows-asked : (n : ℕ) (task : Task) → IsAsking task → follows_block schema world name user n s task ≡ Ok (step s [])
    follows-asked n admitting is = absurd is
    follows-asked n (asking line mark query size) is = refl
    follows-asked n (adding secret size) is = absurd is

    step-leads : (clauses : List (List Literal)) (done : List RefutationLine) (line : RefutationLine) → is_small_line line ≡ true
        → is_result line.clause (chain_result clauses line.chain) ≡ true
        → LeadsOn (Ok (step s done)) (refutation_line_text line) (Ok (step s (done ++ line ∷ [])))
    step-leads clauses done line small right =
        let clause_small = and_first (list_all is_small_literal line.clause) (list_all is_small_number line.chain) small in
        let chain_small = and_second (list_all is_small_literal line.clause) (list_all is_small_number line.chain) small in
        leads-one schema world name user (step s done) (codes "line" ++ 32 ∷ said_of line) (Ok (step s (done ++ line ∷ [])))
        (none-both (λ b. b == 10) (codes "line ") (said_of line) refl (line-lacks line.clause line.chain clause_small chain_small))
        (λ n. ap (step_line schema world name user s done) (field-with n (codes "line") (said_of line) refl (some-behind line.clause line.chain))
        ∙ ap (refutation_line schema world name user n s done) (read-by clauses line.clause line.chain clause_small chain_small right))

    steps-lead : (clauses : List (List Literal)) (done lines : List RefutationLine) → list_all is_small_line lines ≡ true → lines_right clauses lines ≡ true
        → LeadsOn (Ok (step s done)) (flat_map refutation_line_text lines) (Ok (step s (done ++ lines)))
    steps-lead clauses done [] small right =
        subst (λ all. LeadsOn (Ok (step s done)) [] (Ok (step s all))) (sym (append-nil done)) (leads-none schema world name user (Ok (step s done)))
    steps-lead clauses done (line ∷ lines) small right =
        subst (λ all. LeadsOn (Ok (step s done)) (flat_map refutation_line_text (line ∷ lines)) (Ok (step s all))) (append_assoc done (line ∷ []) lines)
        (leads-both schema world name user (Ok (step s done)) (Ok (step s (done ++ line ∷ []))) (Ok (step s (done ++ line ∷ [] ++ lines)))
        (refutation_line_text line) (flat_map refutation_line_text lines)
        (step-leads clauses done line (and_first _ _ small) (and_first _ _ right))
        (steps-lead (clauses ++ line.clause ∷ []) (done ++ line ∷ []) lines (and_second _ _ small) (and_second _ _ right)))

    follows-leads : (lines : List RefutationLine) → IsAsking s.task → list_all is_small_line lines ≡ true
        → is_refutation (clauses_of_probe schema s.probe.premises s.probe.goal) lines ≡ true
        → LeadsOn (Ok (block s)) (follows_text lines) (behind_block schema world name user s true)
    follows-leads lines is small right =
        leads-both schema world name user (Ok (block s)) (Ok (step s lines)) (behind_block schema world name user s true)
        (codes "follows\n" ++ flat_map refutation_line_text lines) (codes "end\n")
        (leads-both schema world name user (Ok (block s)) (Ok (step s [])) (Ok (step s lines)) (codes "follows\n") (flat_map refutation_line_text lines)
        (leads-one schema world name user (block s) (codes "follows") (Ok (step s [])) refl
        (λ n. ap (block_line schema world name user s) (field-alone n (codes "follows") refl) ∙ follows-asked n s.task is))
        (steps-lead (clauses_of_probe schema s.probe.premises s.probe.goal) [] lines small (and_first _ _ right)))
        (leads-one schema world name user (step s lines) (codes "end") (behind_block schema world name user s true) refl
        (λ n. ap (step_line schema world name user s lines) (field-alone n (codes "end") refl)
        ∙ ap (λ b. if b then behind_block schema world name user s true else Err (refused.Verdict n)) right))

  -- ---- blocks

  -- only for an ask may some goal follow
  abbrev pub Allows : Task → List Probe → Type 0
  Allows admitting probes = list_any follows probes ≡ false
  Allows (asking line mark query size) probes = ⊤
  Allows (adding secret size) probes = list_any follows probes ≡ false

  allows-rest : (task : Task) (probe : Probe) (more : List Probe) → Allows task (probe ∷ more) → Allows task more
  allows-rest admitting probe more may = or_second _ _ may
  allows-rest (asking line mark query size) probe more may = tt
  allows-rest (adding secret size) probe more may = or_second _ _ may

  asks-there : (valid : is_valid_schema schema ≡ true) (s : Showing) (task : Task) (probe : Probe) (more : List Probe) → Allows task (probe ∷ more)
      → follows probe ≡ true → IsAsking valid s task
  asks-there valid s admitting probe more may true_there = true_is_not_false (sym true_there ∙ or_first _ _ may)
  asks-there valid s (asking line mark query size) probe more may true_there = tt
  asks-there valid s (adding secret size) probe more may true_there = true_is_not_false (sym true_there ∙ or_first _ _ may)

  module _ (valid : is_valid_schema schema ≡ true) where
    block-leads : (s : Showing) (text : Text) → IsRightBlock schema s.probe text → Allows s.task (s.probe ∷ s.more)
        → LeadsOn (Ok (block s)) text (behind_block schema world name user s (follows s.probe))
    block-leads s text (inl (facts, sorted, few, all, counter, is)) may =
        subst (λ v. LeadsOn (Ok (block s)) text (behind_block schema world name user s v)) (sym (counter-shows s.probe facts all counter))
        (subst (λ t. LeadsOn (Ok (block s)) t (behind_block schema world name user s false)) (sym is)
        (open-leads valid s facts all few sorted counter))
    block-leads s text (inr (lines, right, small, is)) may =
        let yes = refutation-shows s.probe lines right in
        subst (λ v. LeadsOn (Ok (block s)) text (behind_block schema world name user s v)) (sym yes)
        (subst (λ t. LeadsOn (Ok (block s)) t (behind_block schema world name user s true)) (sym is)
        (follows-leads valid s lines (asks-there valid s s.task s.probe s.more may yes) small right))

    -- the blocks of probes lead on to what follows on their verdicts
    pub blocks-lead : (entries : History) (task : Task) (probes : List Probe) (shown : List Bool) (text : Text) → AreRightBlocks schema probes text
        → Allows task probes
        → LeadsOn (awaited_for schema world name user entries task probes shown) text
        (behind_task schema world name user entries task (shown ++ map follows probes))
    blocks-lead entries task [] shown text none may =
        subst (λ t. LeadsOn (behind_task schema world name user entries task shown) t (behind_task schema world name user entries task (shown ++ [])))
        (sym none)
        (subst (λ v. LeadsOn (behind_task schema world name user entries task shown) [] (behind_task schema world name user entries task v))
        (sym (append-nil shown)) (leads-none schema world name user (behind_task schema world name user entries task shown)))
    blocks-lead entries task (probe ∷ more) shown text (first, rest, is_block, others, parts) may =
        let s : Showing = record { entries = entries; task = task; probe = probe; more = more; shown = shown } in
        subst (λ t. LeadsOn (Ok (block s)) t (behind_task schema world name user entries task (shown ++ map follows (probe ∷ more)))) (sym parts)
        (subst (λ v. LeadsOn (Ok (block s)) (first ++ rest) (behind_task schema world name user entries task v))
        (append_assoc shown (follows probe ∷ []) (map follows more))
        (leads-both schema world name user (Ok (block s)) (behind_block schema world name user s (follows probe))
        (behind_task schema world name user entries task (shown ++ follows probe ∷ [] ++ map follows more)) first rest
        (block-leads s first is_block may)
        (blocks-lead entries task more (shown ++ follows probe ∷ []) rest others (allows-rest task probe more may))))
