-- Scripts stay sound as their lines are read.
use Rattle.std.proofs.Common.{◌≡◌, ◌≤◌, ◌<◌, ◌+◌, ℕ, Bool, true, false, List, [], ◌∷◌, ◌++◌, length, length-append, refl, sym, ap, subst, ◌∙◌, append_assoc}
use Rattle.std.proofs.Common.{arith}
use Rattle.std.specs.Prelude.{◌||◌, ◌&&◌, Some, None, is_none, nat_le, nat_lt, sum_by}
use Rattle.std.specs.List.{flat_map, list_all}
use Rattle.std.proofs.lemmas.Grind.{common_steps}
use Rattle.std.proofs.lemmas.Bool.{and_parts, and_from}
use Rattle.cqe_base.specs.declared.user.Method.{Method}
use Rattle.cqe_base.specs.Schema.{DatabaseSchema, Declaration, schema_refusal, schema_of}
use Rattle.cqe_base.specs.Formula.{Formula, negation, nodes, is_sentence_of}
use Rattle.cqe_base.specs.History.{ViewsWithoutEntries, view_size}
use Rattle.cqe_base.specs.Limits.{is_small}
use Rattle.cqe_base.specs.Secrecies.{with_secrecies}
use Rattle.cqe_base.proofs.Truths.{or_second}
use Rattle.case_engine.specs.Script.{Script, script_schema, script_user, all_secrets, empty_script}
use Rattle.case_engine.specs.Sound.{IsSound, is_fit_budget}
use Rattle.case_engine.proofs.Growth.{Grows, well_formed_grows, nodes_kept}
use Rattle.case_engine.proofs.Declaring.{domain_grows, relation_grows}

-- the nodes of the user's sentences
abbrev known_nodes : DatabaseSchema → List Formula → ℕ
known_nodes schema sentences = sum_by (nodes schema) sentences

abbrev secret_nodes : DatabaseSchema → List Formula → ℕ
secret_nodes schema sentences = sum_by (λ s. 1 + nodes schema s) sentences

-- ---- before the first line

pub sound_empty : (schema : DatabaseSchema) → schema ≡ script_schema empty_script → schema_refusal [] [] ≡ None → ViewsWithoutEntries
    → IsSound empty_script schema 0
sound_empty schema is accepted views = record {
  schema_is = is;
  accepted = accepted;
  known = refl;
  secret = refl;
  small_known = refl;
  small_secrets = refl;
  few_known = omega arith;
  few_secrets = omega arith;
  nodes_are = sym (views schema (script_user empty_script));
  view = omega arith;
  budget = refl;
  ready = λ e. absurd (no_ask e);
  short = refl;
}
  where
    no_ask : nat_le 1 0 ≡ true → ⊥
    no_ask e = let less : 1 ≤ 0 = grind (arith, e) in omega arith

-- ---- a schema that grows

module _ (small big : DatabaseSchema) (grows : Grows small big) where
  sentences_grow : (sentences : List Formula) → list_all (is_sentence_of small) sentences ≡ true → list_all (is_sentence_of big) sentences ≡ true
  sentences_grow [] are = refl
  sentences_grow (s ∷ sentences) are =
      let each = and_parts (is_sentence_of small s) (list_all (is_sentence_of small) sentences) are in
      and_from (is_sentence_of big s) (list_all (is_sentence_of big) sentences) (well_formed_grows small big grows [] s each.0)
      (sentences_grow sentences each.1)

  smalls_grow : (sentences : List Formula) → list_all (is_sentence_of small) sentences ≡ true → list_all (is_small small) sentences ≡ true
      → list_all (is_small big) sentences ≡ true
  smalls_grow [] are smalls = refl
  smalls_grow (s ∷ sentences) are smalls =
      let each = and_parts (is_sentence_of small s) (list_all (is_sentence_of small) sentences) are in
      let few = and_parts (is_small small s) (list_all (is_small small) sentences) smalls in
      and_from (is_small big s) (list_all (is_small big) sentences) (ap (λ n. nat_le n 20000) (nodes_kept small big grows [] s each.0)
      ∙ few.0) (smalls_grow sentences each.1 few.1)

  known_kept : (sentences : List Formula) → list_all (is_sentence_of small) sentences ≡ true → known_nodes big sentences ≡ known_nodes small sentences
  known_kept [] are = refl
  known_kept (s ∷ sentences) are =
      let each = and_parts (is_sentence_of small s) (list_all (is_sentence_of small) sentences) are in
      let here = nodes_kept small big grows [] s each.0 in
      let rest = known_kept sentences each.1 in
      grind (arith, common_steps, here, rest)

  secrets_kept : (sentences : List Formula) → list_all (is_sentence_of small) sentences ≡ true → secret_nodes big sentences ≡ secret_nodes small sentences
  secrets_kept [] are = refl
  secrets_kept (s ∷ sentences) are =
      let each = and_parts (is_sentence_of small s) (list_all (is_sentence_of small) sentences) are in
      let here = nodes_kept small big grows [] s each.0 in
      let rest = secrets_kept sentences each.1 in
      grind (arith, common_steps, here, rest)

  grown : (script new : Script) (view_nodes : ℕ) → IsSound script small view_nodes → big ≡ script_schema new → schema_refusal new.domains new.relations ≡ None
      → script_user new ≡ script_user script → new.method ≡ script.method → new.budget ≡ script.budget → new.asks ≡ script.asks → ViewsWithoutEntries
      → IsSound new big view_nodes
  grown script new view_nodes sound is accepted same_user same_method same_budget same_asks views =
      let same_know = ap (λ u. u.know) same_user in
      let same_secrets = ap (λ u. u.secrets) same_user in
      record {
        schema_is = is;
        accepted = accepted;
        known = ap (list_all (is_sentence_of big)) same_know ∙ sentences_grow script.know sound.known;
        secret = ap (list_all (is_sentence_of big)) same_secrets ∙ sentences_grow (all_secrets script) sound.secret;
        small_known = ap (list_all (is_small big)) same_know ∙ smalls_grow script.know sound.known sound.small_known;
        small_secrets = ap (list_all (is_small big)) same_secrets ∙ smalls_grow (all_secrets script) sound.secret sound.small_secrets;
        few_known = subst (λ k. length k ≤ 256) (sym same_know) sound.few_known;
        few_secrets = subst (λ k. length k ≤ 16) (sym same_secrets) sound.few_secrets;
        nodes_are =
            sound.nodes_are ∙ views small (script_user script)
            ∙ sym (ap (λ n. n + secret_nodes small (all_secrets script)) (known_kept script.know sound.known))
            ∙ sym (ap (λ n. known_nodes big script.know + n) (secrets_kept (all_secrets script) sound.secret)) ∙ sym (views big (script_user script))
            ∙ sym (ap (λ u. view_size big u []) same_user);
        view = sound.view;
        budget = ap is_fit_budget same_budget ∙ sound.budget;
        ready = λ e. ap (λ m. is_none m || nat_le (length (all_secrets new)) 0) same_method
            ∙ ap (λ k. is_none script.method || nat_le (length k) 0) same_secrets
            ∙ sound.ready (sym (ap (λ a. nat_le 1 (length a)) same_asks) ∙ e);
        short = subst (λ a. list_all (λ t. nat_le (length t) 4096) a ≡ true) (sym same_asks) sound.short;
      }

pub sound_grows : (script : Script) (small big : DatabaseSchema) (view_nodes : ℕ) (domains relations : List Declaration) → IsSound script small view_nodes
    → Grows small big → big ≡ script_schema (record script { domains = domains; relations = relations }) → schema_refusal domains relations ≡ None
    → ViewsWithoutEntries → IsSound (record script { domains = domains; relations = relations }) big view_nodes
sound_grows script small big view_nodes domains relations sound grows is accepted views =
    grown small big grows script (record script { domains = domains; relations = relations }) view_nodes sound is accepted refl refl refl refl views

-- ---- what is said of the user

-- the nodes of a view depend on the sentences alone
same_view : (schema : DatabaseSchema) (script new : Script) → new.know ≡ script.know → all_secrets new ≡ all_secrets script → ViewsWithoutEntries
    → view_size schema (script_user script) [] ≡ view_size schema (script_user new) []
same_view schema script new same_know same_secrets views =
    views schema (script_user script) ∙ sym (ap (λ k. known_nodes schema k + secret_nodes schema (all_secrets script)) same_know)
    ∙ sym (ap (λ k. known_nodes schema new.know + secret_nodes schema k) same_secrets) ∙ sym (views schema (script_user new))

pub sound_method : (script : Script) (schema : DatabaseSchema) (view_nodes : ℕ) (method : Method) → IsSound script schema view_nodes → ViewsWithoutEntries
    → IsSound (record script { method = Some method }) schema view_nodes
sound_method script schema view_nodes method sound views = record {
  schema_is = sound.schema_is;
  accepted = sound.accepted;
  known = sound.known;
  secret = sound.secret;
  small_known = sound.small_known;
  small_secrets = sound.small_secrets;
  few_known = sound.few_known;
  few_secrets = sound.few_secrets;
  nodes_are = sound.nodes_are ∙ same_view schema script (record script { method = Some method }) refl refl views;
  view = sound.view;
  budget = sound.budget;
  ready = λ e. or_second (is_none script.method) (nat_le (length (all_secrets script)) 0) (sound.ready e);
  short = sound.short;
}

pub sound_budget : (script : Script) (schema : DatabaseSchema) (view_nodes budget : ℕ) → IsSound script schema view_nodes → 1 ≤ budget → budget ≤ 4000000
    → ViewsWithoutEntries → IsSound (record script { budget = Some budget }) schema view_nodes
sound_budget script schema view_nodes budget sound low high views = record {
  schema_is = sound.schema_is;
  accepted = sound.accepted;
  known = sound.known;
  secret = sound.secret;
  small_known = sound.small_known;
  small_secrets = sound.small_secrets;
  few_known = sound.few_known;
  few_secrets = sound.few_secrets;
  nodes_are = sound.nodes_are ∙ same_view schema script (record script { budget = Some budget }) refl refl views;
  view = sound.view;
  budget = grind (arith, low, high);
  ready = sound.ready;
  short = sound.short;
}

-- one more sentence at the end of a list
all_push : (p : Formula → Bool) (sentences : List Formula) (s : Formula) → list_all p sentences ≡ true → p s ≡ true → list_all p (sentences ++ s ∷ []) ≡ true
all_push p [] s all here = and_from (p s) true here refl
all_push p (x ∷ sentences) s all here =
    let each = and_parts (p x) (list_all p sentences) all in
    and_from (p x) (list_all p (sentences ++ s ∷ [])) each.0 (all_push p sentences s each.1 here)

-- a further secret is the last of all
secret_last : (script : Script) (s : Formula) → all_secrets (record script { secrets = script.secrets ++ s ∷ [] }) ≡ all_secrets script ++ s ∷ []
secret_last script s = sym (append_assoc (flat_map (λ q. q ∷ negation q ∷ []) script.secrecies) script.secrets (s ∷ []))

pub secret_longer : (script : Script) (s : Formula)
    → length (all_secrets (record script { secrets = script.secrets ++ s ∷ [] })) ≡ length (all_secrets script) + 1
secret_longer script s = ap length (secret_last script s) ∙ length-append (all_secrets script) (s ∷ [])

-- ---- a further secrecy

-- what passes for it and for its negation passes for all secrets
pass_secrecy : (test : Formula → Bool) (secrecies others : List Formula) (q : Formula) → list_all test (with_secrecies secrecies others) ≡ true
    → test q ≡ true → test (negation q) ≡ true → list_all test (with_secrecies (secrecies ++ q ∷ []) others) ≡ true
pass_secrecy test [] others q all stated negated = and_from (test q) _ stated (and_from (test (negation q)) _ negated all)
pass_secrecy test (r ∷ secrecies) others q all stated negated =
    let first = and_parts (test r) (test (negation r) && list_all test (with_secrecies secrecies others)) all in
    let second = and_parts (test (negation r)) (list_all test (with_secrecies secrecies others)) first.1 in
    and_from (test r) _ first.0 (and_from (test (negation r)) _ second.0 (pass_secrecy test secrecies others q second.1 stated negated))

-- two secrets more
count_secrecy : (secrecies others : List Formula) (q : Formula)
    → length (with_secrecies (secrecies ++ q ∷ []) others) ≡ length (with_secrecies secrecies others) + 2
count_secrecy [] others q = omega arith
count_secrecy (r ∷ secrecies) others q = let rest = count_secrecy secrecies others q in omega (arith, rest)

-- the nodes of the secrets, and those of the two
nodes_secrecy : (schema : DatabaseSchema) (secrecies others : List Formula) (q : Formula)
    → secret_nodes schema (with_secrecies (secrecies ++ q ∷ []) others)
    ≡ secret_nodes schema (with_secrecies secrecies others) + (1 + nodes schema q + (1 + (1 + nodes schema q)))
nodes_secrecy schema [] others q = grind (arith, common_steps)
nodes_secrecy schema (r ∷ secrecies) others q = let rest = nodes_secrecy schema secrecies others q in grind (arith, common_steps, rest)

pub secrecy_longer : (script : Script) (q : Formula)
    → length (all_secrets (record script { secrecies = script.secrecies ++ q ∷ [] })) ≡ length (all_secrets script) + 2
secrecy_longer script q = count_secrecy script.secrecies script.secrets q

pub known_more : (schema : DatabaseSchema) (script : Script) (s : Formula) → ViewsWithoutEntries → view_size schema (script_user (record script {
  know =
      script.know ++ s ∷ [];
})) [] ≡ view_size schema (script_user script) [] + nodes schema s
known_more schema script s views =
    let now = views schema (script_user (record script { know = script.know ++ s ∷ [] })) in
    let was = views schema (script_user script) in
    let sums : known_nodes schema (script.know ++ s ∷ []) ≡ known_nodes schema script.know + nodes schema s = grind (arith, common_steps) in
    omega (arith, now, was, sums)

pub secret_more : (schema : DatabaseSchema) (script : Script) (s : Formula) → ViewsWithoutEntries → view_size schema (script_user (record script {
  secrets =
      script.secrets ++ s ∷ [];
})) [] ≡ view_size schema (script_user script) [] + (1 + nodes schema s)
secret_more schema script s views =
    let now = views schema (script_user (record script { secrets = script.secrets ++ s ∷ [] })) in
    let was = views schema (script_user script) in
    let ends = ap (secret_nodes schema) (secret_last script s) in
    let sums : secret_nodes schema (all_secrets script ++ s ∷ []) ≡ secret_nodes schema (all_secrets script) + (1 + nodes schema s) =
    grind (arith, common_steps) in
    omega (arith, now, was, ends, sums)

pub sound_known : (script : Script) (schema : DatabaseSchema) (view_nodes count : ℕ) (s : Formula) → IsSound script schema view_nodes
    → is_sentence_of schema s ≡ true → count ≡ nodes schema s → count ≤ 20000 → length script.know < 256 → view_nodes + count ≤ 40000 → ViewsWithoutEntries
    → IsSound (record script { know = script.know ++ s ∷ [] }) schema (view_nodes + count)
sound_known script schema view_nodes count s sound sentence counted small few room views = record {
  schema_is = sound.schema_is;
  accepted = sound.accepted;
  known = all_push (is_sentence_of schema) script.know s sound.known sentence;
  secret = sound.secret;
  small_known = all_push (is_small schema) script.know s sound.small_known (grind (arith, counted, small));
  small_secrets = sound.small_secrets;
  few_known = let long : length (script.know ++ s ∷ []) ≡ length script.know + 1 = grind (arith, common_steps) in omega (arith, long, few);
  few_secrets = sound.few_secrets;
  nodes_are = let more = known_more schema script s views in let was = sound.nodes_are in omega (arith, more, was, counted);
  view = room;
  budget = sound.budget;
  ready = sound.ready;
  short = sound.short;
}

-- a method that is said, and some secret
ready_with : (b : Bool) (few more : ℕ) → few ≤ more → (b || nat_le few 0) ≡ false → (b || nat_le more 0) ≡ false
ready_with true few more le e = e
ready_with false few more le e = grind (arith, le, e)

pub sound_secret : (script : Script) (schema : DatabaseSchema) (view_nodes count : ℕ) (s : Formula) → IsSound script schema view_nodes
    → is_sentence_of schema s ≡ true → count ≡ nodes schema s → count ≤ 20000 → length (all_secrets script) < 16 → view_nodes + (1 + count) ≤ 40000
    → ViewsWithoutEntries → IsSound (record script { secrets = script.secrets ++ s ∷ [] }) schema (view_nodes + (1 + count))
sound_secret script schema view_nodes count s sound sentence counted small few room views = record {
  schema_is = sound.schema_is;
  accepted = sound.accepted;
  known = sound.known;
  secret = ap (list_all (is_sentence_of schema)) ends ∙ all_push (is_sentence_of schema) (all_secrets script) s sound.secret sentence;
  small_known = sound.small_known;
  small_secrets = ap (list_all (is_small schema)) ends ∙ all_push (is_small schema) (all_secrets script) s sound.small_secrets (grind (arith, counted, small));
  few_known = sound.few_known;
  few_secrets = omega (arith, long, few);
  nodes_are = let more = secret_more schema script s views in let was = sound.nodes_are in omega (arith, more, was, counted);
  view = room;
  budget = sound.budget;
  ready = λ e. ready_with (is_none script.method) (length (all_secrets script)) _ (omega (arith, long)) (sound.ready e);
  short = sound.short;
}
  where
    ends : all_secrets (record script { secrets = script.secrets ++ s ∷ [] }) ≡ all_secrets script ++ s ∷ []
    ends = secret_last script s

    long : length (all_secrets (record script { secrets = script.secrets ++ s ∷ [] })) ≡ length (all_secrets script) + 1
    long = secret_longer script s

pub secrecy_more : (schema : DatabaseSchema) (script : Script) (q : Formula) → ViewsWithoutEntries → view_size schema (script_user (record script {
  secrecies =
      script.secrecies ++ q ∷ [];
})) [] ≡ view_size schema (script_user script) [] + (1 + nodes schema q + (1 + (1 + nodes schema q)))
secrecy_more schema script q views =
    let now = views schema (script_user (record script { secrecies = script.secrecies ++ q ∷ [] })) in
    let was = views schema (script_user script) in
    let sums = nodes_secrecy schema script.secrecies script.secrets q in
    omega (arith, now, was, sums)

-- what a sentence keeps that joins others
pub kept_limits : (count many total : ℕ) → (nat_le count 20000 && (nat_lt many 16 && nat_le total 40000)) ≡ true
    → (count ≤ 20000) × (many < 16) × (total ≤ 40000)
kept_limits count many total e =
    let outer = and_parts (nat_le count 20000) (nat_lt many 16 && nat_le total 40000) e in
    let inner = and_parts (nat_lt many 16) (nat_le total 40000) outer.1 in
    let first : nat_le count 20000 ≡ true = outer.0 in
    let second : nat_lt many 16 ≡ true = inner.0 in
    let third : nat_le total 40000 ≡ true = inner.1 in
    (grind (arith, first), grind (arith, second), grind (arith, third))

-- count is that of the negation
pub sound_secrecy : (script : Script) (schema : DatabaseSchema) (view_nodes count : ℕ) (q : Formula) → IsSound script schema view_nodes
    → is_sentence_of schema q ≡ true → count ≡ nodes schema q + 1 → count ≤ 20000 → length (all_secrets script) + 1 < 16
    → view_nodes + (count + (count + 1)) ≤ 40000 → ViewsWithoutEntries
    → IsSound (record script { secrecies = script.secrecies ++ q ∷ [] }) schema (view_nodes + (count + (count + 1)))
sound_secrecy script schema view_nodes count q sound sentence counted small few room views = record {
  schema_is = sound.schema_is;
  accepted = sound.accepted;
  known = sound.known;
  secret = pass_secrecy (is_sentence_of schema) script.secrecies script.secrets q sound.secret sentence sentence;
  small_known = sound.small_known;
  small_secrets =
      pass_secrecy (is_small schema) script.secrecies script.secrets q sound.small_secrets (grind (arith, counted, small)) (grind (arith, counted, small));
  few_known = sound.few_known;
  few_secrets = omega (arith, long, few);
  nodes_are = let more = secrecy_more schema script q views in let was = sound.nodes_are in omega (arith, more, was, counted);
  view = room;
  budget = sound.budget;
  ready = λ e. ready_with (is_none script.method) (length (all_secrets script)) _ (omega (arith, long)) (sound.ready e);
  short = sound.short;
}
  where
    long : length (all_secrets (record script { secrecies = script.secrecies ++ q ∷ [] })) ≡ length (all_secrets script) + 2
    long = secrecy_longer script q

-- ---- one more declaration

pub sound_domain : (script : Script) (small big : DatabaseSchema) (view_nodes : ℕ) (d : Declaration)
    (domains copied_domains copied_relations : List Declaration) → IsSound script small view_nodes → domains ≡ script.domains ++ d ∷ []
    → copied_domains ≡ script.domains ++ d ∷ [] → copied_relations ≡ script.relations → schema_refusal copied_domains copied_relations ≡ None
    → big ≡ schema_of copied_domains copied_relations → ViewsWithoutEntries → IsSound (record script { domains = domains }) big view_nodes
sound_domain script small big view_nodes d domains copied_domains copied_relations sound pushed copied same accepted is views =
    let all = copied ∙ sym pushed in
    let big_is : big ≡ schema_of domains script.relations = is ∙ ap (λ ds. schema_of ds copied_relations) all ∙ ap (λ rs. schema_of domains rs) same in
    let grows : Grows (schema_of script.domains script.relations) (schema_of (script.domains ++ d ∷ []) script.relations) =
    domain_grows script.domains script.relations d sound.accepted in
    let from_small = subst (λ s. Grows s (schema_of (script.domains ++ d ∷ []) script.relations)) (sym sound.schema_is) grows in
    let to_big = subst (λ s. Grows small s) (sym (big_is ∙ ap (λ ds. schema_of ds script.relations) pushed)) from_small in
    sound_grows script small big view_nodes domains script.relations sound to_big big_is
    (sym (ap (λ ds. schema_refusal ds copied_relations) all ∙ ap (λ rs. schema_refusal domains rs) same) ∙ accepted) views

pub sound_relation : (script : Script) (small big : DatabaseSchema) (view_nodes : ℕ) (r : Declaration)
    (relations copied_domains copied_relations : List Declaration) → IsSound script small view_nodes → relations ≡ script.relations ++ r ∷ []
    → copied_domains ≡ script.domains → copied_relations ≡ script.relations ++ r ∷ [] → schema_refusal copied_domains copied_relations ≡ None
    → big ≡ schema_of copied_domains copied_relations → ViewsWithoutEntries → IsSound (record script { relations = relations }) big view_nodes
sound_relation script small big view_nodes r relations copied_domains copied_relations sound pushed same copied accepted is views =
    let all = copied ∙ sym pushed in
    let big_is : big ≡ schema_of script.domains relations = is ∙ ap (λ ds. schema_of ds copied_relations) same ∙ ap (λ rs. schema_of script.domains rs) all in
    let grows : Grows (schema_of script.domains script.relations) (schema_of script.domains (script.relations ++ r ∷ [])) =
    relation_grows script.domains script.relations r in
    let from_small = subst (λ s. Grows s (schema_of script.domains (script.relations ++ r ∷ []))) (sym sound.schema_is) grows in
    let to_big = subst (λ s. Grows small s) (sym (big_is ∙ ap (λ rs. schema_of script.domains rs) pushed)) from_small in
    sound_grows script small big view_nodes script.domains relations sound to_big big_is
    (sym (ap (λ ds. schema_refusal ds copied_relations) same ∙ ap (λ rs. schema_refusal script.domains rs) all) ∙ accepted) views

-- a script with nothing in it is the empty one
pub sound_nothing : (script : Script) (schema : DatabaseSchema) → script ≡ empty_script → schema ≡ schema_of [] [] → schema_refusal [] [] ≡ None
    → ViewsWithoutEntries → IsSound script schema 0
sound_nothing script schema nothing is accepted views = subst (λ s. IsSound s schema 0) (sym nothing) (sound_empty schema is accepted views)
