-- Blocks that are written one after the other, and what grows by them.
use Rattle.std.proofs.Common.{◌≡◌, ◌≢◌, ◌≤◌, ◌<◌, ◌+◌, ℕ, zero, suc, true, false, ◌||◌, List, [], ◌∷◌, ◌++◌, length, map, take, get_or}
use Rattle.std.proofs.Common.{refl, sym, ap, subst, ◌∙◌, arith, append_assoc, append-nil}
use Rattle.std.specs.List.{list_any}
use Rattle.std.proofs.lemmas.Bool.{or_parts}
use Rattle.std.proofs.lemmas.List.{take_more, take_all, map-append}
use Rattle.cqe_base.specs.Schema.{DatabaseSchema, Text}
use Rattle.cqe_base.specs.Formula.{Formula}
use Rattle.cqe_base.specs.Entailment.{Signed}
use Rattle.cqe_base.specs.Outcome.{Outcome, Follows, Open, Spent, outcome, is_open, is_spent}
use Rattle.cqe_base.specs.declared.user.Method.{Method}
use Rattle.cqe_base.specs.declared.user.Method.TheVariants.{Lying, Refusal, Combined}
use Rattle.cqe_base.specs.Facts.{FactSet}
use Rattle.cqe_base.specs.History.{UserProfile, History, known, log, user_at, EmptyLogIsKnown, EmptyHistoryAddsNone}
use Rattle.cqe_base.specs.Censor.{Probe, probes_against, probes_by, guarded, admitted, admission_budget, knows_truth_by}
use Rattle.std.specs.List.{list_all}
use Rattle.cqe_base.proofs.Truths.{and_first, and_second}
use Rattle.dossier.specs.Items.{implied_probes}
use Rattle.dossier.specs.Written.{IsBlock, AreBlocks}
use Rattle.dossier.specs.Adding.{AreUnspent, Grows}

-- ---- growth

pub grows-none : (Is : Text → Type 0) (old : Text) → Is [] → Grows Is old old
grows-none Is old none = ([], none, sym (append-nil old))

pub grows-then : (Is Js Ks : Text → Type 0) (old middle new : Text) → Grows Is old middle → Grows Js middle new
    → ((first second : Text) → Is first → Js second → Ks (first ++ second)) → Grows Ks old new
grows-then Is Js Ks old middle new (first, is, first_is) (second, js, second_is) joins =
    (first ++ second, joins first second is js, second_is ∙ ap (λ t. t ++ second) first_is ∙ append_assoc old first second)

pub grows-as : (Is Ks : Text → Type 0) (old new : Text) → Grows Is old new → ((text : Text) → Is text → Ks text) → Grows Ks old new
grows-as Is Ks old new (more, is, more_is) turns = (more, turns more is, more_is)

-- ---- blocks

module _ (schema : DatabaseSchema) where
  pub blocks-more : (probes : List Probe) (probe : Probe) (first second : Text) → AreBlocks schema probes first → IsBlock schema probe second
      → AreBlocks schema (probes ++ probe ∷ []) (first ++ second)
  blocks-more [] probe first second none is = (second, [], is, refl, ap (λ t. t ++ second) none ∙ sym (append-nil second))
  blocks-more (next ∷ probes) probe first second (here, rest, block, blocks, parts) is =
      (here, rest ++ second, block, blocks-more probes probe rest second blocks is, ap (λ t. t ++ second) parts ∙ append_assoc here rest second)

  pub blocks-append : (probes more : List Probe) (first second : Text) → AreBlocks schema probes first → AreBlocks schema more second
      → AreBlocks schema (probes ++ more) (first ++ second)
  blocks-append [] more first second none others = subst (AreBlocks schema more) (ap (λ t. t ++ second) (sym none)) others
  blocks-append (next ∷ probes) more first second (here, rest, block, blocks, parts) others =
      (here, rest ++ second, block, blocks-append probes more rest second blocks others, ap (λ t. t ++ second) parts ∙ append_assoc here rest second)

  pub blocks-one : (probe : Probe) (text : Text) → IsBlock schema probe text → AreBlocks schema (probe ∷ []) text
  blocks-one probe text is = (text, [], is, refl, sym (append-nil text))

  -- ---- probes that aren't spent

  pub not-spent : (o : Outcome) → is_spent o ≡ false → o ≢ Spent
  not-spent Follows isnt is = absurd cc
  not-spent Open isnt is = absurd cc
  not-spent Spent isnt is = absurd cc

  pub open-unspent : (o : Outcome) → is_open o ≡ true → (is_spent o || false) ≡ false
  open-unspent Follows is = refl
  open-unspent Open is = refl
  open-unspent Spent is = absurd cc

  module _ (budget : ℕ) where
    pub unspent-first : (probe : Probe) (more : List Probe) → AreUnspent schema budget (probe ∷ more)
        → (outcome schema probe.premises probe.goal budget ≢ Spent) × AreUnspent schema budget more
    unspent-first probe more unspent =
        let (first, others) = or_parts (is_spent (outcome schema probe.premises probe.goal budget))
        (list_any (λ p. is_spent (outcome schema p.premises p.goal budget)) more) unspent in
        (not-spent (outcome schema probe.premises probe.goal budget) first, others)

    pub unspent-append : (probes more : List Probe) → AreUnspent schema budget (probes ++ more)
        → AreUnspent schema budget probes × AreUnspent schema budget more
    unspent-append [] more unspent = (refl, unspent)
    unspent-append (probe ∷ probes) more unspent =
        let (first, others) = or_parts (is_spent (outcome schema probe.premises probe.goal budget))
        (list_any (λ p. is_spent (outcome schema p.premises p.goal budget)) (probes ++ more)) unspent in
        let (here, there) = unspent-append probes more others in
        (λ i. first i || here i, there)

    -- the probe of each goal isn't
    pub unspent-at : {W : Type 0} (premises : List Signed) (said : W → Formula) (goals : List W) (i : ℕ) (goal : W) → goal ≡ get_or goals i goal
        → i < length goals → AreUnspent schema budget (probes_against premises (map said goals))
        → outcome schema premises (said goal, true) budget ≢ Spent
    unspent-at premises said [] i goal is low unspent = absurd (omega (arith, low))
    unspent-at premises said (first ∷ goals) zero goal is low unspent =
        let here = (unspent-first (record { premises = premises; goal = (said first, true) }) (probes_against premises (map said goals)) unspent).0 in
        subst (λ g. outcome schema premises (said g, true) budget ≢ Spent) (sym is) here
    unspent-at premises said (first ∷ goals) (suc i) goal is low unspent =
        unspent-at premises said goals i goal is (omega (arith, low))
        (unspent-first (record { premises = premises; goal = (said first, true) }) (probes_against premises (map said goals)) unspent).1

  -- ---- the blocks of several goals

  module _ (premises : List Signed) {W : Type 0} (said : W → Formula) (goals : List W) where
    -- one more goal
    pub goals-pushed : (i : ℕ) (goal : W) → goal ≡ get_or goals i goal → i < length goals → (old middle new : Text)
        → Grows (AreBlocks schema (probes_against premises (map said (take i goals)))) old middle
        → Grows (IsBlock schema (record { premises = premises; goal = (said goal, true) })) middle new
        → Grows (AreBlocks schema (probes_against premises (map said (take (i + 1) goals)))) old new
    goals-pushed i goal is low old middle new so_far one =
        grows-then (AreBlocks schema (probes_against premises (map said (take i goals))))
        (IsBlock schema (record { premises = premises; goal = (said goal, true) }))
        (AreBlocks schema (probes_against premises (map said (take (i + 1) goals)))) old middle new so_far one
        (λ first second blocks block.
        subst (λ ps. AreBlocks schema ps (first ++ second)) (sym more)
        (blocks-more (probes_against premises (map said (take i goals))) (record { premises = premises; goal = (said goal, true) }) first second blocks block))
      where
        more : probes_against premises (map said (take (i + 1) goals))
            ≡ probes_against premises (map said (take i goals)) ++ record { premises = premises; goal = (said goal, true) } ∷ []
        more =
            ap (λ gs. probes_against premises (map said gs)) (take_more goals i goal low ∙ ap (λ g. take i goals ++ g ∷ []) (sym is))
            ∙ ap (probes_against premises) (map-append said (take i goals) (goal ∷ []))
            ∙ map-append (λ g. record { premises = premises; goal = (g, true) }) (map said (take i goals)) (said goal ∷ [])

    -- all goals
    pub goals-all : (i : ℕ) → length goals ≤ i → (old new : Text) → Grows (AreBlocks schema (probes_against premises (map said (take i goals)))) old new
        → Grows (AreBlocks schema (probes_against premises (map said goals))) old new
    goals-all i past old new = subst (λ gs. Grows (AreBlocks schema (probes_against premises (map said gs))) old new) (take_all i goals past)

-- the probes of a query, one part after the other
pub query-parts : (m : Method) (goals : List Formula) (told : List Signed) (query : Formula)
    → probes_by m goals told query
    ≡ implied_probes m told query ++ (probes_against (told ++ (query, true) ∷ []) goals ++ probes_against (told ++ (query, false) ∷ []) goals)
query-parts Lying goals told query = refl
query-parts Refusal goals told query = refl
query-parts Combined goals told query = refl

-- ---- the admission

-- the probes of the admission are those of the log without items
pub admission-goals : EmptyLogIsKnown → EmptyHistoryAddsNone → (user : UserProfile) (entries : History) → entries ≡ []
    → probes_against (log user entries ++ []) (guarded (user_at user entries)) ≡ probes_against (known user) (guarded user)
admission-goals empty_log empty_user user entries none =
    let premises : log user entries ++ [] ≡ known user = append-nil (log user entries) ∙ ap (log user) none ∙ empty_log user in
    let goals : guarded (user_at user entries) ≡ guarded user = ap (λ es. guarded (user_at user es)) none ∙ ap guarded (empty_user user) in
    λ i. probes_against (premises i) (goals i)

-- probes that are all open aren't spent
open-all : (schema : DatabaseSchema) (premises : List Signed) (goals : List Formula)
    → list_all (λ goal. is_open (outcome schema premises (goal, true) admission_budget)) goals ≡ true
    → AreUnspent schema admission_budget (probes_against premises goals)
open-all schema premises [] all = refl
open-all schema premises (goal ∷ goals) all =
    let first = open-unspent schema (outcome schema premises (goal, true) admission_budget) (and_first _ _ all) in
    let here = (or_parts (is_spent (outcome schema premises (goal, true) admission_budget)) false first).0 in
    let others = open-all schema premises goals (and_second _ _ all) in
    λ i. here i || others i

-- those of a user who is admitted
pub admitted-unspent : (schema : DatabaseSchema) (world : FactSet) (user : UserProfile) → admitted schema world user ≡ true
    → AreUnspent schema admission_budget (probes_against (known user) (guarded user))
unfolding admitted
admitted-unspent schema world user is =
    open-all schema (known user) (guarded user) (and_second (knows_truth_by user.method schema world (known user)) _ is)
