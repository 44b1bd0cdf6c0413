use Rattle.std.proofs.Common.{◌≡◌, ◌<◌, length, map, sym, ap, subst, ◌∙◌, arith}
use Rattle.std.specs.Prelude.{vec_len}
use Rattle.std.proofs.lemmas.List.{length-map}
use Rattle.cqe_base.specs.Formula.{formula_of}
use Rattle.cqe_base.specs.History.{UserProfile, profile_of, answered_query_of, user_at}
use Rattle.audit_print.specs.Found.{worlds_for}
use Rattle.audit_print.proofs.Serving.{serving, worlds_few, some_more}
use Rattle.audit_print.proofs.others.other_worlds.Goals as goal

pub overflow_cast-number : goal.overflow_cast-number
overflow_cast-number c =
    let current = c.args.current.now in
    let is = ap (λ (u : UserProfile). length u.secrets) c.requires.current in
    let sized = length-map current.secrets.items formula_of in
    let all = c.worlds_of-secret-end.ensures in
    let at_most = worlds_few current.method (vec_len current.secrets) in
    let few = c.law_sizes.ensures.few c.args.schema.now (profile_of c.args.user.now) (map answered_query_of c.args.entries.now) c.requires.limits
    c.requires.sizes in
    omega (arith, is, sized, all, at_most, few, current.secrets.ok.0, c.loop-secret-test.true)

pub other_world-requires-clause-secret : goal.other_world-requires-clause-secret
other_world-requires-clause-secret c =
    let current = c.args.current.now in
    let is = ap (λ (u : UserProfile). length u.secrets) c.requires.current in
    let sized = length-map current.secrets.items formula_of in
    let all = c.worlds_of-secret-end.ensures in
    let few = worlds_few current.method (vec_len current.secrets) in
    omega (arith, is, sized, all, few, current.secrets.ok.0, c.loop-secret-test.true)

pub returns-clause-others : goal.returns-clause-others
returns-clause-others c =
    let user = profile_of c.args.user.now in
    let entries = map answered_query_of c.args.entries.now in
    let current = c.args.current.now in
    let sized = length-map current.secrets.items formula_of in
    let as_many : length (map formula_of current.secrets.items) ≡ vec_len current.secrets = omega (arith, sized, current.secrets.ok.0) in
    let same : length (user_at user entries).secrets ≡ vec_len current.secrets =
    ap (λ (u : UserProfile). length u.secrets) (sym c.requires.current) ∙ as_many in
    let all = c.worlds_of-secret-end.ensures in
    serving c.args.schema.now user entries c.loop-secret.found.items current.method (ap (λ (u : UserProfile). u.method) (sym c.requires.current))
    (some_more user entries c.requires.limits.some_secret) (c.law_pairs.ensures.stay user entries c.requires.limits.pairs) (λ k low.
    let below : k < worlds_for current.method (vec_len current.secrets) = subst (λ n. k < worlds_for current.method n) same low in
    c.loop-secret.invariant.each k (omega (arith, below, all, c.loop-secret-test.false)))
