use Rattle.std.proofs.Common.{◌≡◌, ◌≤◌, ◌+◌, [], ◌++◌, sym, ap, subst, ◌∙◌, arith}
use Rattle.std.specs.Prelude.{codes, string_bytes}
use Rattle.cqe_base.specs.History.{known, log}
use Rattle.cqe_base.specs.Censor.{guarded, probes_against, admission_budget}
use Rattle.entailment.specs.Logs.{log_nodes, sentence_nodes}
use Rattle.dossier.specs.Logs.{past_schema, past_user, past_history}
use Rattle.dossier.specs.Written.{AreBlocks, IsAdmission}
use Rattle.dossier.specs.Adding.{AreUnspent, Grows}
use Rattle.dossier.proofs.Pushed.{grows-then, admitted-unspent, admission-goals}
use Rattle.dossier.proofs.writing.push_admission.Goals as goal

pub push_each-requires-clause-room : goal.push_each-requires-clause-room
push_each-requires-clause-room c =
    let schema = past_schema c.args.past.now in
    let user = past_user c.args.past.now in
    let fits = c.law_limits.ensures.probes schema user c.requires.kept.limits in
    let same : log_nodes schema (log user (past_history c.args.past.now)) ≡ log_nodes schema (known user) =
    ap (λ es. log_nodes schema (log user es)) c.requires.none ∙ ap (log_nodes schema) (c.law_logs.ensures.empty user) in
    let small : log_nodes schema (known user) ≤ 40000 = fits.known_nodes in
    let none : sentence_nodes schema [] ≡ 0 = omega arith in
    omega arith

pub push_each-requires-clause-unspent : goal.push_each-requires-clause-unspent
push_each-requires-clause-unspent c =
    let past = c.args.past.now in
    subst (AreUnspent (past_schema past) admission_budget)
    (sym (admission-goals c.law_logs.ensures.empty c.law_added_secrets.ensures.empty (past_user past) (past_history past) c.requires.none))
    (admitted-unspent (past_schema past) c.args.world.now (past_user past) c.requires.admitted)

pub returns-clause-blocks : goal.returns-clause-blocks
returns-clause-blocks c =
    let past = c.args.past.now in
    let schema = past_schema past in
    let user = past_user past in
    grows-then (λ text. text ≡ codes "admission\n") (AreBlocks schema (probes_against (known user) (guarded user))) (IsAdmission schema user)
    (string_bytes c.args.text.now) (string_bytes c.push_str.new.self) (string_bytes c.push_each.new.text)
    (codes "admission\n", (λ i. codes "admission\n"), c.in_ok-push_str.ensures.bytes)
    (subst (λ ps. Grows (AreBlocks schema ps) (string_bytes c.push_str.new.self) (string_bytes c.push_each.new.text))
    (admission-goals c.law_logs.ensures.empty c.law_added_secrets.ensures.empty user (past_history past) c.requires.none) c.in_ok-push_each.ensures.blocks)
    (λ line blocks line_is are. (blocks, are, ap (λ t. t ++ blocks) line_is))
