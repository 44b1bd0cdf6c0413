use Rattle.std.proofs.Common.{◌≡◌, ◌+◌, false, ap, sym, ◌∙◌, arith}
use Rattle.std.proofs.lemmas.Bool.{or_left}
use Rattle.std.proofs.lemmas.Grind.{common_steps}
use Rattle.std.specs.Prelude.{sum_by}
use Rattle.cqe_base.specs.Formula.{formula_of, nodes}
use Rattle.cqe_base.specs.History.{UserProfile}
use Rattle.cqe_base.specs.Run.{is_too_large}
use Rattle.dossier.specs.Logs.{past_schema, past_user, past_history}
use Rattle.dossier.proofs.past.Past.is_too_large_secret.Goals as goal

pub returns-then-is_too_large : goal.returns-then-is_too_large
returns-then-is_too_large c =
    let self = c.args.self.now in
    sym (or_left (is_too_large (past_schema self) (past_user self) (past_history self) (formula_of c.args.secret.now)) _
    (sym c.is_too_large.ensures ∙ c.if-is_too_large.true))

pub returns-then-secret_nodes-count-gt-SECRET_NODES : goal.returns-then-secret_nodes-count-gt-SECRET_NODES
returns-then-secret_nodes-count-gt-SECRET_NODES c =
    let self = c.args.self.now in
    let small : is_too_large (past_schema self) (past_user self) (past_history self) (formula_of c.args.secret.now) ≡ false =
    sym c.is_too_large.ensures ∙ c.if-is_too_large.false in
    let secrets = ap (λ (u : UserProfile). sum_by (λ s. 1 + nodes (past_schema self) s) u.secrets) c.requires.current in
    grind (arith, common_steps, small, secrets, c.nodes-count.ensures, c.secret_nodes.ensures)

pub returns-else-secret_nodes-count-gt-SECRET_NODES : goal.returns-else-secret_nodes-count-gt-SECRET_NODES
returns-else-secret_nodes-count-gt-SECRET_NODES c =
    let self = c.args.self.now in
    let small : is_too_large (past_schema self) (past_user self) (past_history self) (formula_of c.args.secret.now) ≡ false =
    sym c.is_too_large.ensures ∙ c.if-is_too_large.false in
    let secrets = ap (λ (u : UserProfile). sum_by (λ s. 1 + nodes (past_schema self) s) u.secrets) c.requires.current in
    let nodes_are = c.requires.nodes in
    grind (arith, common_steps, small, secrets, nodes_are, c.nodes-count.ensures, c.secret_nodes.ensures, c.saturating_add.ensures)
