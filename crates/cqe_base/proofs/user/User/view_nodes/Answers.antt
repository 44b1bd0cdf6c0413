use Rattle.std.proofs.Common.{◌≡◌, ◌+◌, ◌^◌, List, map, min, ap, ◌∙◌, arith}
use Rattle.std.specs.Prelude.{sum_by}
use Rattle.cqe_base.specs.declared.sentence.Sentence.{Sentence}
use Rattle.cqe_base.specs.Formula.{formula_of, nodes}
use Rattle.cqe_base.specs.History.{profile_of}
use Rattle.cqe_base.proofs.ViewSizes.{view_size-empty}
use Rattle.cqe_base.proofs.user.User.view_nodes.Goals as goal

pub returns : goal.returns
returns c =
    let schema = c.args.schema.now in
    let user = profile_of c.args.self.now in
    let size = view_size-empty schema user in
    let known : c.nodes_of_all-known.result ≡ min (sum_by (nodes schema) user.know) (2 ^ 32) =
    c.nodes_of_all-known.ensures
    ∙ ap (λ (sentences : List Sentence). min (sum_by (nodes schema) (map formula_of sentences)) (2 ^ 32)) c.as_slice.ensures.value in
    let secret : c.negated_nodes_of_all-secret.result ≡ min (sum_by (λ s. 1 + nodes schema s) user.secrets) (2 ^ 32) =
    c.negated_nodes_of_all-secret.ensures
    ∙ ap (λ (sentences : List Sentence). min (sum_by (λ s. 1 + nodes schema s) (map formula_of sentences)) (2 ^ 32)) c.as_slice-2.ensures.value in
    omega (arith, size, known, secret, c.counted_sum.ensures)
