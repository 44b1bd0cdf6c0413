-- The size of a view without items.
use Rattle.std.proofs.Common.{◌≡◌, ◌+◌, true, List, [], ◌∷◌, map, refl, ap, ◌∙◌, arith}
use Rattle.std.specs.Prelude.{sum_by}
use Rattle.std.proofs.lemmas.Grind.{common_steps}
use Rattle.cqe_base.specs.Schema.{DatabaseSchema}
use Rattle.cqe_base.specs.Formula.{Formula, nodes}
use Rattle.cqe_base.specs.Entailment.{Signed}
use Rattle.cqe_base.specs.History.{UserProfile, user_at, known, signed_nodes, view_size}
use Rattle.cqe_base.proofs.Logs.{log-nil, user_at-nil}

pub size-known : (schema : DatabaseSchema) (sentences : List Formula)
    → sum_by (λ (s : Signed). signed_nodes schema s.0 s.1) (map (λ (s : Formula). (s, true)) sentences) ≡ sum_by (nodes schema) sentences
size-known schema [] = refl
size-known schema (s ∷ sentences) = grind (arith, common_steps, size-known schema sentences)

pub view_size-empty : (schema : DatabaseSchema) (user : UserProfile)
    → view_size schema user [] ≡ sum_by (nodes schema) user.know + sum_by (λ s. 1 + nodes schema s) user.secrets
unfolding view_size known
view_size-empty schema user =
    let known_size = ap (λ (signed : List Signed). sum_by (λ (s : Signed). signed_nodes schema s.0 s.1) signed) (log-nil user)
    ∙ size-known schema user.know in
    let secrets : (user_at user []).secrets ≡ user.secrets = ap (λ u. u.secrets) (user_at-nil user) in
    λ i. known_size i + sum_by (λ s. 1 + nodes schema s) (secrets i)
