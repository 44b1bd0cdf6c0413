-- Logs and sizes, entry by entry.
use Rattle.std.proofs.Common.{◌≡◌, ℕ, ◌+◌, List, [], ◌∷◌, ◌++◌, refl, ap, ◌∙◌, arith}
use Rattle.std.specs.Prelude.{sum_by}
use Rattle.std.proofs.lemmas.Grind.{common_steps}
use Rattle.cqe_base.specs.declared.user.Mark.{Mark}
use Rattle.cqe_base.specs.declared.user.Mark.TheVariants.{Yes, No, Refused, Undecided, Protected}
use Rattle.cqe_base.specs.Schema.{DatabaseSchema}
use Rattle.cqe_base.specs.Formula.{Formula, nodes}
use Rattle.cqe_base.specs.Entailment.{Signed}
use Rattle.user_log.specs.Nodes.{told_nodes}
use Rattle.cqe_base.specs.History.{UserProfile, AnsweredQuery, History, LogsGrow, SecretsGrow, told_by, secrets_by, user_at, log, signed_nodes, view_size}

abbrev size_of : DatabaseSchema → List Signed → ℕ
size_of schema signed = sum_by (λ s. signed_nodes schema s.0 s.1) signed

-- the nodes of the negations of secrets
abbrev secret_size : DatabaseSchema → List Formula → ℕ
secret_size schema secrets = sum_by (λ s. 1 + nodes schema s) secrets

-- what an item tells and what it adds have as many nodes as it adds
size-item : (schema : DatabaseSchema) (mark : Mark) (query : Formula)
    → size_of schema (told_by mark query) + secret_size schema (secrets_by mark query) ≡ told_nodes schema mark query
size-item schema Yes query = grind (arith, common_steps)
size-item schema No query = grind (arith, common_steps)
size-item schema Refused query = refl
size-item schema Undecided query = refl
size-item schema Protected query = grind (arith, common_steps)

size-append : (schema : DatabaseSchema) (first second : List Signed) → size_of schema (first ++ second) ≡ size_of schema first + size_of schema second
size-append schema first second = grind (arith, common_steps)

secret_size-append : (schema : DatabaseSchema) (first second : List Formula)
    → secret_size schema (first ++ second) ≡ secret_size schema first + secret_size schema second
secret_size-append schema first second = grind (arith, common_steps)

pub view_size-push : (schema : DatabaseSchema) (user : UserProfile) (entries : History) (entry : AnsweredQuery) → LogsGrow → SecretsGrow
    → view_size schema user (entries ++ entry ∷ []) ≡ view_size schema user entries + told_nodes schema entry.mark entry.query
unfolding view_size
view_size-push schema user entries entry logs secrets =
    let pushed = ap (size_of schema) (logs user entries entry) ∙ size-append schema (log user entries) (told_by entry.mark entry.query) in
    let grown = ap (secret_size schema) (secrets user entries entry)
    ∙ secret_size-append schema (user_at user entries).secrets (secrets_by entry.mark entry.query) in
    let item = size-item schema entry.mark entry.query in
    omega (arith, pushed, grown, item)
