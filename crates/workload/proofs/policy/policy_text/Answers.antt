use Rattle.std.proofs.Common.{map, string_bytes}
use Rattle.std.proofs.lemmas.Result.{IfOk-weaker}
use Rattle.std.proofs.lemmas.Str.{IsUtf8-string_bytes}
use Rattle.toml.specs.View.{view}
use Rattle.workload.proofs.Policies.{policy_reads}
use Rattle.workload.proofs.policy.policy_text.Goals as goal

pub returns-clause-policy : goal.returns-clause-policy
returns-clause-policy c = λ seed at.
    IfOk-weaker c.root_text.result _ _ (λ text reads.
    policy_reads c.law_canonical_forms_read.ensures seed c.args.users (map view c.in_ok-list.list.items) (string_bytes text)
    c.requires.some_user c.requires.few_users (c.in_ok-list.ensures.trees seed at) (IsUtf8-string_bytes text) reads) c.root_text.ensures
