use Rattle.policy_files.specs.Memory.{policy_value_of}
use Rattle.policy_files.proofs.PoliciesKept.{read_kept, users_keep}
use Rattle.policy_files.proofs.policy.read_policy.Goals as goal

pub returns-in-Ok-clause-kept : goal.returns-in-Ok-clause-kept
returns-in-Ok-clause-kept c = read_kept c.law_policies_are_kept.ensures c.args.bytes.now (policy_value_of c.in-Ok.policy) c.in-Ok.ensures

pub returns-in-Ok-clause-limits : goal.returns-in-Ok-clause-limits
returns-in-Ok-clause-limits c =
    let kept = read_kept c.law_policies_are_kept.ensures c.args.bytes.now (policy_value_of c.in-Ok.policy) c.in-Ok.ensures in
    users_keep c.in-Ok.policy.schema c.in-Ok.policy.users.items kept.limits
