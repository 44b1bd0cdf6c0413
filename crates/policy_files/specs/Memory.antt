-- The policy that the structs in memory are.
use Rattle.std.specs.Prelude.{map, string_bytes}
use Rattle.cqe_base.specs.declared.user.User.{User}
use Rattle.cqe_base.specs.History.{profile_of}
use Rattle.policy_files.specs.declared.policy.Policy.{Policy}
use Rattle.policy_files.specs.Policies.{PolicyUser, PolicyValue}

-- the user that a User in memory is
abbrev pub policy_user_of : User → PolicyUser
policy_user_of user =
    record { name = string_bytes user.name; profile = profile_of user; token = user.token }

-- the policy that a Policy in memory is
abbrev pub policy_value_of : Policy → PolicyValue
policy_value_of policy =
    record { schema = policy.schema; users = map policy_user_of policy.users.items }
