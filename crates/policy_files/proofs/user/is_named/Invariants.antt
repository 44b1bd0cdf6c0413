use Rattle.std.proofs.Common.{◌≡◌, drop, map}
use Rattle.cqe_base.specs.Schema.{contains_text}
use Rattle.policy_files.specs.Users.{names_of}
use Rattle.policy_files.specs.Memory.{policy_user_of}
use Rattle.policy_files.proofs.user.is_named.Given as goal

-- the users that are left decide
abbrev pub invariant-loop-user : goal.invariant-loop-user
invariant-loop-user l =
    contains_text (names_of (map policy_user_of (drop l.user-index l.users))) l.name ≡ contains_text (names_of (map policy_user_of l.users)) l.name
