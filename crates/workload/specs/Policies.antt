-- The policy of a workload.
use Rattle.std.specs.Prelude.{ℕ, ◌+◌, ◌*◌, ◌%◌, ◌==◌, [], ◌∷◌, ◌++◌, map, None, codes, decimal}
use Rattle.std.specs.Prelude.{if◌then◌else◌}
use Rattle.std.specs.List.{range_with_len}
use Rattle.cqe_base.specs.declared.user.Method.{Method}
use Rattle.cqe_base.specs.declared.user.Method.TheVariants.{Lying, Refusal, Combined}
use Rattle.cqe_base.specs.declared.sentence.Term.TheVariants as terms
use Rattle.cqe_base.specs.Formula.{Formula, atom, implication, universal}
use Rattle.cqe_base.specs.Schema.{Text}
use Rattle.policy_files.specs.Policies.{PolicyUser, PolicyValue}
use Rattle.workload.specs.Draws.{drawn}
use Rattle.workload.specs.Stated.{workload_schema}

-- the name of the user of a number
abbrev pub user_name : ℕ → Text
user_name number = codes "u" ++ decimal number

-- the users have the three methods in turn
abbrev pub method_at : ℕ → Method
method_at number = if number % 3 == 0 then Lying else if number % 3 == 1 then Refusal else Combined

-- each knows that who takes the drug has the first disease
abbrev pub drug_means_illness : Formula
drug_means_illness =
    universal 1 (implication (atom 0 (terms.Place 0 ∷ []))
    (atom 1 (terms.Place 0 ∷ terms.Constant (record { domain = 0; index = 0 }) ∷ [])))

-- a person has the first disease
abbrev pub has_first_illness : ℕ → Formula
has_first_illness person =
    atom 1 (terms.Constant (record { domain = 1; index = person })
    ∷ terms.Constant (record { domain = 0; index = 0 }) ∷ [])

-- the person of a secret of a user: they are drawn behind the facts, three for each user
abbrev pub secret_person : ℕ → ℕ → ℕ → ℕ
secret_person seed number secret = drawn seed (620 + 3 * number + secret) 40

-- the user of a number: his secrets are that three persons have the first disease
abbrev pub workload_user : ℕ → ℕ → PolicyUser
workload_user seed number = record {
  name = user_name number;
  profile = record {
    method = method_at number;
    know = drug_means_illness ∷ [];
    secrets = map (λ secret. has_first_illness (secret_person seed number secret)) (0 ∷ 1 ∷ 2 ∷ []);
    pairs = 0;
    budget = 1000000;
  };
  token = None;
}

-- the policy of a seed with so many users
abbrev pub workload_policy : ℕ → ℕ → PolicyValue
workload_policy seed users =
    record { schema = workload_schema; users = map (workload_user seed) (range_with_len 0 users) }
