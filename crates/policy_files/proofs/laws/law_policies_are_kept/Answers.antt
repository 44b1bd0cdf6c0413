use Rattle.policy_files.proofs.PoliciesKept.{policies_kept}
use Rattle.policy_files.proofs.laws.law_policies_are_kept.Goals as goal

pub returns : goal.returns
returns c =
    policies_kept c.law_accepted_valid.ensures
    (record { sentences = c.law_reading.ensures.of_schema; pairs = c.law_pairs.ensures.made; pass = c.law_secrets_made.ensures.pass })
