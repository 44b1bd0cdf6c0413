use Rattle.cqe_base.specs.History.{profile_of}
use Rattle.user_log.proofs.examiner.Examiner.new.Goals as goal

pub new-requires : goal.new-requires
new-requires c = c.law_limits.ensures.probes c.args.schema.now (profile_of c.args.user.now) c.requires

pub invariant_of-result : goal.invariant_of-result
invariant_of-result c = record {
  limits = c.requires;
  guarding = record { schema_is = c.in_ok-guards.ensures.schema; guarded_are = c.in_ok-guards.ensures.guarded };
}
