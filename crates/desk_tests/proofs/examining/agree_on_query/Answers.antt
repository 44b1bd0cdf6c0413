use Rattle.cqe_base.specs.History.{profile_of}
use Rattle.desk_tests.proofs.examining.agree_on_query.Goals as goal

pub new-requires : goal.new-requires
new-requires g c = c.law_limits.ensures.probes c.args.clinic.now.schema (profile_of c.args.user.now) c.requires.limits
