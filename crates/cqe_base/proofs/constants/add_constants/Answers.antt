use Rattle.std.proofs.Common.{arith}
use Rattle.std.specs.HashMap.{get_by_text}
use Rattle.cqe_base.proofs.ByName.{all_added}
use Rattle.cqe_base.proofs.constants.add_constants.Goals as goal

pub returns : goal.returns
returns c = all_added (get_by_text c.loop-place.by_name) (get_by_text c.args.by_name.now) c.args.domain c.loop-place.place c.args.names.now
    (omega (arith, c.loop-place-test.false)) c.loop-place.invariant
