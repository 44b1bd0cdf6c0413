use Rattle.std.proofs.Common.{map, ap}
use Rattle.cqe_base.specs.History.{profile_of}
use Rattle.audit_text.specs.Rows.{secret_in}
use Rattle.audit_print.specs.Found.{found_at}
use Rattle.audit_print.proofs.Listing.{lists_more, lists_none}
use Rattle.audit_print.proofs.report.secret_rows.Goals as goal

pub loop-number-init : goal.loop-number-init
loop-number-init c =
    lists_none c.args.schema.now (profile_of c.args.user.now) (found_at c.args.user.now.method c.args.worlds.now) _
    (ap (map secret_in) c.new-rows.ensures.items)

pub loop-number-preserved : goal.loop-number-preserved
loop-number-preserved c =
    lists_more c.args.schema.now (profile_of c.args.user.now)
    (found_at c.args.user.now.method c.args.worlds.now) c.loop-number.number _ secret_in c.loop-number.rows.items c.in_ok-secret_row.field-0
    c.loop-number.invariant c.in_ok-secret_row.ensures (ap (map secret_in) c.in_ok-push.ensures.items)
