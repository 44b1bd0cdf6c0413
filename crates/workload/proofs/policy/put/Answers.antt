use Rattle.std.proofs.Common.{◌∙◌, ap}
use Rattle.toml.specs.View.{view, members_view, table_view}
use Rattle.workload.specs.Trees.{insert_member}
use Rattle.workload.proofs.Trees.{inserted}
use Rattle.workload.proofs.policy.put.Goals as goal

pub returns : goal.returns
returns c =
    ap members_view c.in_ok-_before.ensures.entries ∙ inserted c.args.table.now.entries c.in_ok-from_str.field-0 c.args.value
    ∙ ap (λ key. insert_member key (view c.args.value) (table_view c.args.table.now)) c.in_ok-from_str.ensures.ok
