use Rattle.censors.proofs.Gathering.{examined_alike}
use Rattle.desk_tests.proofs.examining.found_plainly.Goals as goal

pub examine-requires-clause-fits : goal.examine-requires-clause-fits
examine-requires-clause-fits c =
    (examined_alike c.args.guards.now c.args.user.now c.args.query.now c.args.views.now c.in_ok-view.view
    (c.in_ok-view.ensures.schema, c.in_ok-view.ensures.log) c.requires).fits

pub examine-requires-clause-guards_schema : goal.examine-requires-clause-guards_schema
examine-requires-clause-guards_schema c =
    (examined_alike c.args.guards.now c.args.user.now c.args.query.now c.args.views.now c.in_ok-view.view
    (c.in_ok-view.ensures.schema, c.in_ok-view.ensures.log) c.requires).guards_schema

pub examine-requires-clause-guarded : goal.examine-requires-clause-guarded
examine-requires-clause-guarded c =
    (examined_alike c.args.guards.now c.args.user.now c.args.query.now c.args.views.now c.in_ok-view.view
    (c.in_ok-view.ensures.schema, c.in_ok-view.ensures.log) c.requires).guarded_are

pub examine-requires-clause-sentence : goal.examine-requires-clause-sentence
examine-requires-clause-sentence c =
    (examined_alike c.args.guards.now c.args.user.now c.args.query.now c.args.views.now c.in_ok-view.view
    (c.in_ok-view.ensures.schema, c.in_ok-view.ensures.log) c.requires).sentence

pub examine-requires-clause-grounded : goal.examine-requires-clause-grounded
examine-requires-clause-grounded c =
    (examined_alike c.args.guards.now c.args.user.now c.args.query.now c.args.views.now c.in_ok-view.view
    (c.in_ok-view.ensures.schema, c.in_ok-view.ensures.log) c.requires).grounded

pub examine-requires-clause-all_nodes : goal.examine-requires-clause-all_nodes
examine-requires-clause-all_nodes c =
    (examined_alike c.args.guards.now c.args.user.now c.args.query.now c.args.views.now c.in_ok-view.view
    (c.in_ok-view.ensures.schema, c.in_ok-view.ensures.log) c.requires).all_nodes
