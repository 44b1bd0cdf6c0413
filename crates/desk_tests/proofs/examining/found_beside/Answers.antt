use Rattle.censors.proofs.Gathering.{examined_alike}
use Rattle.desk_tests.proofs.examining.found_beside.Goals as goal

pub examine_beside-requires-clause-fits : goal.examine_beside-requires-clause-fits
examine_beside-requires-clause-fits g c κs within =
    (examined_alike c.args.guards.now c.args.user.now c.args.query.now c.args.views.now c.in_ok-lent.lent
    (c.in_ok-lent.ensures.schema, c.in_ok-lent.ensures.log) c.requires).fits

pub examine_beside-requires-clause-guards_schema : goal.examine_beside-requires-clause-guards_schema
examine_beside-requires-clause-guards_schema g c κs within =
    (examined_alike c.args.guards.now c.args.user.now c.args.query.now c.args.views.now c.in_ok-lent.lent
    (c.in_ok-lent.ensures.schema, c.in_ok-lent.ensures.log) c.requires).guards_schema

pub examine_beside-requires-clause-guarded : goal.examine_beside-requires-clause-guarded
examine_beside-requires-clause-guarded g c κs within =
    (examined_alike c.args.guards.now c.args.user.now c.args.query.now c.args.views.now c.in_ok-lent.lent
    (c.in_ok-lent.ensures.schema, c.in_ok-lent.ensures.log) c.requires).guarded_are

pub examine_beside-requires-clause-sentence : goal.examine_beside-requires-clause-sentence
examine_beside-requires-clause-sentence g c κs within =
    (examined_alike c.args.guards.now c.args.user.now c.args.query.now c.args.views.now c.in_ok-lent.lent
    (c.in_ok-lent.ensures.schema, c.in_ok-lent.ensures.log) c.requires).sentence

pub examine_beside-requires-clause-grounded : goal.examine_beside-requires-clause-grounded
examine_beside-requires-clause-grounded g c κs within =
    (examined_alike c.args.guards.now c.args.user.now c.args.query.now c.args.views.now c.in_ok-lent.lent
    (c.in_ok-lent.ensures.schema, c.in_ok-lent.ensures.log) c.requires).grounded

pub examine_beside-requires-clause-all_nodes : goal.examine_beside-requires-clause-all_nodes
examine_beside-requires-clause-all_nodes g c κs within =
    (examined_alike c.args.guards.now c.args.user.now c.args.query.now c.args.views.now c.in_ok-lent.lent
    (c.in_ok-lent.ensures.schema, c.in_ok-lent.ensures.log) c.requires).all_nodes
