use Rattle.std.proofs.Common.{subst}
use Rattle.censors.specs.Lent.{held_views, held_view, AreTogether}
use Rattle.censors.specs.Parts.{CanBeExamined}
use Rattle.censors.specs.declared.lent.Held.{Held}
use Rattle.censors.proofs.beside.examine_held.Goals as goal

pub examine-requires-clause-fits : goal.examine-requires-clause-fits
examine-requires-clause-fits g c =
    (subst (λ (h : Held). CanBeExamined c.args.guards.now c.args.user.now c.args.query.now (held_view h)) c.in-One.is c.requires.can).fits

pub examine-requires-clause-guards_schema : goal.examine-requires-clause-guards_schema
examine-requires-clause-guards_schema g c =
    (subst (λ (h : Held). CanBeExamined c.args.guards.now c.args.user.now c.args.query.now (held_view h)) c.in-One.is c.requires.can).guards_schema

pub examine-requires-clause-guarded : goal.examine-requires-clause-guarded
examine-requires-clause-guarded g c =
    (subst (λ (h : Held). CanBeExamined c.args.guards.now c.args.user.now c.args.query.now (held_view h)) c.in-One.is c.requires.can).guarded_are

pub examine-requires-clause-sentence : goal.examine-requires-clause-sentence
examine-requires-clause-sentence g c =
    (subst (λ (h : Held). CanBeExamined c.args.guards.now c.args.user.now c.args.query.now (held_view h)) c.in-One.is c.requires.can).sentence

pub examine-requires-clause-grounded : goal.examine-requires-clause-grounded
examine-requires-clause-grounded g c =
    (subst (λ (h : Held). CanBeExamined c.args.guards.now c.args.user.now c.args.query.now (held_view h)) c.in-One.is c.requires.can).grounded

pub examine-requires-clause-all_nodes : goal.examine-requires-clause-all_nodes
examine-requires-clause-all_nodes g c =
    (subst (λ (h : Held). CanBeExamined c.args.guards.now c.args.user.now c.args.query.now (held_view h)) c.in-One.is c.requires.can).all_nodes

pub examine_in_lanes-requires-clause-together : goal.examine_in_lanes-requires-clause-together
examine_in_lanes-requires-clause-together g c κs within = subst (λ (h : Held). AreTogether (held_views h)) c.in-Several.is c.requires.together

pub examine_in_lanes-requires-clause-can : goal.examine_in_lanes-requires-clause-can
examine_in_lanes-requires-clause-can g c κs within =
    subst (λ (h : Held). CanBeExamined c.args.guards.now c.args.user.now c.args.query.now (held_view h)) c.in-Several.is c.requires.can
