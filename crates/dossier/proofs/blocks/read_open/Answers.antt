use Rattle.std.proofs.Common.{◌≡◌, Some, None, Ok, Err, map, sym, ap, ◌∙◌}
use Rattle.std.specs.Prelude.{if◌then◌else◌}
use Rattle.std.proofs.lemmas.Result.{err_from_is_err_and}
use Rattle.cqe_base.specs.History.{profile_of, answered_query_of, log}
use Rattle.dossier.specs.Words.{listed_world, facts_listed}
use Rattle.dossier.specs.Checked.{is_countermodel}
use Rattle.dossier.specs.Blocks.{probe_over, open_answer}
use Rattle.dossier.specs.declared.error.DossierError.TheVariants as refused
use Rattle.dossier.proofs.blocks.read_open.Goals as goal
use Rattle.dossier.proofs.blocks.read_open.Goals.{After-is_countermodel}

-- what the facts that are listed show
shown : (c : After-is_countermodel)
    → (if c.is_countermodel.result then Ok tt else Err (refused.Verdict c.args.field.now.line))
    ≡ open_answer c.args.told.schema.now c.args.field.now.line
    (probe_over (log (profile_of c.args.told.user.now) (map answered_query_of c.args.told.entries.now)) c.args.probe.now)
    (facts_listed c.args.told.schema.now c.args.field.now.rest.now)
shown c =
    let schema = c.args.told.schema.now in
    let line = c.args.field.now.line in
    let probe = probe_over (log (profile_of c.args.told.user.now) (map answered_query_of c.args.told.entries.now)) c.args.probe.now in
    let listed : Some c.in-Some.facts.items ≡ facts_listed schema c.args.field.now.rest.now = rw c.in-Some.is at c.in_ok-facts.ensures in
    let world : c.in_ok-world.world ≡ listed_world c.in-Some.facts.items = c.in_ok-world.ensures ∙ ap listed_world c.deref.ensures.value in
    ap (λ b. if b then Ok tt else Err (refused.Verdict line)) (c.is_countermodel.ensures ∙ ap (is_countermodel schema probe) world)
    ∙ ap (open_answer schema line probe) listed

-- no world is listed
pub returns-in_default : goal.returns-in_default
returns-in_default c = λ isnt.
    let schema = c.args.told.schema.now in
    let probe = probe_over (log (profile_of c.args.told.user.now) (map answered_query_of c.args.told.entries.now)) c.args.probe.now in
    let none : None ≡ facts_listed schema c.args.field.now.rest.now = rw c.in_default.is at c.in_ok-facts.ensures in
    ap (open_answer schema c.args.field.now.line probe) none

pub returns-then-is_countermodel : goal.returns-then-is_countermodel
returns-then-is_countermodel c = λ isnt.
    ap (λ b. if b then Ok tt else Err (refused.Verdict c.args.field.now.line)) (sym c.if-is_countermodel.true)
    ∙ shown (goal.at.returns-then-is_countermodel c).After-is_countermodel

pub returns : goal.returns
returns c = λ isnt.
    ap (λ b. if b then Ok tt else Err (refused.Verdict c.args.field.now.line)) (sym c.if-is_countermodel.false)
    ∙ shown (goal.at.returns c).After-is_countermodel

-- ---- want of memory says nothing

pub returns-in_err-facts : goal.returns-in_err-facts
returns-in_err-facts c = λ isnt.
    let p = err_from_is_err_and c.from_residual.result c.from_residual.ensures.1 in
    absurd (isnt (p.1 ∙ ap Err p.2))

pub returns-in_err-world : goal.returns-in_err-world
returns-in_err-world c = λ isnt.
    let p = err_from_is_err_and c.from_residual-in_err-world.result c.from_residual-in_err-world.ensures.1 in
    absurd (isnt (p.1 ∙ ap Err p.2))
