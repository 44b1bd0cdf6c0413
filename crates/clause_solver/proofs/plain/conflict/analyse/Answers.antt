use Rattle.std.proofs.Common.{◌≡◌, ◌<◌, length, reverse, ap, ◌∙◌, subst}
use Rattle.cqe_base.specs.Machine.{current_count, resolved_with, latest_against}
use Rattle.clause_store.specs.PlainLines.{line_of}
use Rattle.clause_solver.proofs.Trails.{analysis_more}
use Rattle.clause_solver.proofs.plain.conflict.analyse.Goals as goal

pub loop-times-preserved : goal.loop-times-preserved
loop-times-preserved c =
    let trail = reverse c.args.trail.now in
    let line = line_of c.loop-times.line in
    let counted : c.current_count.result ≡ current_count trail line.clause = c.current_count.ensures ∙ ap (current_count trail) c.deref.ensures.value in
    let more : c.args.keep < current_count trail line.clause = subst (λ n. c.args.keep < n) counted c.if-current_count-keep.false in
    let latest : c.latest_against-latest.result ≡ latest_against trail line.clause =
    c.latest_against-latest.ensures ∙ ap (latest_against trail) c.deref-in-loop-times.ensures.value in
    analysis_more c.args.clauses.now trail c.args.keep (length c.args.trail.now) c.loop-times.times line _ c.loop-times-test.true more
    (c.in_ok-resolve_with.ensures ∙ ap (λ o. resolved_with c.args.clauses.now o line) latest)
    ∙ c.loop-times.invariant
