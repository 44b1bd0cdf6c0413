use Rattle.std.proofs.Common.{◌∙◌, sym, ap, List, ◌++◌}
use Rattle.std.proofs.lemmas.List.{append-nil}
use Rattle.workload.specs.Draws.{state_of}
use Rattle.workload.specs.declared.statement.Statement.{Statement}
use Rattle.workload.specs.declared.statement.Statement.TheVariants.{Drug, Has}
use Rattle.workload.proofs.Drawing.{no_treatment, treatment_drawn, treatments_added}
use Rattle.workload.proofs.statement.draw_treatments.Goals as goal

pub loop-number-init : goal.loop-number-init
loop-number-init c = λ seed at.
    let before = c.args.before.items in
    (sym (ap (λ (l : List Statement). before ++ l) (no_treatment seed) ∙ append-nil before), at)

pub loop-number-preserved : goal.loop-number-preserved
loop-number-preserved c = λ seed at.
    let so_far = c.loop-number.invariant seed at in
    let n = c.loop-number._number in
    let person = c.draw-person.result in
    let more = treatment_drawn seed n (state_of c.loop-number.draws) person
    (state_of c.draw-person.new.self) so_far.1 c.draw-person.ensures.number c.draw-person.ensures.state in (
      treatments_added seed n c.args.before.items c.loop-number.all.items c.push.new.self.items c.push-in-loop-number.new.self.items (Drug person)
          (Has person 0)
          so_far.0 c.in_ok-push.ensures.items c.in_ok-push-2.ensures.items more.is,
      more.now,
    )
