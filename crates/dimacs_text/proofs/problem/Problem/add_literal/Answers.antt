use Rattle.std.proofs.Common.{rules, ◌≡◌, ◌<◌, false, sym, subst}
use Rattle.cqe_base.specs.Literal.{variable_of, has_literal}
use Rattle.dimacs_text.specs.Dimacs.{Problem}
use Rattle.dimacs_text.specs.Sound.{variables_in}
use Rattle.dimacs_text.specs.Inside.{problem_inside}
use Rattle.dimacs_text.proofs.Additions.{literal_added}
use Rattle.dimacs_text.proofs.problem.Problem.add_literal.Goals as goal

pub invariant_of-self : goal.invariant_of-self
invariant_of-self c =
    let p = problem_inside c.self.inside in
    let below : variable_of c.args.literal < variables_in p.header =
    subst (λ (q : Problem). variable_of c.args.literal < variables_in q.header) (sym c.self.view_is) c.requires in
    let fresh : has_literal p.unfinished c.args.literal ≡ false = search rules in
    literal_added p c.args.literal c.push.new.self.items c.self.invariant below fresh c.in_ok-push.ensures.items
