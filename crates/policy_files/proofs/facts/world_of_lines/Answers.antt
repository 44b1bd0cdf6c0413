use Rattle.std.proofs.Common.{◌≡◌, length, sym, ap, ◌∙◌, arith}
use Rattle.std.specs.Prelude.{List}
use Rattle.std.proofs.lemmas.Bool.Decides.{nat_tests}
use Rattle.cqe_base.specs.Lines.{TextLine}
use Rattle.policy_files.specs.Facts.{with_lines}
use Rattle.policy_files.proofs.LinesSplit.{none_left}
use Rattle.policy_files.proofs.facts.world_of_lines.Goals as goal

pub returns-clause-read : goal.returns-clause-read
returns-clause-read c =
    let empty : length c.loop-left.left.now ≡ 0 = grind (arith, nat_tests) in
    sym c.loop-left.invariant
    ∙ ap (λ (lines : List TextLine). with_lines c.args.schema.now c.loop-left.number c.loop-left.world lines) (none_left c.loop-left.left.now empty)
