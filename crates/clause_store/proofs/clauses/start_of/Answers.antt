use Rattle.std.proofs.Common.{◌≡◌, suc, ◌-◌, ap, ◌∙◌, arith}
use Rattle.clause_store.specs.Ends.{start_of}
use Rattle.clause_store.proofs.Parts.{start_is_end}
use Rattle.clause_store.proofs.clauses.start_of.Goals as goal

pub returns-else-number-eq0 : goal.returns-else-number-eq0
returns-else-number-eq0 c =
    let back : suc (c.args.number - 1) ≡ c.args.number = omega arith in
    start_is_end 0 c.args.ends.now (c.args.number - 1) (omega arith) ∙ ap (start_of 0 c.args.ends.now) back
