use Rattle.std.proofs.Common.{true, sym, ap, arith}
use Rattle.std.specs.Prelude.{Some}
use Rattle.std.proofs.lemmas.Bool.Decides.{nat_tests}
use Rattle.std.proofs.lemmas.List.{nil_from_length}
use Rattle.dossier.specs.Words.{line_by}
use Rattle.dossier.proofs.Spelling.{chain-some}
use Rattle.dossier.proofs.words.line_with.Goals as goal

-- no number
pub returns-then-is_empty : goal.returns-then-is_empty
returns-then-is_empty c =
    sym (ap (λ chain. line_by true (Some c.args.clause.items) (Some chain))
    (nil_from_length c.args.chain.items (grind (arith, nat_tests, c.args.chain.ok.0))))

-- some number
pub returns-else-is_empty : goal.returns-else-is_empty
returns-else-is_empty c = sym (chain-some c.args.clause.items c.args.chain.items (grind (arith, nat_tests, c.args.chain.ok.0)))
