use Rattle.std.proofs.Common.{◌≡◌, ◌<◌, length, sym, arith, []}
use Rattle.std.proofs.lemmas.Bool.Decides.{nat_tests}
use Rattle.cqe_base.specs.Tokens.{tokens_from}
use Rattle.sentence_text.proofs.Cut.{refusal_at_empty, refusal_at_bad}
use Rattle.sentence_text.proofs.lexer.TokenIter.refusal.Goals as goal

pub returns-then-is_empty : goal.returns-then-is_empty
returns-then-is_empty c =
    let empty : length c.self.inside.rest.now ≡ 0 = grind (arith, nat_tests) in
    rw (← c.self.view_is) (sym (refusal_at_empty c.self.inside.place c.self.inside.rest.now empty))

pub returns-else-is_empty : goal.returns-else-is_empty
returns-else-is_empty c =
    let some : 0 < length c.self.inside.rest.now = grind (arith, nat_tests) in
    let none : tokens_from c.self.inside.place 0 c.self.inside.rest.now ≡ [] = rw (← c.self.view_is) at c.requires in
    rw (← c.self.view_is) (sym (refusal_at_bad c.self.inside.place c.self.inside.rest.now some none c.self.invariant.1))
