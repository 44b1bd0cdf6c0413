use Rattle.std.proofs.Common.{◌≡◌, length, take, ap, ◌∙◌, sym, arith}
use Rattle.std.specs.Prelude.{Some}
use Rattle.std.proofs.lemmas.List.{take_all}
use Rattle.line_protocol.proofs.Returns.{without_last, without_none}
use Rattle.line_protocol.proofs.lines.content_length.Goals as goal

pub returns-then-last-eq13-clause-content : goal.returns-then-last-eq13-clause-content
returns-then-last-eq13-clause-content c =
    sym (without_last c.args.bytes.now (sym c.in-Some.ensures.value ∙ ap (λ n. Some n) c.if-last-eq13.true))

pub returns-else-last-eq13-clause-content : goal.returns-else-last-eq13-clause-content
returns-else-last-eq13-clause-content c =
    let all : take (length c.args.bytes.now) c.args.bytes.now ≡ c.args.bytes.now = take_all (length c.args.bytes.now) c.args.bytes.now (omega arith) in
    all ∙ sym (without_none c.args.bytes.now (λ is.
    let last : Some c.in-Some.last.now ≡ Some 13 = c.in-Some.ensures.value ∙ is in
    let same : c.in-Some.last.now ≡ 13 = cc in
    c.if-last-eq13.false same))
