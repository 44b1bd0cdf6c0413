use Rattle.std.proofs.Common.{◌++◌, length, sym, ap, ◌∙◌, arith}
use Rattle.std.specs.Prelude.{decimal}
use Rattle.cqe_base.specs.Transcript.{caller_text}
use Rattle.batch_engine.specs.Callers.{caller_in}
use Rattle.batch_engine.proofs.Shorts.{digits_of}
use Rattle.batch_engine.proofs.answer.caller_text.Goals as goal

pub push_decimal-requires : goal.push_decimal-requires
push_decimal-requires c =
    let few = digits_of c.args.caller c.in-Session.number c.in-Session.is c.requires in
    omega (arith, few, ap (λ n. length (decimal n)) c.from.ensures, ap length c.new-text.ensures)

pub returns-in-Session-clause-text : goal.returns-in-Session-clause-text
returns-in-Session-clause-text c =
    c.push_decimal.ensures ∙ ap (λ l. l ++ decimal c.from.result) c.new-text.ensures ∙ ap decimal c.from.ensures
    ∙ ap (λ who. caller_text (caller_in who)) (sym c.in-Session.is)

pub returns-in-Session-clause-short : goal.returns-in-Session-clause-short
returns-in-Session-clause-short c =
    let few = digits_of c.args.caller c.in-Session.number c.in-Session.is c.requires in
    let same = ap length (c.push_decimal.ensures ∙ ap (λ l. l ++ decimal c.from.result) c.new-text.ensures ∙ ap decimal c.from.ensures) in
    omega (arith, few, same)
