use Rattle.std.proofs.Common.{sym, ap, ◌∙◌}
use Rattle.line_protocol.specs.Requests.{lone}
use Rattle.line_protocol.proofs.RequestCases.{unprintable, word_and_text, word_alone}
use Rattle.line_protocol.proofs.request.read_request.Goals as goal

pub returns-then-not-are_printable : goal.returns-then-not-are_printable
returns-then-not-are_printable c = unprintable c.args.line.now (sym c.if-not-are_printable.ensures)

pub returns-in-Some : goal.returns-in-Some
returns-in-Some c =
    c.worded.ensures
    ∙ word_and_text c.args.line.now c.printable_text.result.now c.in-Some.text.now
    (sym c.are_printable.ensures ∙ c.if-not-are_printable.false)
    (sym c.in-Some.ensures.blank)
    (c.printable_text.ensures ∙ c.in-Some.ensures.front)
    c.in-Some.ensures.rest

pub returns-in-None : goal.returns-in-None
returns-in-None c =
    c.lone.ensures
    ∙ ap lone c.printable_text-in-None.ensures
    ∙ word_alone c.args.line.now (sym c.are_printable.ensures ∙ c.if-not-are_printable.false) (sym c.in-None.ensures.blank)
