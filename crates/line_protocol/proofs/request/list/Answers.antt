use Rattle.std.proofs.Common.{sym, ◌∙◌}
use Rattle.line_protocol.proofs.RequestCases.{list_counted, no_list}
use Rattle.line_protocol.proofs.request.list.Goals as goal

pub returns-in-Some : goal.returns-in-Some
returns-in-Some c =
    c.counted.ensures
    ∙ list_counted c.args.text.now c.printable_text-count.result.now c.printable_text-text.result.now
    (sym c.in-Some.ensures.blank)
    (c.printable_text-count.ensures ∙ c.in-Some.ensures.front)
    (c.printable_text-text.ensures ∙ c.in-Some.ensures.rest)

pub returns-in-None : goal.returns-in-None
returns-in-None c = no_list c.args.text.now (sym c.in-None.ensures.blank)
