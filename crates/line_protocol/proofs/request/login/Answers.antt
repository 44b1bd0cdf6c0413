use Rattle.std.proofs.Common.{sym, ◌∙◌}
use Rattle.line_protocol.proofs.RequestCases.{login_holds, login_fails, no_login}
use Rattle.line_protocol.proofs.request.login.Goals as goal

pub returns-in_default : goal.returns-in_default
returns-in_default c = no_login c.args.text.now (sym c.in_default.ensures.blank)

pub returns-then-is_login : goal.returns-then-is_login
returns-then-is_login c =
    login_holds c.args.text.now c.printable_text-user.result.now c.printable_text-phrase.result.now
    (c.printable_text-user.ensures ∙ c.in-Some.ensures.front)
    (c.printable_text-phrase.ensures ∙ c.in-Some.ensures.rest)
    (sym c.is_login.ensures ∙ c.if-is_login.true)

pub returns-else-is_login : goal.returns-else-is_login
returns-else-is_login c =
    login_fails c.args.text.now c.printable_text-user.result.now c.printable_text-phrase.result.now
    (c.printable_text-user.ensures ∙ c.in-Some.ensures.front)
    (c.printable_text-phrase.ensures ∙ c.in-Some.ensures.rest)
    (sym c.is_login.ensures ∙ c.if-is_login.false)
