use Rattle.std.proofs.Common.{sym, ap, ◌∙◌, ◌++◌, arith}
use Rattle.std.specs.Prelude.{codes}
use Rattle.cqe_base.specs.Transcript.{reply_text}
use Rattle.user_log.specs.Replies.{reply_of}
use Rattle.user_log.proofs.TwoDigits.{two_digits}
use Rattle.user_log.proofs.reply.line_reply.Goals as goal

pub returns-in-Size : goal.returns-in-Size
returns-in-Size c = ap (λ digits. codes "error " ++ digits) (two_digits 21 (omega arith) (omega arith)) ∙ sym (ap (λ r. reply_text (reply_of r)) c.in-Size.is)

pub returns-in-Full : goal.returns-in-Full
returns-in-Full c = ap (λ digits. codes "error " ++ digits) (two_digits 22 (omega arith) (omega arith)) ∙ sym (ap (λ r. reply_text (reply_of r)) c.in-Full.is)

pub returns-in-Closed : goal.returns-in-Closed
returns-in-Closed c =
    ap (λ digits. codes "error " ++ digits) (two_digits 24 (omega arith) (omega arith)) ∙ sym (ap (λ r. reply_text (reply_of r)) c.in-Closed.is)

pub returns-in-Broken : goal.returns-in-Broken
returns-in-Broken c =
    ap (λ digits. codes "error " ++ digits) (two_digits 40 (omega arith) (omega arith)) ∙ sym (ap (λ r. reply_text (reply_of r)) c.in-Broken.is)

pub returns-in-Sealed : goal.returns-in-Sealed
returns-in-Sealed c =
    ap (λ digits. codes "error " ++ digits) (two_digits 41 (omega arith) (omega arith)) ∙ sym (ap (λ r. reply_text (reply_of r)) c.in-Sealed.is)

pub returns-in-Memory : goal.returns-in-Memory
returns-in-Memory c =
    ap (λ digits. codes "error " ++ digits) (two_digits 50 (omega arith) (omega arith)) ∙ sym (ap (λ r. reply_text (reply_of r)) c.in-Memory.is)

pub returns-in-Secrets : goal.returns-in-Secrets
returns-in-Secrets c =
    ap (λ digits. codes "error " ++ digits) (two_digits 27 (omega arith) (omega arith)) ∙ sym (ap (λ r. reply_text (reply_of r)) c.in-Secrets.is)
