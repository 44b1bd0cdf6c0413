use Rattle.std.proofs.Common.{refl}
use Rattle.cqe_base.specs.declared.user.Purpose.TheVariants.{Asking, Protecting}
use Rattle.user_log.specs.Replies.{reply_of}
use Rattle.desk_crew.proofs.Asking.{told_of}
use Rattle.desk_crew.proofs.seat.call_at.Goals as goal

pub returns-in-Asking : goal.returns-in-Asking
returns-in-Asking g c =
    told_of c.args.seat.now _ c.args.purpose Asking c.args.text.now (reply_of c.ask.result) c.in-Asking.is refl refl refl refl c.ask.ensures.kept
    c.requires.user c.ask.ensures.settled

pub returns-in-Protecting : goal.returns-in-Protecting
returns-in-Protecting g c =
    told_of c.args.seat.now _ c.args.purpose Protecting c.args.text.now (reply_of c.protect.result) c.in-Protecting.is refl refl refl refl
    c.protect.ensures.kept c.requires.user c.protect.ensures.settled
