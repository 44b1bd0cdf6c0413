-- Who makes a call, in memory.
use Rattle.std.specs.Prelude.{Bool, true, nat_le}
use Rattle.cqe_base.specs.Transcript
use Rattle.cqe_base.specs.Transcript.{by_session, by_operator}
use Rattle.batch_engine.specs.declared.line.Caller.{Caller}
use Rattle.batch_engine.specs.declared.line.Caller.TheVariants.{Session, Operator}

-- who it is
abbrev pub caller_in : Caller → Transcript.Caller
caller_in (Session number) = by_session number
caller_in Operator = by_operator

-- whether it is an operator, or a session of a number up to 64
abbrev pub is_short_caller : Transcript.Caller → Bool
is_short_caller (by_session number) = nat_le number 64
is_short_caller by_operator = true
