-- The text behind the name and the session of a line.
use Rattle.std.specs.Prelude.{Option, Some, None, codes}
use Rattle.cqe_base.specs.Schema.{Text}
use Rattle.cqe_base.specs.Run.{Reply}
use Rattle.cqe_base.specs.Transcript.{reply_text}

-- the text of a reply, or that no user has the name
abbrev pub answer_text : Option Reply → Text
answer_text (Some reply) = reply_text reply
answer_text None = codes "error 23"
