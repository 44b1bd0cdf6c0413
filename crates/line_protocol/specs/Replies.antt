-- The texts of replies.
use Rattle.std.specs.Prelude.{◌++◌, codes, decimal}
use Rattle.cqe_base.specs.Schema.{Text}
use Rattle.cqe_base.specs.Transcript.{mark_text}
use Rattle.line_protocol.specs.declared.reply.Reply.{Reply}
use Rattle.line_protocol.specs.declared.reply.Reply.TheVariants.{Mark, Syntax, Code, Unsafe}
use Rattle.line_protocol.specs.declared.reply.Reply.TheVariants.{Shape, Done}
use Rattle.line_protocol.specs.declared.reply.Reply.TheVariants.{Welcome, Bye}

-- the text of a reply
abbrev pub text_of : Reply → Text
text_of (Mark mark) = mark_text mark
text_of (Syntax kind place) = codes "error 20 " ++ decimal kind ++ codes " " ++ decimal place
text_of (Code code) = codes "error " ++ decimal code
text_of Unsafe = codes "unsafe"
text_of (Shape number) = codes "error 28 " ++ decimal number
text_of (Done count) = codes "done " ++ decimal count
text_of Welcome = codes "welcome"
text_of Bye = codes "bye"

-- its line: the text with a line feed
abbrev pub line_of : Reply → Text
line_of reply = text_of reply ++ codes "\n"

-- a name in front of a reply: with one blank behind it
abbrev pub spaced : Text → Text
spaced name = name ++ codes " "
