-- Replies in memory.
use Rattle.cqe_base.specs.Run
use Rattle.cqe_base.specs.Run.{marked, no_sentence, history_full, too_large, user_closed}
use Rattle.cqe_base.specs.Run.{desk_sealed, desk_broken, no_memory, secrets_full, unsafe_secret}
use Rattle.user_log.specs.declared.reply.Reply.{Reply}
use Rattle.user_log.specs.declared.reply.Reply.TheVariants.{Mark, Syntax, Full, Size, Closed}
use Rattle.user_log.specs.declared.reply.Reply.TheVariants.{Sealed, Broken, Memory, Secrets, Unsafe}

-- the reply that a Reply in memory is
abbrev pub reply_of : Reply → Run.Reply
reply_of (Mark mark) = marked mark
reply_of (Syntax refusal) = no_sentence refusal.kind refusal.place
reply_of Full = history_full
reply_of Size = too_large
reply_of Closed = user_closed
reply_of Sealed = desk_sealed
reply_of Broken = desk_broken
reply_of Memory = no_memory
reply_of Secrets = secrets_full
reply_of Unsafe = unsafe_secret
