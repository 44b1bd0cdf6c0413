-- Replies that a desk gives without a write.
use Rattle.user_log.specs.declared.reply.Reply.{Reply}
use Rattle.user_log.specs.declared.reply.Reply.TheVariants.{Mark, Broken}

-- a reply that is no mark, and doesn't say that an append failed
abbrev pub HasNoWrite : Reply → Type 0
HasNoWrite (Mark mark) = ⊥
HasNoWrite Broken = ⊥
HasNoWrite _ = Unit {0}
