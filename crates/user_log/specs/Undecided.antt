-- Marks that are undecided.
use Rattle.std.specs.Prelude.{◌≡◌, ◌↔◌, Ok}
use Rattle.cqe_base.specs.declared.user.Mark.{Mark}
use Rattle.cqe_base.specs.declared.user.Mark.TheVariants.{Undecided}
use Rattle.cqe_base.specs.declared.user.Purpose.{Purpose}
use Rattle.cqe_base.specs.declared.user.Purpose.TheVariants.{Asking, Protecting}
use Rattle.cqe_base.specs.Schema.{DatabaseSchema, Text}
use Rattle.cqe_base.specs.Formula.{Formula, formula_of}
use Rattle.cqe_base.specs.Reading.{reading}
use Rattle.cqe_base.specs.History.{UserProfile, History, user_at, log}
use Rattle.censors.specs.Costs.{QueryCostsMore}
use Rattle.user_log.specs.declared.reply.Reply.{Reply}
use Rattle.user_log.specs.declared.reply.Reply.TheVariants as reply
use Rattle.user_log.specs.declared.reply.Weighed.{Weighed}
use Rattle.user_log.specs.declared.reply.Weighed.TheVariants.{Code, Answer}

-- the mark of a query is undecided exactly where some probe of it costs more than the user's budget
abbrev pub IsMarkByCost : DatabaseSchema → UserProfile → History → Formula → Mark → Type 0
IsMarkByCost schema user entries query mark =
    (mark ≡ Undecided) ↔ QueryCostsMore schema (user_at user entries) (log user entries) query

-- so is that of a text that was weighed as a query, where a mark answers it
abbrev pub IsUndecidedByCost : DatabaseSchema → UserProfile → History → Purpose → Weighed → Type 0
IsUndecidedByCost schema user entries Protecting weighed = Unit {0}
IsUndecidedByCost schema user entries Asking (Code code) = Unit {0}
IsUndecidedByCost schema user entries Asking (Answer query mark) =
    IsMarkByCost schema user entries (formula_of query) mark

-- and so is the mark that replies to a text, by the query that the text reads as
abbrev pub IsReplyByCost : DatabaseSchema → UserProfile → History → Text → Reply → Type 0
IsReplyByCost schema user entries text (reply.Mark mark) =
    (query : Formula) × (reading schema text ≡ Ok query)
    × IsMarkByCost schema user entries query mark
IsReplyByCost schema user entries text other = Unit {0}
