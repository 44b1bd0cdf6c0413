use Rattle.std.proofs.Common.{sym, ap, ◌∙◌, subst, length}
use Rattle.std.specs.Prelude.{IfSome}
use Rattle.entailment.specs.GroundSentences.{sentence_of}
use Rattle.user_desk.specs.Desks.{desk_schema, desk_user}
use Rattle.user_log.specs.Examining.{IsLent}
use Rattle.desk_counter.specs.Items.{pairs_of}
use Rattle.desk_counter.proofs.DeskSettles.{same_fixed, history_in}
use Rattle.desk_counter.proofs.ticketed_desk.TicketedDesk.lend.Goals as goal

pub invariant_of-self : goal.invariant_of-self
invariant_of-self g c = record { counted = c.args.self.now.counted ∙ ap length (sym c.lend.ensures.history) }

pub returns-clause-fixed : goal.returns-clause-fixed
returns-clause-fixed g c = same_fixed c.args.self.now.desk c.lend.new.self c.lend.ensures.same c.lend.ensures.opening

pub returns-clause-pairs : goal.returns-clause-pairs
returns-clause-pairs g c =
    let value = c.args.self.now in
    λ i. pairs_of value.tickets.items (c.lend.ensures.history i) value.broke (c.lend.ensures.in_flight i)

pub returns-clause-lent : goal.returns-clause-lent
returns-clause-lent g c =
    let value = c.args.self.now in
    subst (λ h. IfSome c.lend.result (IsLent (desk_schema value.desk) (desk_user value.desk) h (sentence_of c.args.query.now))) (sym (history_in value))
    c.lend.ensures.lent
