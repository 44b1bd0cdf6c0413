use Rattle.std.proofs.Common.{◌≡◌, List, ◌++◌, length}
use Rattle.std.specs.Prelude.{vec_len}
use Rattle.turnstile.specs.declared.pass.Pass.{Pass}
use Rattle.desk_counter.specs.declared.item.TurnItem.{TurnItem}
use Rattle.desk_counter.specs.declared.item.Fixed.{Fixed}
use Rattle.session_core.specs.Members.{passes_in}
use Rattle.session_core.proofs.Meeting.{MetFrom}
use Rattle.session_core.proofs.counters.CountersOf+TicketedDesk+D.meet.Given as goal

-- the passes behind those that are left have met
abbrev pub invariant-loop-other : goal.invariant-loop-other
invariant-loop-other g l = record {
  met : MetFrom (length l.others.items) l.self.counters.items (passes_in l.fn.passes) (passes_in l.fn.others) (passes_in l.passes);
  left : (behind : List (Pass TurnItem (Fixed g.row.D.Denot))) × (passes_in l.fn.others ≡ l.others.items ++ behind);
}

abbrev pub decreases-loop-other : goal.decreases-loop-other
decreases-loop-other g l = vec_len l.others
