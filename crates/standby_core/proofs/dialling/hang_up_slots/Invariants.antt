use Rattle.std.proofs.Common.{◌≡◌, ◌+◌, ◌++◌, List, ℕ}
use Rattle.std.specs.Prelude.{vec_len}
use Rattle.outside.specs.Dials.{Exchange}
use Rattle.standby_core.specs.Doors.{KeepsDoors}
use Rattle.standby_core.specs.Slots.{faults_of, there_among, exchanged_among}
use Rattle.standby_core.proofs.dialling.hang_up_slots.Given as goal

-- those that are left and those that were hung up are all
abbrev pub invariant-loop-slot : goal.invariant-loop-slot
invariant-loop-slot g l = record {
  gone : List Exchange;
  parts : exchanged_among g.L.Dial.Dial.exchanged l.fn.slots.items ≡ gone ++ exchanged_among g.L.Dial.Dial.exchanged l.slots.items;
  exchanged : g.L.Links.tells → g.L.Links.exchanged l.links ≡ g.L.Links.exchanged l.fn.links ++ gone;
  dialling : g.L.Links.dialling l.fn.links + there_among l.slots.items ≡ g.L.Links.dialling l.links + there_among l.fn.slots.items;
  exchange_faults : (name : List ℕ)
      → g.L.Links.exchange_faults l.links name + faults_of g.L.Dial.Dial.faults l.slots.items name
      ≡ g.L.Links.exchange_faults l.fn.links name + faults_of g.L.Dial.Dial.faults l.fn.slots.items name;
  doors : KeepsDoors g.L.Links l.fn.links l.links;
}

abbrev pub decreases-loop-slot : goal.decreases-loop-slot
decreases-loop-slot g l = vec_len l.slots
