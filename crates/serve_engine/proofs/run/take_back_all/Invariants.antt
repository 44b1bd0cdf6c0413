use Rattle.std.proofs.Common.{◌≡◌, ◌+◌, ◌-◌, ◌++◌, ◌≤◌, length}
use Rattle.std.specs.List.{sum_by, flat_map}
use Rattle.std.specs.Vec.Iter.{into_iter_items}
use Rattle.outside.specs.Faults.{Rose}
use Rattle.outside.specs.Shelf.{SameNames}
use Rattle.outside.specs.Visits.{one_if_any}
use Rattle.serve_engine.specs.Doors.{SomeFailed}
use Rattle.serve_engine.proofs.run.take_back_all.Given as goal

-- the doors so far are back
abbrev pub invariant-loop-door : goal.invariant-loop-door
invariant-loop-door g l = record {
  rest : l.yielded ++ into_iter_items l.door-iterator ≡ l.fn.doors.items;
  out : g.L.Links.out l.fn.links ≡ g.L.Links.out l.links + length l.yielded;
  ended : g.L.Links.ended l.links ≡ g.L.Links.ended l.fn.links + sum_by (λ door. one_if_any (g.L.D.Door.ends door)) l.yielded;
  given : g.L.Links.tells → g.L.Links.given l.links ≡ g.L.Links.given l.fn.links + sum_by g.L.D.Door.given l.yielded;
  left : g.L.Links.tells → g.L.Links.left l.links ≡ g.L.Links.left l.fn.links - sum_by g.L.D.Door.given l.yielded;
  at_hand : g.L.Links.tells → g.L.Links.at_hand l.links ≡ g.L.Links.at_hand l.fn.links + sum_by g.L.D.Door.left l.yielded;
  back : g.L.Links.tells → g.L.Links.back l.links ≡ g.L.Links.back l.fn.links ++ flat_map g.L.D.Door.back l.yielded;
  listened : g.L.Links.tells → g.L.Links.listened l.links ≡ g.L.Links.listened l.fn.links;
  dialling : g.L.Links.dialling l.links ≡ g.L.Links.dialling l.fn.links;
  exchanged : g.L.Links.tells → g.L.Links.exchanged l.links ≡ g.L.Links.exchanged l.fn.links;
  exchange_faults : SameNames (g.L.Links.exchange_faults l.fn.links) (g.L.Links.exchange_faults l.links);
  later : g.L.Links.faults l.fn.links ≤ g.L.Links.faults l.links;
  failed : SomeFailed g.L.D.Door.faults l.yielded → Rose (g.L.Links.faults l.fn.links) (g.L.Links.faults l.links);
}
