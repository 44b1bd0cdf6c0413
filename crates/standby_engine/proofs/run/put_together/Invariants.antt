use Rattle.std.proofs.Common.{◌≡◌, ◌+◌, ◌++◌, length, map}
use Rattle.std.specs.Prelude.{vec_capacity, string_bytes}
use Rattle.std.specs.Vec.Iter.{into_iter_items}
use Rattle.log_journal.specs.Journal.{disk_of}
use Rattle.standby_core.specs.Lasting.{has_broken}
use Rattle.standby_engine.specs.Opened.{given_journal}
use Rattle.standby_engine.proofs.run.put_together.Given as goal

-- the disks of the first journals are behind the others
abbrev pub invariant-loop-held : goal.invariant-loop-held
invariant-loop-held g l = record {
  rest : l.yielded ++ into_iter_items l.held-iterator ≡ l.fn.journals.items;
  names : map given_journal l.given.items ++ map string_bytes l.names.items ≡ map given_journal l.fn.given.items ++ map string_bytes l.fn.names.items;
  count : length l.yielded + length l.names.items ≡ length l.fn.names.items;
  disks : map (λ one. one.disk) l.given.items ≡ map (λ one. one.disk) l.fn.given.items ++ map (λ held. disk_of held.journal) l.yielded;
  broken : l.broken ≡ has_broken l.yielded;
  room : vec_capacity l.given ≡ vec_capacity l.fn.given;
}
