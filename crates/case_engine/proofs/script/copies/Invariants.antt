use Rattle.std.proofs.Common.{◌≡◌, take, map}
use Rattle.cqe_base.specs.Memory.{declaration_of}
use Rattle.case_engine.proofs.script.copies.Given as goal

abbrev pub invariant-loop-one : goal.invariant-loop-one
invariant-loop-one l = map declaration_of l.copies.items ≡ map declaration_of (take l.one-index l.declared)
