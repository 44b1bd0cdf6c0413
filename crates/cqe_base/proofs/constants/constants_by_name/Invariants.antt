use Rattle.std.proofs.Common.{◌≡◌, ℕ, List, drop, map}
use Rattle.std.specs.Option.{option_or}
use Rattle.std.specs.HashMap.{get_by_text}
use Rattle.cqe_base.specs.Memory.{named_domain_of}
use Rattle.cqe_base.specs.Schema.{constant_in}
use Rattle.cqe_base.proofs.constants.constants_by_name.Given as goal

abbrev pub invariant-loop-number : goal.invariant-loop-number
invariant-loop-number l = (text : List ℕ) →
    option_or (get_by_text l.by_name text) (constant_in l.number (map named_domain_of (drop l.number l.domains)) text)
    ≡ constant_in 0 (map named_domain_of l.domains) text
