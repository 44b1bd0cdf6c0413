use Rattle.std.proofs.Common.{◌≡◌, ◌≤◌, ◌+◌, ◌++◌, map, drop}
use Rattle.cqe_base.specs.Ground.{parts_of, ground_of, part_nodes}
use Rattle.cqe_base.specs.ClauseForm.{literals_of}
use Rattle.clause_form.specs.Walks.{walked_parts, GoesOn}
use Rattle.clause_form.proofs.former.Former.+walk.Given as goal

abbrev pub invariant-walk_parts-loop-part : goal.invariant-walk_parts-loop-part
invariant-walk_parts-loop-part l =
    let rest = parts_of (map ground_of (drop l.part-index l.parts)) in
    let all = parts_of (map ground_of l.parts) in
    record {
      form : walked_parts rest l.self ≡ walked_parts all l.initial.self;
      literals : l.literals.items ++ literals_of rest l.self.numbering ≡ literals_of all l.initial.self.numbering;
      few : l.self.numbering.variables + part_nodes rest ≤ l.initial.self.numbering.variables + part_nodes all;
      goes_on : GoesOn l.initial.self l.self;
    }
