use Rattle.std.proofs.Common.{◌≡◌, false, cond, length, get_or, take}
use Rattle.cqe_base.specs.Literal.{Literal, has_literal}
use Rattle.clause_store.specs.Codes.{code_of}
use Rattle.clause_store.proofs.marked_clause.unmark_all.Given as goal

abbrev pub invariant-loop-literal : goal.invariant-loop-literal
invariant-loop-literal l = record {
  gone : (m : Literal)
      → get_or l.marks.items (code_of m) false ≡ cond (has_literal (take l.literal-index l.clause) m) false (get_or l.initial.marks.items (code_of m) false);
  size : length l.marks.items ≡ length l.initial.marks.items;
}
