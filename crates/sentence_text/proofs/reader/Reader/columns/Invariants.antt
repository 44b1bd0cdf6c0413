use Rattle.std.proofs.Common.{◌≡◌, ◌≤◌, length, drop}
use Rattle.cqe_base.specs.Reading.{columns}
use Rattle.sentence_text.specs.Binders.{binders}
use Rattle.sentence_text.specs.Position.{IsSameText}
use Rattle.sentence_text.proofs.Columns.{with_front}
use Rattle.sentence_text.proofs.reader.Reader.columns.Given as goal

abbrev pub invariant-loop-i : goal.invariant-loop-i
invariant-loop-i l = record {
  same : IsSameText l.fn.self l.self;
  one_each : length l.terms.items ≤ l.i;
  no_more : length l.terms.items ≤ length l.domains;
  no_longer : length l.self.tokens ≤ length l.fn.self.tokens;
  so_far : with_front l.terms.items (columns l.fn.self.schema l.fn.self.refusal (binders l.scope) (drop l.i l.domains) l.self.tokens)
      ≡ columns l.fn.self.schema l.fn.self.refusal (binders l.scope) l.domains l.fn.self.tokens;
}
