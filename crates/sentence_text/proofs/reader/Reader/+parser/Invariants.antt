use Rattle.std.proofs.Common.{◌+◌, ◌*◌, ◌<◌, length}
use Rattle.cqe_base.specs.declared.text.Symbol.TheVariants.{And, Or}
use Rattle.cqe_base.specs.Formula.{formula_of, conjunction, disjunction}
use Rattle.cqe_base.specs.Reading.{unary, both, either, inside}
use Rattle.sentence_text.specs.Binders.{binders}
use Rattle.sentence_text.specs.Position.{IsSameText}
use Rattle.sentence_text.proofs.Operands.{ChainGoesOn}
use Rattle.sentence_text.proofs.reader.Reader.+parser.Given as goal

-- A call stands at a level, and calls those below it, or any where one construct more is open.
abbrev pub decreases-quantified : goal.decreases-quantified
decreases-quantified l = 6 * l.room

abbrev pub decreases-unary : goal.decreases-unary
decreases-unary l = 6 * l.room + 1

abbrev pub decreases-both : goal.decreases-both
decreases-both l = 6 * l.room + 2

abbrev pub decreases-either : goal.decreases-either
decreases-either l = 6 * l.room + 3

abbrev pub decreases-conditional : goal.decreases-conditional
decreases-conditional l = 6 * l.room + 4

abbrev pub decreases-sentence : goal.decreases-sentence
decreases-sentence l = 6 * l.room + 5

abbrev pub invariant-both-loop-self : goal.invariant-both-loop-self
invariant-both-loop-self l = record {
  same : IsSameText l.fn.self l.self;
  shorter : length l.self.tokens < length l.fn.self.tokens;
  so_far : ChainGoesOn And conjunction (unary l.fn.self.schema l.fn.self.refusal (inside l.fn.self.schema l.fn.self.refusal l.room) (binders l.scope))
      (formula_of l.left) l.self.tokens
      (both (unary l.fn.self.schema l.fn.self.refusal (inside l.fn.self.schema l.fn.self.refusal l.room) (binders l.scope)) l.fn.self.tokens);
}

abbrev pub decreases-both-loop-self : goal.decreases-both-loop-self
decreases-both-loop-self l = length l.self.tokens

abbrev pub invariant-either-loop-self : goal.invariant-either-loop-self
invariant-either-loop-self l = record {
  same : IsSameText l.fn.self l.self;
  shorter : length l.self.tokens < length l.fn.self.tokens;
  so_far : ChainGoesOn Or disjunction (both (unary l.fn.self.schema l.fn.self.refusal (inside l.fn.self.schema l.fn.self.refusal l.room) (binders l.scope)))
      (formula_of l.left) l.self.tokens
      (either (unary l.fn.self.schema l.fn.self.refusal (inside l.fn.self.schema l.fn.self.refusal l.room) (binders l.scope)) l.fn.self.tokens);
}

abbrev pub decreases-either-loop-self : goal.decreases-either-loop-self
decreases-either-loop-self l = length l.self.tokens
