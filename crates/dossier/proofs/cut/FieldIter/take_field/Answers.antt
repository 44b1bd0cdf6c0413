use Rattle.std.proofs.Common.{refl, ap, arith}
use Rattle.std.proofs.lemmas.Bool.Decides.{nat_tests}
use Rattle.std.proofs.lemmas.List.{nil_from_length}
use Rattle.dossier.specs.Fields.{fields_from, lines_in}
use Rattle.dossier.proofs.Lines.{fields-first}
use Rattle.dossier.proofs.cut.FieldIter.take_field.Goals as goal

-- no byte is left, so no line
pub returns-then-is_empty-clause-passes : goal.returns-then-is_empty-clause-passes
returns-then-is_empty-clause-passes c = rw (← c.self.view_is) (
  ap (λ text. fields_from c.self.inside.line (lines_in text)) (nil_from_length c.self.inside.text.now (grind (arith, nat_tests))),
  refl,
)

pub first_part-requires-clause-some : goal.first_part-requires-clause-some
first_part-requires-clause-some c = grind (arith, nat_tests)

pub invariant_of-self : goal.invariant_of-self
invariant_of-self c = omega (arith, c.self.invariant, c.first_part.ensures.less)

pub returns-clause-passes : goal.returns-clause-passes
returns-clause-passes c = rw (← c.self.view_is) (
  fields-first c.self.inside.line c.self.inside.text.now c.first_part.result.0.now c.first_part.result.1.now c.first_word.result.0.now
      c.first_word.result.1.now c.first_part.ensures.first c.first_word.ensures.word c.first_word.ensures.rest,
  refl,
  refl,
  omega (arith, c.first_part.ensures.less),
)

pub returns-clause-less : goal.returns-clause-less
returns-clause-less c = rw (← c.self.view_is) (omega (arith, c.first_part.ensures.less))
