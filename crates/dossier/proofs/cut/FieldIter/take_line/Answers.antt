use Rattle.std.proofs.Common.{ap, ◌∙◌}
use Rattle.dossier.specs.Reading.{next_line}
use Rattle.dossier.specs.declared.error.DossierError.TheVariants as refused
use Rattle.dossier.proofs.cut.FieldIter.take_line.Goals as goal

pub returns-in-Some-clause-takes : goal.returns-in-Some-clause-takes
returns-in-Some-clause-takes c = rw c.in-Some.is at c.take_field.ensures.passes

-- the number is that of the line that is missing
pub returns-in-None-clause-takes : goal.returns-in-None-clause-takes
returns-in-None-clause-takes c =
    let passes = rw c.in-None.is at c.take_field.ensures.passes in
    (passes, ap refused.Form (c.number.ensures ∙ ap next_line passes.1))
