use Rattle.censors.proofs.parts.run_part.Goals as goal

pub returns : goal.returns
returns c = record { view = c.found_in_part-found.ensures.same; found = c.found_in_part-found.ensures.found }
