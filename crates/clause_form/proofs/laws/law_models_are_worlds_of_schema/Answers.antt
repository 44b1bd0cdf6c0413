use Rattle.clause_form.proofs.ModelWorlds.{models-are-worlds}
use Rattle.clause_form.proofs.laws.law_models_are_worlds_of_schema.Goals as goal

pub returns : goal.returns
returns c =
    models-are-worlds c.law_grounding.ensures c.law_models_are_worlds.ensures
    c.law_model_gives_world.ensures c.law_numbered_facts_are_of_schema.ensures
