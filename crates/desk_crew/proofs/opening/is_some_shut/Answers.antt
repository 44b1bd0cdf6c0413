use Rattle.std.proofs.Common.{rules, tests}
use Rattle.std.proofs.lemmas.Iterator.{YieldsList-from_slice}
use Rattle.std.proofs.lemmas.Iterator.Search.{any_from_yields_List}
use Rattle.desk_crew.specs.Side.{DeskOpening, place_of, is_shut}
use Rattle.desk_crew.proofs.opening.is_some_shut.Goals as goal

pub returns : goal.returns
returns g c =
    any_from_yields_List (λ (opening : DeskOpening _ _ _). is_shut (place_of opening)) _ _ c.any.result c.any.ensures.ran
    (YieldsList-from_slice c.args.openings.now cc) (λ x b q k. search (rules, tests))
