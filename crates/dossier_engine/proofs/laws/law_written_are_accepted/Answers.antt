use Rattle.std.proofs.Common.{ap, ◌∙◌}
use Rattle.dossier_engine.specs.Checks.{by_line}
use Rattle.dossier_engine.proofs.Checking.{as_text}
use Rattle.dossier_engine.proofs.laws.law_written_are_accepted.Goals as goal

pub returns : goal.returns
returns c =
    λ schema world header name user bytes before now text valid proper limits is few.
    let (_, _, _, _, _, utf8) = is.text_is in
    as_text schema world name user text few utf8
    ∙ ap by_line (c.law_dossiers_are_accepted.ensures.served schema world name user header bytes is.entries text valid
    (c.law_dossiers_are_accepted.ensures.names name proper) limits is.standing_is.0 is.standing_is.1 is.text_is)
