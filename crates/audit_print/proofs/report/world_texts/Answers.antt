use Rattle.std.proofs.Common.{sym, ap, subst, Some}
use Rattle.audit_print.specs.Said.{IsListing}
use Rattle.audit_print.proofs.report.world_texts.Goals as goal

pub returns-in_ok-texts-in-Some : goal.returns-in_ok-texts-in-Some
returns-in_ok-texts-in-Some c =
    let made = c.in_ok-texts-in-Some.ensures in
    (Some made.0, subst (IsListing (Some made.0)) (sym c.in-Some.is) made.1, ap (λ t. Some t) made.2)
