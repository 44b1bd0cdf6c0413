use Rattle.std.proofs.Common.{◌≡◌, ◌∙◌, length, min, arith}
use Rattle.std.proofs.lemmas.List.{take_rest}
use Rattle.standby_core.proofs.Framing.{drop_within}
use Rattle.standby_core.proofs.frame.behind.Goals as goal

pub returns : goal.returns
returns c =
    let bytes = c.args.bytes.now in
    let place : c.min-place.result ≡ min (length bytes) c.args.count = omega (arith, c.min-place.ensures) in
    take_rest bytes c.min-place.result ∙ drop_within bytes c.args.count c.min-place.result place
