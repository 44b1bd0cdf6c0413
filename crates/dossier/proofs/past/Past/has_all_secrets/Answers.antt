use Rattle.std.proofs.Common.{◌≡◌, length, ap, arith}
use Rattle.std.proofs.lemmas.Grind.{common_steps}
use Rattle.std.proofs.lemmas.List.{length-map}
use Rattle.std.proofs.lemmas.Bool.Decides.{nat_tests}
use Rattle.cqe_base.specs.Formula.{formula_of}
use Rattle.cqe_base.specs.History.{UserProfile, user_at}
use Rattle.dossier.specs.Logs.{past_user, past_history}
use Rattle.dossier.proofs.past.Past.has_all_secrets.Goals as goal

pub returns : goal.returns
returns c =
    let self = c.args.self.now in
    let is = ap (λ (u : UserProfile). length u.secrets) c.requires.current in
    let sized = length-map self.current.secrets.items formula_of in
    let many : c.len.result ≡ length (user_at (past_user self) (past_history self)).secrets =
    omega (arith, is, sized, self.current.secrets.ok.0, c.len.ensures) in
    grind (arith, nat_tests, common_steps, many)
