use Rattle.std.proofs.Common.{◌≤◌, length, ap, arith}
use Rattle.std.proofs.lemmas.Grind.{common_steps}
use Rattle.std.proofs.lemmas.List.{length-map}
use Rattle.std.proofs.lemmas.Bool.Decides.{nat_tests}
use Rattle.cqe_base.specs.Formula.{formula_of}
use Rattle.cqe_base.specs.History.{UserProfile, user_at}
use Rattle.user_log.specs.UserLogs.{kept_user, kept_history}
use Rattle.user_log.proofs.Keeping.{amended_none}
use Rattle.user_log.proofs.log.UserLog.has_more_secrets.Goals as goal

pub returns : goal.returns
returns c none =
    let self = c.args.self.now in
    let is = ap (λ (u : UserProfile). length u.secrets) self.amended.current_is in
    let now = length-map self.current.secrets.items formula_of in
    let first = length-map self.user.now.secrets.items formula_of in
    let no_more : c.len.result ≤ c.len-2.result = grind (arith, nat_tests, common_steps, none) in
    let few : length (user_at (kept_user self) (kept_history self)).secrets ≤ length (kept_user self).secrets =
    omega (arith, is, now, first, self.current.secrets.ok.0, self.user.now.secrets.ok.0, c.len.ensures, c.len-2.ensures, no_more) in
    amended_none (kept_user self) (kept_history self) few
