use Rattle.std.proofs.Common.{◌∙◌}
use Rattle.turnstile.proofs.Idle.{shares_known}
use Rattle.turnstile.proofs.pass.Pass.shares.Goals as goal

pub returns : goal.returns
returns g c = c.args.self.now.counted ∙ shares_known c.args.self.now.badge.views
