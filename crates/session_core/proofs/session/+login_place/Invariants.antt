use Rattle.std.specs.Prelude.{length}
use Rattle.session_core.proofs.session.+login_place.Given as goal

abbrev pub decreases-login_place : goal.decreases-login_place
decreases-login_place a = length a.users.now
