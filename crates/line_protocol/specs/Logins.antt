-- Who may log in.
use Rattle.std.specs.Prelude.{◌≡◌, Some}
use Rattle.cqe_base.specs.Schema.{Text}
use Rattle.cqe_base.specs.declared.user.User.{User}
use Rattle.sha2.specs.Sha256.{sha256}

-- The user has a token, and it is the SHA-256 of the phrase.
abbrev pub MayLogIn : User → Text → Type 0
MayLogIn user phrase = user.token ≡ Some (sha256 phrase)
