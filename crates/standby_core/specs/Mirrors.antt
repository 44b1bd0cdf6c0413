-- What a mirror shows.
use Rattle.std.specs.Prelude.{ℕ, List, [], ◌∷◌, string_bytes}
use Rattle.log_journal.specs.declared.header.Header.{Header}
use Rattle.standby_core.specs.declared.mirror.Mirror.{Mirror}

-- the dial to its standby
abbrev pub dial_of : {C : Type 0} {g : _} → Mirror C g → C
dial_of mirror = mirror.dial

-- the header in its frames
abbrev pub header_of : {C : Type 0} {g : _} → Mirror C g → Header
header_of mirror = mirror.header

-- the user's name in its frames
abbrev pub user_of : {C : Type 0} {g : _} → Mirror C g → List ℕ
user_of mirror = string_bytes mirror.user

-- what says where a disk with it comes from: the name and the address of its dial, the user in its
-- frames, and the digests in their header
abbrev pub texts_of : {C : Type 0} {g : _} → (C → List ℕ) → (C → List ℕ) → Mirror C g
    → List (List ℕ)
texts_of name address mirror =
    name (dial_of mirror) ∷ address (dial_of mirror) ∷ user_of mirror ∷ (header_of mirror).policy
    ∷ (header_of mirror).facts
    ∷ []
