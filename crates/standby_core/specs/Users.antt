-- The mirrors of users.
use Rattle.std.specs.Prelude.{ℕ, List, [], ◌∷◌, length, nat_le, string_bytes, if◌then◌else◌}
use Rattle.cqe_base.specs.declared.user.User.{User}
use Rattle.log_journal.specs.Names.{journal_name}
use Rattle.log_journal.specs.declared.header.Header.{Header}

-- the name of a user in his frames: his own where there is room for it
abbrev pub frame_user : List ℕ → List ℕ
frame_user name = if nat_le (length name) 32 then name else []

-- what says where a disk with the mirror of a user's journal comes from: the journal's name, the
-- standby's address, his name in frames, and the digests in their header
abbrev pub texts_for : Header → List ℕ → List ℕ → User → List (List ℕ)
texts_for header address directory user =
    journal_name directory (string_bytes user.name) ∷ address
    ∷ frame_user (string_bytes user.name)
    ∷ header.policy
    ∷ header.facts
    ∷ []
