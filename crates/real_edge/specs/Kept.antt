-- What a shelf of files keeps of a disk.
use Rattle.std.specs.Prelude.{ℕ, Bool, false, Option, Some, None}
use Rattle.real_edge.specs.declared.files.Kept.{Kept}

-- it was taken and isn't back
abbrev pub out_kept : Option Kept → Bool
out_kept None = false
out_kept (Some kept) = kept.is_out

-- its count of faults, as it was when it was last there
abbrev pub faults_kept : Option Kept → ℕ
faults_kept None = 0
faults_kept (Some kept) = kept.faults
