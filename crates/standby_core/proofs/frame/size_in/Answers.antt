use Rattle.std.proofs.Common.{◌∙◌, ap, rules}
use Rattle.std.specs.Int.{w16, from_be_bytes}
use Rattle.std.proofs.lemmas.Nat.{be_bytes_2}
use Rattle.standby_core.proofs.frame.size_in.Goals as goal

pub returns-clause-bytes : goal.returns-clause-bytes
returns-clause-bytes c =
    let array = c.copy_from_slice.new.self in
    be_bytes_2 array c.from_be_bytes.result (search rules) (search rules) c.from_be_bytes.ensures ∙ c.copy_from_slice.ensures.after

pub returns-clause-size : goal.returns-clause-size
returns-clause-size c = c.from_be_bytes.ensures ∙ ap (from_be_bytes w16) c.copy_from_slice.ensures.after
