use Rattle.std.proofs.Common.{◌∙◌, rules}
use Rattle.std.proofs.lemmas.Nat.{be_bytes_8}
use Rattle.standby_core.proofs.frame.number_in.Goals as goal

pub returns : goal.returns
returns c =
    let array = c.copy_from_slice.new.self in
    be_bytes_8 array c.from_be_bytes.result (search rules) (search rules) c.from_be_bytes.ensures ∙ c.copy_from_slice.ensures.after
