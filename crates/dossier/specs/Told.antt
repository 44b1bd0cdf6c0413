-- What the mark of an item tells of its query.
use Rattle.std.specs.Prelude.{Bool, true, false, Option, Some, None}
use Rattle.cqe_base.specs.declared.user.Mark.{Mark}
use Rattle.cqe_base.specs.declared.user.Mark.TheVariants.{Yes, No, Refused, Undecided, Protected}

-- that the query is true, or false, if it tells anything
abbrev pub sign_told : Mark → Option Bool
sign_told Yes = Some true
sign_told No = Some false
sign_told Refused = None
sign_told Undecided = None
sign_told Protected = None

-- whether this is the mark of an ask that wasn't decided
abbrev pub is_undecided : Mark → Bool
is_undecided Yes = false
is_undecided No = false
is_undecided Refused = false
is_undecided Undecided = true
is_undecided Protected = false
