-- Standings in memory.
use Rattle.std.specs.Prelude.{Bool, true, false}
use Rattle.cqe_base.specs.Run
use Rattle.cqe_base.specs.Run.{standing_open, standing_closed, standing_sealed}
use Rattle.user_desk.specs.declared.standing.Standing.{Standing}
use Rattle.user_desk.specs.declared.standing.Standing.TheVariants.{Open, Closed, Sealed}

-- the standing that a Standing in memory is
abbrev pub standing_of : Standing → Run.Standing
standing_of Open = standing_open
standing_of (Closed admission) = standing_closed
standing_of (Sealed why) = standing_sealed

-- whether the user is served
abbrev pub is_open : Standing → Bool
is_open Open = true
is_open (Closed admission) = false
is_open (Sealed why) = false

-- whether the journal was refused
abbrev pub is_sealed : Standing → Bool
is_sealed Open = false
is_sealed (Closed admission) = false
is_sealed (Sealed why) = true
