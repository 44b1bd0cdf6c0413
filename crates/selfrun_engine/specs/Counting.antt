-- The replies in lines, counted byte by byte.
use Rattle.std.specs.Prelude.{ℕ, ◌+◌, ◌==◌, ◌&&◌, List, fold, if◌then◌else◌}
use Rattle.selfrun_engine.specs.declared.tally.Tally.{Tally}
use Rattle.selfrun_engine.specs.declared.tally.Counter.{Counter}

-- no reply was counted
abbrev pub no_reply : Tally
no_reply = record { yes = 0; no = 0; refused = 0; undecided = 0; errors = 0 }

-- how many replies were counted
abbrev pub total : Tally → ℕ
total tally = tally.yes + tally.no + tally.refused + tally.undecided + tally.errors

-- the tally with the reply that begins with this byte
abbrev pub with_first : Tally → ℕ → Tally
with_first tally byte =
    if byte == 121 then record tally { yes = tally.yes + 1 }
    else if byte == 110 then record tally { no = tally.no + 1 }
    else if byte == 114 then record tally { refused = tally.refused + 1 }
    else if byte == 117 then record tally { undecided = tally.undecided + 1 }
    else record tally { errors = tally.errors + 1 }

-- what was read with one byte more: a reply begins behind the second blank of its line
abbrev pub after_byte : Counter → ℕ → Counter
after_byte counter byte =
    if byte == 10 then record counter { blanks = 0 }
    else if counter.blanks == 2 then record { blanks = 3; tally = with_first counter.tally byte }
    else if byte == 32 && counter.blanks == 0 then record counter { blanks = 1 }
    else if byte == 32 && counter.blanks == 1 then record counter { blanks = 2 }
    else counter

-- the replies in lines
abbrev pub tally_in : List ℕ → Tally
tally_in lines = (fold after_byte (record { blanks = 0; tally = no_reply }) lines).tally
