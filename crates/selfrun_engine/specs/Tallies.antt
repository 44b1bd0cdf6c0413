-- How often each reply stands in lines, and the summary that says so.
use Rattle.std.specs.Prelude.{ℕ, ◌+◌, List, [], ◌∷◌, ◌++◌, fold, Option, Some, codes, decimal}
use Rattle.std.specs.List.{flat_map}
use Rattle.cqe_base.specs.declared.user.Mark.TheVariants.{Yes, No, Refused, Undecided}
use Rattle.cqe_base.specs.Schema.{Text}
use Rattle.cqe_base.specs.Run.{Reply, marked}
use Rattle.cqe_base.specs.Transcript.{Line, reply_line, restart_line}
use Rattle.selfrun_engine.specs.Counting.{no_reply}
use Rattle.selfrun_engine.specs.declared.tally.Tally.{Tally}

-- one reply more, or that no user has the name
abbrev pub with_reply : Tally → Option Reply → Tally
with_reply tally (Some (marked Yes)) = record tally { yes = tally.yes + 1 }
with_reply tally (Some (marked No)) = record tally { no = tally.no + 1 }
with_reply tally (Some (marked Refused)) = record tally { refused = tally.refused + 1 }
with_reply tally (Some (marked Undecided)) = record tally { undecided = tally.undecided + 1 }
with_reply tally told = record tally { errors = tally.errors + 1 }

-- the reply of one line more
abbrev pub with_line : Tally → Line → Tally
with_line tally (reply_line name caller told) = with_reply tally told
with_line tally restart_line = tally

-- how often each mark stands in lines, and every other reply
abbrev pub tally_of : List Line → Tally
tally_of lines = fold with_line no_reply lines

-- a line of the summary: a word and a number
abbrev pub summary_line : Text → ℕ → Text
summary_line word number = word ++ (codes " " ++ (decimal number ++ codes "\n"))

-- the eight lines of the summary
abbrev pub summary_lines : ℕ → ℕ → ℕ → Tally → List Text
summary_lines seed users asks tally =
    summary_line (codes "seed") seed ∷ summary_line (codes "users") users
    ∷ summary_line (codes "asks") asks
    ∷ summary_line (codes "yes") tally.yes ∷ summary_line (codes "no") tally.no
    ∷ summary_line (codes "refused") tally.refused
    ∷ summary_line (codes "undecided") tally.undecided ∷ summary_line (codes "errors") tally.errors
    ∷ []

-- the summary
abbrev pub summary : ℕ → ℕ → ℕ → Tally → Text
summary seed users asks tally = flat_map (λ line. line) (summary_lines seed users asks tally)
