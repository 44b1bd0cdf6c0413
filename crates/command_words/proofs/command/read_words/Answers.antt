use Rattle.std.proofs.Common.{map, sym, ap, ◌∙◌, true≢false}
use Rattle.std.specs.Prelude.{string_bytes}
use Rattle.clap.specs.Words.{fault_of, is_simple, is_simple_and_free, subcommand_of}
use Rattle.command_words.proofs.Options.{none}
use Rattle.command_words.proofs.Fitting.{fault_there, matched_reading, refused, short_reading, taken}
use Rattle.command_words.proofs.command.read_words.Goals as goal

pub returns-then-has_short : goal.returns-then-has_short
returns-then-has_short c = sym (short_reading (map string_bytes c.args.words.now) (sym c.has_short.ensures ∙ c.if-has_short.true))

pub returns-in-Ok : goal.returns-in-Ok
returns-in-Ok c =
    let words = map string_bytes c.args.words.now in
    let app = c.in_ok-program.ensures in
    let long = sym c.has_short.ensures ∙ c.if-has_short.false in
    let free = ap (λ a. fault_of a words) (sym app) ∙ c.in-Ok.ensures.kinds (ap is_simple_and_free app) in
    c.command_in.ensures
    ∙ ap matched_reading ((c.in-Ok.ensures.matches (ap is_simple app)).1 ∙ ap (λ a. subcommand_of a words) app)
    ∙ taken words long free

pub returns : goal.returns
returns c =
    let words = map string_bytes c.args.words.now in
    let app = c.in_ok-program.ensures in
    let long = sym c.has_short.ensures ∙ c.if-has_short.false in
    let fails = fault_there _ c.in-Err.error (c.in-Err.ensures.kinds (ap is_simple_and_free app)) (λ memory.
    true≢false (sym (c.is_want_of_memory.ensures memory) ∙ c.if-is_want_of_memory.false)) in
    sym (refused words long (ap (λ a. none (fault_of a words)) (sym app) ∙ fails))
