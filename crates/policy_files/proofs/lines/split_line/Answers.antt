use Rattle.std.proofs.Common.{◌≡◌, ◌+◌, ◌-◌, List, ℕ, ◌∷◌, true, take, drop, length, length-drop, sym, ap, ◌∙◌, arith}
use Rattle.std.proofs.lemmas.List.{take_all}
use Rattle.cqe_base.specs.Lines.{TextLine, text_lines}
use Rattle.policy_files.proofs.LinesSplit.{first_line, last_line}
use Rattle.policy_files.proofs.lines.split_line.Goals as goal

pub returns-in-Some-clause-lines : goal.returns-in-Some-clause-lines
returns-in-Some-clause-lines c =
    let bytes = c.args.bytes.now in
    let at = c.in-Some.at in
    let first : TextLine = record { bytes = take at bytes; ended = true } in
    let all : take (length bytes - (at + 1)) (drop (at + 1) bytes) ≡ drop (at + 1) bytes =
    take_all (length bytes - (at + 1)) (drop (at + 1) bytes) (omega (arith, length-drop (at + 1) bytes)) in
    first_line bytes at (sym c.line_feed.ensures ∙ c.in-Some.is) ∙ ap (λ (rest : List ℕ). first ∷ text_lines rest) (sym all)

pub returns-in-None-clause-lines : goal.returns-in-None-clause-lines
returns-in-None-clause-lines c = last_line c.args.bytes.now (sym c.line_feed.ensures ∙ c.in-None.is) c.requires
