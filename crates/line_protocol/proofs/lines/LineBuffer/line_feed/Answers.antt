use Rattle.std.proofs.Common.{ℕ, ◌==◌, Bool, List, drop, ap, ◌∙◌, sym}
use Rattle.std.specs.Prelude.{position}
use Rattle.std.proofs.lemmas.List.{take_rest}
use Rattle.line_protocol.proofs.Searched.{found_behind, none_behind, at_none}
use Rattle.line_protocol.proofs.lines.LineBuffer.line_feed.Goals as goal

pub returns-clause-found : goal.returns-clause-found
returns-clause-found c =
    let feed : ℕ → Bool = λ b. b == 10 in
    let bytes = c.ahead.result.now in
    found_behind c.args.self.now.ahead c.args.from c.in_ok-place.place c.requires.within c.requires.earlier
    (ap (λ (l : List ℕ). position feed (drop c.args.from l)) (sym c.ahead.ensures.ahead)
    ∙ ap (λ (l : List ℕ). position feed l) (sym (take_rest bytes c.args.from))
    ∙ sym c.line_feed_in.ensures ∙ c.in_ok-place.was)

pub returns-in_err-place-clause-none : goal.returns-in_err-place-clause-none
returns-in_err-place-clause-none c =
    let feed : ℕ → Bool = λ b. b == 10 in
    let bytes = c.ahead.result.now in
    at_none c.from_residual.result (none_behind c.args.self.now.ahead c.args.from c.requires.within c.requires.earlier
    (ap (λ (l : List ℕ). position feed (drop c.args.from l)) (sym c.ahead.ensures.ahead)
    ∙ ap (λ (l : List ℕ). position feed l) (sym (take_rest bytes c.args.from))
    ∙ sym c.line_feed_in.ensures ∙ c.in_err-place.was))
