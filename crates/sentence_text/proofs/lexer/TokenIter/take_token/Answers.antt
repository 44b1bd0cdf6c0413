use Rattle.std.proofs.Common.{◌≡◌, ◌+◌, arith, refl, sym, [], ◌∙◌}
use Rattle.sentence_text.proofs.TokenLaws.{no_tokens}
use Rattle.sentence_text.specs.Upcoming.{upcoming_tokens}
use Rattle.sentence_text.proofs.Cut.{behind_blanks-start, behind_token-tokens, behind_token-total, behind_token-end}
use Rattle.sentence_text.proofs.lexer.TokenIter.take_token.Goals as goal

pub returns-then-length-eq0-clause-steps : goal.returns-then-length-eq0-clause-steps
returns-then-length-eq0-clause-steps c =
    let here = no_tokens c.self.inside.place c.self.inside.rest.now (sym c.token_length-length.ensures.value ∙ c.if-length-eq0.true) c.self.invariant.1 in
    let none : upcoming_tokens c.args.self.now ≡ [] = rw (← c.self.view_is) here in
    (none, none)

pub invariant_of-self : goal.invariant_of-self
invariant_of-self c =
    let total = behind_token-total c.self.inside.rest.now c.split_ascii.result.1.now c.split_ascii-2.result.1.now c.self.inside.place
    c.token_length-length.result c.blank_count-blanks.result (c.self.inside.place + c.token_length-length.result + c.blank_count-blanks.result)
    (omega arith) refl c.token_length-length.ensures.value c.split_ascii.ensures.back c.blank_count-blanks.ensures.value c.split_ascii-2.ensures.back in (
      omega (arith, total, c.self.invariant.0),
      behind_blanks-start c.split_ascii.result.1.now c.split_ascii-2.result.1.now 0 c.blank_count-blanks.result c.blank_count-blanks.result
          (omega arith) c.blank_count-blanks.ensures.value c.split_ascii-2.ensures.back,
    )

pub returns-clause-steps : goal.returns-clause-steps
returns-clause-steps c =
    rw (← c.self.view_is, c.split_ascii.ensures.front)
    (behind_token-tokens c.self.inside.rest.now c.split_ascii.result.1.now c.split_ascii-2.result.1.now c.self.inside.place c.token_length-length.result
    c.blank_count-blanks.result (c.self.inside.place + c.token_length-length.result + c.blank_count-blanks.result)
    (omega arith) refl c.token_length-length.ensures.value c.split_ascii.ensures.back c.blank_count-blanks.ensures.value
    c.split_ascii-2.ensures.back)

pub returns-clause-source : goal.returns-clause-source
returns-clause-source c = rw (← c.self.view_is) (record {
  tokens_end = behind_token-end c.self.inside.rest.now c.split_ascii.result.1.now c.split_ascii-2.result.1.now c.self.inside.place c.token_length-length.result
      c.blank_count-blanks.result (c.self.inside.place + c.token_length-length.result + c.blank_count-blanks.result)
      (omega arith) refl c.token_length-length.ensures.value c.split_ascii.ensures.back c.blank_count-blanks.ensures.value c.split_ascii-2.ensures.back;
  text_end = behind_token-total c.self.inside.rest.now c.split_ascii.result.1.now c.split_ascii-2.result.1.now c.self.inside.place c.token_length-length.result
      c.blank_count-blanks.result (c.self.inside.place + c.token_length-length.result + c.blank_count-blanks.result)
      (omega arith) refl c.token_length-length.ensures.value c.split_ascii.ensures.back c.blank_count-blanks.ensures.value c.split_ascii-2.ensures.back;
})
