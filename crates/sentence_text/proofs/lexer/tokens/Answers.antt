use Rattle.std.proofs.Common.{arith}
use Rattle.sentence_text.proofs.Slices.{has_tokens}
use Rattle.sentence_text.proofs.Cut.{behind_blanks-tokens, behind_blanks-start, behind_blanks-total, behind_blanks-end}
use Rattle.sentence_text.proofs.lexer.tokens.Goals as goal

pub invariant_of-result : goal.invariant_of-result
invariant_of-result c =
    let total = behind_blanks-total c.args.text.now c.split_ascii.result.1.now 0 c.blank_count-blanks.result c.blank_count-blanks.result
    (omega arith) c.blank_count-blanks.ensures.value c.split_ascii.ensures.back in (
      omega arith,
      behind_blanks-start c.args.text.now c.split_ascii.result.1.now 0 c.blank_count-blanks.result c.blank_count-blanks.result
          (omega arith) c.blank_count-blanks.ensures.value c.split_ascii.ensures.back,
    )

pub returns-clause-tokens : goal.returns-clause-tokens
returns-clause-tokens c =
    behind_blanks-tokens c.args.text.now c.split_ascii.result.1.now 0 c.blank_count-blanks.result c.blank_count-blanks.result
    (omega arith) c.blank_count-blanks.ensures.value c.split_ascii.ensures.back

pub returns-clause-tokens_end : goal.returns-clause-tokens_end
returns-clause-tokens_end c =
    behind_blanks-end c.args.text.now c.split_ascii.result.1.now 0 c.blank_count-blanks.result c.blank_count-blanks.result
    (omega arith) c.blank_count-blanks.ensures.value c.split_ascii.ensures.back

pub returns-clause-text_end : goal.returns-clause-text_end
returns-clause-text_end c =
    let total = behind_blanks-total c.args.text.now c.split_ascii.result.1.now 0 c.blank_count-blanks.result c.blank_count-blanks.result
    (omega arith) c.blank_count-blanks.ensures.value c.split_ascii.ensures.back in
    omega arith

pub returns-clause-slices : goal.returns-clause-slices
returns-clause-slices c =
    rw (
      behind_blanks-tokens c.args.text.now c.split_ascii.result.1.now 0 c.blank_count-blanks.result c.blank_count-blanks.result
          (omega arith) c.blank_count-blanks.ensures.value c.split_ascii.ensures.back,
      behind_blanks-end c.args.text.now c.split_ascii.result.1.now 0 c.blank_count-blanks.result c.blank_count-blanks.result
          (omega arith) c.blank_count-blanks.ensures.value c.split_ascii.ensures.back,
    ) (has_tokens c.args.text.now)
