use Rattle.std.proofs.Common.{◌≡◌, ◌+◌, subst, sym, arith}
use Rattle.std.proofs.lemmas.Grind.{common_steps}
use Rattle.cqe_base.specs.Tokens.{IsAsciiUpTo, token_length}
use Rattle.sentence_text.proofs.TokenLaws.{token_length-ascii}
use Rattle.sentence_text.proofs.lexer.token_length.Goals as goal

pub returns-in-len1-up-clause-ascii : goal.returns-in-len1-up-clause-ascii
unfolding token_length
returns-in-len1-up-clause-ascii c =
    let value : 1 + c.name_byte_count.result ≡ token_length c.args.text.now = grind (arith, common_steps) in
    subst (λ n. IsAsciiUpTo n c.args.text.now) (sym value) (token_length-ascii c.args.text.now)

pub returns-in_default-clause-ascii : goal.returns-in_default-clause-ascii
unfolding token_length
returns-in_default-clause-ascii c =
    let value : c.mark_length.result ≡ token_length c.args.text.now = grind (arith, common_steps) in
    subst (λ n. IsAsciiUpTo n c.args.text.now) (sym value) (token_length-ascii c.args.text.now)
