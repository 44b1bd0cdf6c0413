use Rattle.std.proofs.Common.{◌≡◌, ◌++◌}
use Rattle.cqe_base.specs.Tokens.{tokens, end_of_tokens}
use Rattle.sentence_text.specs.Upcoming.{upcoming_tokens, upcoming_end}
use Rattle.case_engine.specs.Memory.{tokens_in}
use Rattle.case_engine.proofs.declaration.whole_tokens.Given as goal

-- the tokens so far, and those to come
abbrev pub invariant-loop-token : goal.invariant-loop-token
invariant-loop-token l = record {
  tokens : tokens_in l.all ++ upcoming_tokens l.coming ≡ tokens l.text;
  tokens_end : upcoming_end l.coming ≡ end_of_tokens l.text;
}
