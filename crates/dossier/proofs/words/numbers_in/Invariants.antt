use Rattle.std.proofs.Common.{◌≡◌}
use Rattle.dossier.specs.Words.{read_number}
use Rattle.dossier.proofs.Spelling.{behind, from}
use Rattle.dossier.proofs.words.numbers_in.Given as goal

-- what was read so far, with what the other words say behind it
abbrev pub invariant-loop-word : goal.invariant-loop-word
invariant-loop-word l =
    from (λ word. word.now) read_number l.words 0 ≡ behind l.chain.items (from (λ word. word.now) read_number l.words l.word-index)
