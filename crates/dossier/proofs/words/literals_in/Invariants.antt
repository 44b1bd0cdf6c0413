use Rattle.std.proofs.Common.{◌≡◌}
use Rattle.dossier.specs.Words.{read_literal}
use Rattle.dossier.proofs.Spelling.{behind, from}
use Rattle.dossier.proofs.words.literals_in.Given as goal

-- what was read so far, with what the other words say behind it
abbrev pub invariant-loop-word : goal.invariant-loop-word
invariant-loop-word l =
    from (λ word. word.now) read_literal l.words 0 ≡ behind l.clause.items (from (λ word. word.now) read_literal l.words l.word-index)
