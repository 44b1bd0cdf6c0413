use Rattle.std.proofs.Common.{◌≡◌, [], drop, length, map}
use Rattle.toml.specs.View.{view}
use Rattle.cqe_base.specs.Formula.{formula_of}
use Rattle.policy_files.specs.Users.{sentences_behind}
use Rattle.policy_files.proofs.text.read_sentences.Given as goal

-- each text so far is a sentence, and the texts that are left are read behind them
abbrev pub invariant-loop-text : goal.invariant-loop-text
invariant-loop-text l =
    (length l.read.items ≡ l.text-index)
    × (sentences_behind l.schema l.user l.key l.most (map formula_of l.read.items) (map view (drop l.text-index l.texts))
    ≡ sentences_behind l.schema l.user l.key l.most [] (map view l.texts))
