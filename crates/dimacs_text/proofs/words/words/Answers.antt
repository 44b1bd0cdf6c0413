use Rattle.std.proofs.Common.{rules, ◌==◌, length}
use Rattle.std.specs.Prelude.{not}
use Rattle.std.proofs.lemmas.Iterator.Consumers.{map_from_collect, YieldsList-from_filter}
use Rattle.std.proofs.lemmas.Iterator.Splits.{YieldsList-from_slice_split}
use Rattle.cqe_base.specs.Tokens.{is_blank}
use Rattle.dimacs_text.proofs.words.words.Goals as goal

pub returns : goal.returns
returns c =
    map_from_collect _ c.collect.ensures.ran
    (YieldsList-from_filter _ (λ piece. not (length piece == 0))
    (YieldsList-from_slice_split _ is_blank c.args.line.now (search rules) (search rules) (search rules) (λ x b q h. search rules))
    (search rules) (λ x b q h. search rules))
