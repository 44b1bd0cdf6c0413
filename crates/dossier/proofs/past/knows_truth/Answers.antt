use Rattle.std.proofs.Common.{map, sym, ap, ◌∙◌}
use Rattle.std.specs.List.{list_all}
use Rattle.cqe_base.specs.Formula.{formula_of, is_sentence_of}
use Rattle.cqe_base.specs.Truth.{true_in}
use Rattle.cqe_base.specs.History.{profile_of}
use Rattle.cqe_base.proofs.Truths.{and_first}
use Rattle.dossier.proofs.Truths.{knows-all}
use Rattle.dossier.proofs.past.knows_truth.Goals as goal

pub all_true-requires : goal.all_true-requires
all_true-requires c =
    ap (λ sentences. list_all (is_sentence_of c.args.schema.now) (map formula_of sentences)) c.as_slice.ensures.value ∙ and_first _ _ c.requires

pub returns : goal.returns
returns c =
    c.all_true.ensures
    ∙ ap (λ sentences. list_all (true_in c.args.schema.now c.args.world.now) (map formula_of sentences)) c.as_slice.ensures.value
    ∙ sym (knows-all c.args.schema.now c.args.world.now (profile_of c.args.user.now))
