use Rattle.std.proofs.Common.{List, ℕ, ◌++◌, sym, ap, subst, ◌∙◌}
use Rattle.line_protocol.specs.Rests.{EndsWith}
use Rattle.dossier_engine.proofs.Reading.{rest_taken, through}
use Rattle.dossier_engine.proofs.input.take_through.Goals as goal

pub returns-in-Ok-extend_from_slice-clause-moved : goal.returns-in-Ok-extend_from_slice-clause-moved
returns-in-Ok-extend_from_slice-clause-moved g c = λ told.
    ap (λ (l : List ℕ). l ++ g.S.Source.left c.take.new.self) c.in-Ok-extend_from_slice.ensures.items
    ∙ through c.args.bytes.now.items (g.S.Source.left c.args.source.now) (g.S.Source.left c.take.new.self) c.args.window.now c.take.new.into c.in-Ok.count
    (c.in-Ok.ensures.moved told)

pub returns-in-Ok-extend_from_slice-clause-left : goal.returns-in-Ok-extend_from_slice-clause-left
returns-in-Ok-extend_from_slice-clause-left g c = λ told. rest_taken _ _ _ _ _ (c.in-Ok.ensures.moved told)

pub returns-in-Err-extend_from_slice-clause-left : goal.returns-in-Err-extend_from_slice-clause-left
returns-in-Err-extend_from_slice-clause-left g c = λ told. rest_taken _ _ _ _ _ (c.in-Ok.ensures.moved told)

pub returns-in-Err-clause-left : goal.returns-in-Err-clause-left
returns-in-Err-clause-left g c = λ told bytes ends. subst (EndsWith bytes) (sym (c.in-Err.ensures.still_left told)) ends
