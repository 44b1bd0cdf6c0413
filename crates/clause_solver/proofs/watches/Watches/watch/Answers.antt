use Rattle.std.proofs.Common.{◌∙◌, ap, ◌++◌, ◌∷◌, []}
use Rattle.clause_solver.proofs.Looks.{note_map}
use Rattle.clause_store.specs.Codes.{code_of}
use Rattle.clause_solver.proofs.watches.Watches.watch.Goals as goal

pub returns-clause-lists : goal.returns-clause-lists
returns-clause-lists c =
    note_map (λ v. v.items) c.args.self.now.lists.items c.code.result (code_of c.args.literal) c.index_mut.result.now c.push.new.self
    (record { clause = c.args.clause; blocker = c.args.blocker }) c.requires c.code.ensures
    (c.in_ok-push.ensures.items ∙ ap (λ v. v.items ++ record { clause = c.args.clause; blocker = c.args.blocker } ∷ []) c.index_mut.ensures.value)
