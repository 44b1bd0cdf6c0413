use Rattle.std.proofs.Common.{sym, ap, ◌∙◌, ◌==◌}
use Rattle.clause_store.proofs.Parts.{length-view}
use Rattle.clause_store.proofs.clauses.Clauses.is_empty.Goals as goal

pub returns : goal.returns
returns c = c.is_empty.ensures ∙ ap (λ n. n == 0) (c.self.inside.ends.ok.0 ∙ sym (length-view c.self.inside _ c.self.view_is))
