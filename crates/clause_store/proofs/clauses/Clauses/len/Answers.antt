use Rattle.std.proofs.Common.{sym, ◌∙◌}
use Rattle.clause_store.proofs.Parts.{length-view}
use Rattle.clause_store.proofs.clauses.Clauses.len.Goals as goal

pub returns : goal.returns
returns c = c.len.ensures ∙ c.self.inside.ends.ok.0 ∙ sym (length-view c.self.inside _ c.self.view_is)
