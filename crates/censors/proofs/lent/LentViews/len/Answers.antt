use Rattle.std.proofs.Common.{◌∙◌, length, ap}
use Rattle.entailment.specs.Views.{LogView, log_of}
use Rattle.censors.proofs.lent.LentViews.len.Goals as goal

pub returns : goal.returns
returns c = c.len_of.ensures ∙ ap (λ (w : LogView). length (log_of w)) c.self.view_is
