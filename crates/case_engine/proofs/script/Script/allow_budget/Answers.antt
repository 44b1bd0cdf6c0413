use Rattle.std.proofs.Common.{arith}
use Rattle.case_engine.proofs.Soundness.{sound_budget}
use Rattle.case_engine.proofs.script.Script.allow_budget.Goals as goal

pub invariant_of-self : goal.invariant_of-self
invariant_of-self c = record { sound = sound_budget _ _ _ c.args.budget c.args.self.now.sound (omega arith) (omega arith) c.law_views_without_entries.ensures }
