use Rattle.case_engine.proofs.Soundness.{sound_method}
use Rattle.case_engine.proofs.script.Script.choose_method.Goals as goal

pub invariant_of-self : goal.invariant_of-self
invariant_of-self c = record { sound = sound_method _ _ _ c.args.method c.args.self.now.sound c.law_views_without_entries.ensures }
