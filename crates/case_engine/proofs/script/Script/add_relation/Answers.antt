use Rattle.std.proofs.Common.{arith}
use Rattle.std.proofs.lemmas.Grind.{common_steps}
use Rattle.cqe_base.specs.Memory.{declaration_of}
use Rattle.case_engine.proofs.Soundness.{sound_relation}
use Rattle.case_engine.proofs.script.Script.add_relation.Goals as goal

pub invariant_of-self-2 : goal.invariant_of-self-2
invariant_of-self-2 c = record {
  sound = sound_relation _ _ _ _ (declaration_of c.args.declared) _ _ _ c.args.self.now.sound (grind (arith, common_steps))
      (grind (arith, common_steps, c.in_ok-domains.ensures))
      (grind (arith, common_steps, c.in_ok-relations.ensures)) c.in_ok-schema.ensures.accepted.0 c.in_ok-schema.ensures.accepted.1
      c.law_views_without_entries.ensures;
}
