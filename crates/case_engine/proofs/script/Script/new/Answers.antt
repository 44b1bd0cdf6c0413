use Rattle.std.proofs.Common.{◌∙◌}
use Rattle.case_engine.proofs.Soundness.{sound_nothing}
use Rattle.case_engine.proofs.Nothing.{nothing_said, no_declarations}
use Rattle.case_engine.proofs.script.Script.new.Goals as goal

pub invariant_of-result : goal.invariant_of-result
invariant_of-result c =
    let accepted = c.in_ok-schema.ensures.accepted in
    let none = no_declarations _ _ c.new.ensures.items c.new-2.ensures.items in
    record {
      sound = sound_nothing _ _
          (nothing_said _ _ _ _ _ _ _ c.new-3.ensures.items c.new-4.ensures.items c.new-5.ensures c.new-6.ensures.items c.new-7.ensures.items
          c.new-8.ensures.items c.new-9.ensures.items)
          (accepted.1 ∙ none.0) (none.1 accepted.0) c.law_views_without_entries.ensures;
    }
