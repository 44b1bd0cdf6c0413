use Rattle.std.proofs.Common.{◌≡◌, [], ◌∷◌, ◌++◌, refl, ap, ◌∙◌}
use Rattle.std.specs.Prelude.{Vec}
use Rattle.std.specs.declared.alloc.Global.{Global}
use Rattle.batch_engine.specs.BatchLines.{restarted}
use Rattle.batch_engine.specs.Batches.{items_in}
use Rattle.batch_engine.specs.declared.batch.BatchAsk.{BatchAsk}
use Rattle.batch_engine.proofs.Batches.{restart_more, short_more}
use Rattle.batch_engine.proofs.batch.Batch.push_restart.Goals as goal
use Rattle.batch_engine.proofs.batch.Batch.push_restart.Goals.{After-push_reserved}

-- the last stretch is one that ended, and nothing stands behind it
grown : (c : After-push_reserved) → items_in c.push_reserved.new.self.items c.replace-asks.new.dest.items
    ≡ items_in c.args.self.now.ended.items c.args.self.now.last.items ++ restarted ∷ []
grown c =
    ap (λ (v : Vec BatchAsk Global). items_in c.push_reserved.new.self.items v.items) c.replace-asks.ensures.after
    ∙ ap (λ l. items_in c.push_reserved.new.self.items l) c.new.ensures.items
    ∙ restart_more c.args.self.now.ended.items c.push_reserved.new.self.items c.args.self.now.last
    (c.push_reserved.ensures.items ∙ (λ i. c.in_ok-reserve.ensures.items i ++ c.replace-asks.ensures.value i ∷ []))

pub invariant_of-self-2 : goal.invariant_of-self-2
invariant_of-self-2 c = record {
  short = short_more (items_in c.args.self.now.ended.items c.args.self.now.last.items) _ restarted
      (grown (goal.at.invariant_of-self-2 c).After-push_reserved) c.args.self.now.short refl;
}

pub returns : goal.returns
returns c = grown (goal.at.returns c).After-push_reserved
