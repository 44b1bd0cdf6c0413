use Rattle.std.proofs.Common.{◌∷◌, ◌++◌, [], ap, ◌∙◌, is_ok}
use Rattle.batch_engine.specs.BatchLines.{NamedAsk, asked}
use Rattle.batch_engine.specs.Said.{is_short_ask}
use Rattle.batch_engine.specs.Callers.{caller_in}
use Rattle.batch_engine.specs.Batches.{items_in}
use Rattle.batch_engine.proofs.Batches.{ask_more, short_pushed}
use Rattle.batch_engine.proofs.batch.Batch.push_ask.Goals as goal

-- all asks are short, also where there was no memory for one more
pub invariant_of-self : goal.invariant_of-self
invariant_of-self c = record {
  short = short_pushed c.args.self.now.ended.items c.args.self.now.last.items c.push.new.self.items _ (is_ok c.push.result) c.push.ensures.items
      c.args.self.now.short
      (ap is_short_ask
      (λ i. record { name = c.in_ok-name.ensures.ok i; caller = caller_in c.args.ask.caller; text = c.in_ok-text.ensures.ok i })
      ∙ c.requires);
}

-- the last stretch has one ask more, which is the one that was said
pub returns : goal.returns
returns c =
    ask_more c.args.self.now.ended.items c.args.self.now.last.items c.push.new.self.items _ c.in_ok-push.ensures.items
    ∙ ap (λ (a : NamedAsk). items_in c.args.self.now.ended.items c.args.self.now.last.items ++ asked a ∷ [])
    (λ i. record { name = c.in_ok-name.ensures.ok i; caller = caller_in c.args.ask.caller; text = c.in_ok-text.ensures.ok i })
