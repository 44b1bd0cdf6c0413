use Rattle.std.proofs.Common.{◌≡◌, ℕ, ◌+◌, take, sym, ap, ◌∙◌, arith}
use Rattle.std.specs.Prelude.{bytes_eq, if◌then◌else◌}
use Rattle.std.proofs.lemmas.List.{take_all}
use Rattle.desk_crew.proofs.Taken.{map_more}
use Rattle.batch_engine.specs.Answers.{asks_of}
use Rattle.batch_engine.specs.Batches.{ask_in, asks_in}
use Rattle.batch_engine.proofs.Posts.{asks_of-push}
use Rattle.batch_engine.proofs.post.asks_of.Goals as goal
use Rattle.batch_engine.proofs.post.asks_of.Goals.{then-eq, else-eq, After-eq}

-- the asks of this name among one more
more : (c : After-eq) → asks_of c.args.name.now (asks_in (take (c.loop-ask.ask-index + 1) c.args.asks.now))
    ≡ asks_of c.args.name.now (asks_in (take c.loop-ask.ask-index c.args.asks.now)) + (if c.eq.result then 1 else 0)
more c =
    ap (asks_of c.args.name.now) (map_more ask_in c.args.asks.now c.loop-ask.ask-index c.ask-item.result c.loop-ask-test.true c.ask-item.is)
    ∙ asks_of-push c.args.name.now (asks_in (take c.loop-ask.ask-index c.args.asks.now)) (ask_in c.ask-item.result)
    ∙ ap (λ b. asks_of c.args.name.now (asks_in (take c.loop-ask.ask-index c.args.asks.now)) + (if b then 1 else 0))
    (ap (bytes_eq c.args.name.now) (sym c.as_str.ensures.value) ∙ sym c.eq.ensures)

pub loop-ask-preserved : goal.loop-ask-preserved
loop-ask-preserved c =
    let so_far = c.loop-ask.invariant.so_far in
    let few = c.loop-ask.invariant.few in
    let grown = more (goal.at.loop-ask-preserved c).After-eq in
    elim c.if-eq.branch [
      | then-eq w ↦
          let count = w.count-is in
          let one = ap {B = ℕ} (λ b. if b then 1 else 0) w.if-eq.true in
          record { so_far = omega (arith, so_far, grown, one, count); few = omega (arith, few, count) }
      | else-eq w ↦
          let count = w.count-is in
          let none = ap {B = ℕ} (λ b. if b then 1 else 0) w.if-eq.false in
          record { so_far = omega (arith, so_far, grown, none, count); few = omega (arith, few, count) }
    ]

pub returns : goal.returns
returns c =
    c.loop-ask.invariant.so_far
    ∙ ap (λ l. asks_of c.args.name.now (asks_in l)) (take_all c.loop-ask.ask-index c.args.asks.now (omega (arith, c.loop-ask-test.false)))
