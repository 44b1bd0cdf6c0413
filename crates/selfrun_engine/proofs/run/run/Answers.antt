use Rattle.std.proofs.Common.{◌∙◌, ap, arith}
use Rattle.outside.specs.MemoryStreams.{sink_written}
use Rattle.selfrun_engine.specs.Counting.{tally_in}
use Rattle.selfrun_engine.proofs.Workloads.{names_differ, tallied}
use Rattle.selfrun_engine.proofs.run.run.Goals as goal

pub answers-requires-clause-names : goal.answers-requires-clause-names
answers-requires-clause-names g c κs within = names_differ c.in-Ok.policy c.in-Ok.ensures.kept

pub returns : goal.returns
returns g c =
    let made = c.in_ok-made in
    tallied c.args.seed c.args.users c.args.asks
    (omega (arith, c.requires.some_user)) c.in-Ok.policy c.in-Ok-read_facts.world made.made.policy.items c.deref.result.now made.made.facts.items
    c.deref-2.result.now made.made.script.items
    (sink_written c.in_ok-output.output) c.tally_in.result c.deref.ensures.value made.ensures.policy c.in-Ok.ensures.read c.deref-2.ensures.value
    made.ensures.read c.in-Ok-read_facts.ensures.read
    made.ensures.asks (c.tally_in.ensures ∙ ap tally_in c.bytes.ensures) c.in_ok-output.ensures
