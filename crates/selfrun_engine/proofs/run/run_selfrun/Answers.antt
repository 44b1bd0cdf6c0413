use Rattle.std.proofs.Common.{◌∙◌, ◌++◌, ap, subst, string_bytes}
use Rattle.std.specs.List.{flat_map}
use Rattle.outside.specs.Streams.{AppendsPart}
use Rattle.selfrun_engine.specs.Tallies.{summary_lines}
use Rattle.selfrun_engine.proofs.Workloads.{texts_are}
use Rattle.selfrun_engine.proofs.run.run_selfrun.Goals as goal

pub returns-in-Ok-write_parts-clause-ends : goal.returns-in-Ok-write_parts-clause-ends
returns-in-Ok-write_parts-clause-ends g c = λ told.
    let tally = c.in-Ok.tally in
    let text = ap (flat_map string_bytes) c.deref.ensures.value
    ∙ texts_are c.in-Ok-summary_lines.lines.items (summary_lines c.args.seed c.args.users c.args.asks tally) c.in-Ok-summary_lines.ensures in
    (tally, c.in-Ok.ensures, c.in-Ok-write_parts.ensures.all told ∙ ap (λ l. g.K.Sink.written c.args.sink.now ++ l) text)

pub returns-clause-ends : goal.returns-clause-ends
returns-clause-ends g c = λ told.
    let tally = c.in-Ok.tally in
    let text = ap (flat_map string_bytes) c.deref.ensures.value
    ∙ texts_are c.in-Ok-summary_lines.lines.items (summary_lines c.args.seed c.args.users c.args.asks tally) c.in-Ok-summary_lines.ensures in
    (tally, c.in-Ok.ensures, subst (AppendsPart (g.K.Sink.written c.args.sink.now) (g.K.Sink.written c.write_parts.new.sink)) text (c.in-Err.ensures.part told))
