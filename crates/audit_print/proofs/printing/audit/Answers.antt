use Rattle.std.proofs.Common.{◌++◌, string_bytes, sym, ap, subst, ◌∙◌}
use Rattle.std.specs.List.{flat_map}
use Rattle.outside.specs.Streams.{AppendsPart}
use Rattle.std.proofs.lemmas.List.Folds.{flat_map-map}
use Rattle.audit_print.proofs.printing.audit.Goals as goal

pub returns-in-Ok-write_parts-clause-whole : goal.returns-in-Ok-write_parts-clause-whole
returns-in-Ok-write_parts-clause-whole g c = λ told.
    let made = c.in-Ok.ensures in
    let text = ap (flat_map string_bytes) c.deref.ensures.value ∙ sym (flat_map-map (λ line. line) string_bytes c.in-Ok.lines.items)
    ∙ ap (flat_map (λ line. line)) made.2 in
    (made.0, made.1, c.in-Ok-write_parts.ensures.all told ∙ ap (λ l. g.K.Sink.written c.args.sink.now ++ l) text)

pub returns-clause-part : goal.returns-clause-part
returns-clause-part g c = λ told _.
    let made = c.in-Ok.ensures in
    let text = ap (flat_map string_bytes) c.deref.ensures.value ∙ sym (flat_map-map (λ line. line) string_bytes c.in-Ok.lines.items)
    ∙ ap (flat_map (λ line. line)) made.2 in
    (made.0, made.1, subst (AppendsPart (g.K.Sink.written c.args.sink.now) (g.K.Sink.written c.write_parts.new.sink)) text (c.in-Err.ensures.part told))
