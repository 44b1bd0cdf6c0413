use Rattle.std.proofs.lemmas.Str.{IsUtf8-from_ascii}
use Rattle.line_protocol.proofs.Blanks.{printable_are_ascii}
use Rattle.line_protocol.proofs.words.printable_text.Goals as goal

pub unreachable-requires : goal.unreachable-requires
unreachable-requires c = c.in-Err.ensures.cases.0 (IsUtf8-from_ascii c.args.bytes.now (printable_are_ascii c.args.bytes.now c.requires))
