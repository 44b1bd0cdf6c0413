use Rattle.std.proofs.Common.{◌≡◌, ◌<◌, ◌-◌, [], length, take, drop, ap, ◌∙◌, arith}
use Rattle.std.proofs.lemmas.List.{append-nil}
use Rattle.line_protocol.specs.Buffer.{BufferedLine}
use Rattle.line_protocol.proofs.FirstLine.{takes_at, takes_last}
use Rattle.line_protocol.proofs.Windows.{length-part, empty_part}
use Rattle.line_protocol.proofs.lines.LineBuffer.last_line.Goals as goal

pub returns-clause-reads : goal.returns-clause-reads
returns-clause-reads c =
    let inside = c.self.inside in
    let held : take (inside.end - inside.start) (drop inside.start inside.bytes) ≡ c.args.self.now.ahead = ap (λ (b : BufferedLine). b.ahead) c.self.view_is in
    let size : length (take (inside.end - inside.start) (drop inside.start inside.bytes)) ≡ inside.end - inside.start =
    length-part inside.bytes inside.start inside.end (omega arith) (omega arith) in
    let some : 0 < length c.args.self.now.ahead = omega (arith, ap length held, size) in
    takes_at c.args.self.now.ahead _ [] _ c.args.self.now.ahead _
    (takes_last c.args.self.now.ahead c.requires.no_feed some c.requires.fits)
    (append-nil c.args.self.now.ahead)
    (append-nil (take (inside.end - inside.end) (drop inside.end inside.bytes)) ∙ empty_part (drop inside.end inside.bytes) inside.end)
    held
