use Rattle.std.proofs.Common.{◌≡◌, ◌<◌, ◌≤◌, ◌+◌, ◌-◌, ◌++◌, List, ℕ, length, take, drop, ap, ◌∙◌, sym, refl, arith, length-take}
use Rattle.std.proofs.lemmas.List.{take-take, take-append-le, drop-append-le}
use Rattle.cqe_base.specs.Lines.{without_return}
use Rattle.line_protocol.specs.Buffer.{BufferedLine}
use Rattle.line_protocol.proofs.FirstLine.{takes_at, takes_first, feed_before, too_long}
use Rattle.line_protocol.proofs.Windows.{length-part, drop-part}
use Rattle.line_protocol.proofs.lines.LineBuffer.first_line.Goals as goal

pub returns-then-at-gt-LINE-clause-reads : goal.returns-then-at-gt-LINE-clause-reads
returns-then-at-gt-LINE-clause-reads c left =
    let within : c.args.at < length c.args.self.now.ahead = c.requires.feed.within in
    (too_long c.args.self.now.ahead left c.args.at (omega arith) c.requires.feed.first c.if-at-gt-LINE.true, refl, c.requires.no_line)

pub returns-clause-reads : goal.returns-clause-reads
returns-clause-reads c left =
    let inside = c.self.inside in
    let at = c.args.at in
    let ahead = c.args.self.now.ahead in
    let n = c.content_length-length.result in
    let within : at < length ahead = c.requires.feed.within in
    let held : take (inside.end - inside.start) (drop inside.start inside.bytes) ≡ ahead = ap (λ (b : BufferedLine). b.ahead) c.self.view_is in
    let size : length (take (inside.end - inside.start) (drop inside.start inside.bytes)) ≡ inside.end - inside.start =
    length-part inside.bytes inside.start inside.end (omega arith) (omega arith) in
    let room : at + 1 ≤ inside.end - inside.start = omega (arith, ap length held, size) in
    let short : n ≤ at = omega (arith, c.content_length-length.ensures.short, length-take at c.ahead.result.now) in
    let whole : inside.start + n - inside.start ≡ n = omega arith in
    let line : take (inside.start + n - inside.start) (drop inside.start inside.bytes) ≡ without_return (take at ahead) =
    ap (λ (k : ℕ). take k (drop inside.start inside.bytes)) whole ∙ sym (take-take n (inside.end - inside.start) (drop inside.start inside.bytes) (omega arith))
    ∙ ap (λ (l : List ℕ). take n l) held
    ∙ sym (take-take n at ahead short)
    ∙ ap (λ (l : List ℕ). take n (take at l)) (sym c.ahead.ensures.ahead)
    ∙ c.content_length-length.ensures.content
    ∙ ap (λ (l : List ℕ). without_return (take at l)) c.ahead.ensures.ahead in
    takes_at (ahead ++ left) _ (drop (at + 1) (ahead ++ left)) _ (without_return (take at (ahead ++ left))) _
    (takes_first (ahead ++ left) at (feed_before ahead left at c.requires.feed) c.if-at-gt-LINE.false)
    refl
    (ap (λ (l : List ℕ). l ++ left) (sym (drop-part inside.bytes inside.start inside.end (at + 1) (omega arith)) ∙ ap (λ (l : List ℕ). drop (at + 1) l) held)
    ∙ sym (drop-append-le (at + 1) ahead left (omega arith)))
    (line ∙ ap without_return (sym (take-append-le at ahead left (omega arith))))
