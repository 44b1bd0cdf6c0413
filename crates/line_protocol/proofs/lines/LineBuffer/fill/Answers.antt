use Rattle.std.proofs.Common.{◌≡◌, ◌+◌, ◌-◌, ◌++◌, List, ℕ, length, take, drop, ap, sym, subst, ◌∙◌, arith, append_assoc}
use Rattle.std.specs.List.{copy_within}
use Rattle.std.proofs.lemmas.List.{take-append-drop}
use Rattle.outside.specs.Streams.{Moves}
use Rattle.line_protocol.specs.Buffer.{BufferedLine}
use Rattle.line_protocol.specs.Rests.{EndsWith, IsRest}
use Rattle.line_protocol.proofs.Windows.{length-part, moved_to_front, part_filled}
use Rattle.line_protocol.proofs.lines.LineBuffer.fill.Goals as goal

-- a piece that was taken leaves the rest
rest_taken : (n : ℕ) (left left' piece piece' : List ℕ) → Moves n left left' piece piece' → IsRest left left'
rest_taken n left left' piece piece' moves = λ bytes ends. record {
  front = ends.front ++ take n left;
  whole = ends.whole ∙ ap (λ (l : List ℕ). ends.front ++ l) (sym (take-append-drop n left)) ∙ sym (append_assoc ends.front (take n left) (drop n left))
      ∙ ap (λ (l : List ℕ). (ends.front ++ take n left) ++ l) (sym moves.rest);
}

pub returns-clause-unread : goal.returns-clause-unread
returns-clause-unread g c told =
    let inside = c.self.inside in
    let bytes : List ℕ = inside.bytes in
    let part : ℕ = inside.end - inside.start in
    let n : ℕ = c.in_ok-count.count in
    let moved : List ℕ = c.copy_within.new.self in
    let held : take part (drop inside.start bytes) ≡ c.args.self.now.ahead = ap (λ (b : BufferedLine). b.ahead) c.self.view_is in
    let size : length (take part (drop inside.start bytes)) ≡ part = length-part bytes inside.start inside.end (omega arith) (omega arith) in
    let after : moved ≡ copy_within bytes inside.start inside.end 0 = c.copy_within.ensures.after in
    let front : take part moved ≡ take part (drop inside.start bytes) =
    ap (λ (l : List ℕ). take part l) {y = copy_within bytes inside.start inside.end 0} after
    ∙ moved_to_front bytes inside.start inside.end (omega arith) (omega arith) in
    let whole : part + n - 0 ≡ length (take part moved) + n = omega (arith, ap length front, size) in
    rw whole
    (part_filled (take part moved) _ _ _ _ _ n (c.in_ok-count.ensures.moved told)
    ∙ ap (λ (l : List ℕ). l ++ g.S.Source.left c.args.source.now) (front ∙ held))

pub returns-clause-left : goal.returns-clause-left
returns-clause-left g c told = rest_taken _ _ _ _ _ (c.in_ok-count.ensures.moved told)

pub returns-in_err-count-clause-left : goal.returns-in_err-count-clause-left
returns-in_err-count-clause-left g c told = λ bytes ends. subst (EndsWith bytes) (sym (c.in_err-count.ensures.still_left told)) ends
