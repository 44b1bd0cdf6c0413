use Rattle.std.proofs.Common.{◌≤◌, ℕ, List, length, get_or, sym, ◌∙◌, subst, arith}
use Rattle.std.proofs.lemmas.List.{take_rest}
use Rattle.standby_core.specs.Frames.{ShowsTail, GoesOn, tail_bytes}
use Rattle.standby_core.proofs.Framing.{unmarked, of_other, short_of_head, tail_within, tail_shows}
use Rattle.standby_core.proofs.frame.judge.Goals as goal

pub returns-then-not-is_marked : goal.returns-then-not-is_marked
returns-then-not-is_marked c = unmarked c.args.header.now c.args.bytes.now (sym c.is_marked.ensures ∙ c.if-not-is_marked.true)

pub returns-then-not-has_header : goal.returns-then-not-has_header
returns-then-not-has_header c =
    of_other c.args.header.now c.args.bytes.now (sym c.is_marked.ensures ∙ c.if-not-is_marked.false)
    (sym c.has_header.ensures.same ∙ c.if-not-has_header.true)

pub returns-then-length-lt-HEAD : goal.returns-then-length-lt-HEAD
returns-then-length-lt-HEAD c =
    short_of_head c.args.header.now c.has_header.ensures.policy c.has_header.ensures.facts c.args.bytes.now
    (sym c.has_header.ensures.same ∙ c.if-not-has_header.false) (omega (arith, c.if-length-lt-HEAD.true))

-- the head is there: what stands behind it
pub judge_fields-requires : goal.judge_fields-requires
judge_fields-requires c one goes =
    let bytes = c.args.bytes.now in
    let long : 73 ≤ length bytes = omega (arith, c.if-length-lt-HEAD.false) in
    let tail = take_rest bytes 73 in
    subst (λ (t : List ℕ). length t ≤ length (tail_bytes one)) (sym tail)
    (tail_within c.args.header.now c.has_header.ensures.policy c.has_header.ensures.facts bytes (sym c.is_marked.ensures ∙ c.if-not-is_marked.false)
    (sym c.has_header.ensures.same ∙ c.if-not-has_header.false) long c.requires one (subst (λ (t : List ℕ). GoesOn (get_or bytes 72 0) t one) tail goes))

pub returns : goal.returns
returns c =
    let bytes = c.args.bytes.now in
    let long : 73 ≤ length bytes = omega (arith, c.if-length-lt-HEAD.false) in
    tail_shows c.args.header.now c.has_header.ensures.policy c.has_header.ensures.facts bytes (sym c.is_marked.ensures ∙ c.if-not-is_marked.false)
    (sym c.has_header.ensures.same ∙ c.if-not-has_header.false) long c.judge_fields.result
    (subst (λ (t : List ℕ). ShowsTail (get_or bytes 72 0) t c.judge_fields.result) (take_rest bytes 73) c.judge_fields.ensures)
