use Rattle.std.proofs.Common.{◌≡◌, ◌≤◌, ◌++◌, inl, inr, ℕ, List, length, sym, ap, subst, ◌∙◌, arith}
use Rattle.standby_core.specs.Frames.{ShowsTail, GoesOn}
use Rattle.standby_core.proofs.Framing.{badly_named, short_of_fields}
use Rattle.standby_core.proofs.frame.judge_fields.Goals as goal

pub returns-then-named-lt1 : goal.returns-then-named-lt1
returns-then-named-lt1 c = badly_named c.args.named c.args.bytes.now (inl c.if-named-lt1.true)

pub returns-then-named-gt-NAME : goal.returns-then-named-gt-NAME
returns-then-named-gt-NAME c = badly_named c.args.named c.args.bytes.now (inr c.if-named-gt-NAME.true)

pub returns-then-length-start : goal.returns-then-length-start
returns-then-length-start c =
    let few : c.args.named ≤ 32 = omega (arith, c.if-named-gt-NAME.false) in
    short_of_fields c.args.named c.args.bytes.now few (omega (arith, c.if-length-start.true))

pub judge_record-requires-clause-fields : goal.judge_record-requires-clause-fields
judge_record-requires-clause-fields c = c.split_at-2.ensures.front_len

pub judge_record-requires-clause-within : goal.judge_record-requires-clause-within
judge_record-requires-clause-within c one goes =
    let bytes = c.args.bytes.now in
    let named = c.args.named in
    let name = c.split_at.result.0.now in
    let whole : name ++ (c.split_at-2.result.0.now ++ c.split_at-2.result.1.now) ≡ bytes =
    ap (λ (l : List ℕ). name ++ l) (sym c.split_at-2.ensures.by_index.0) ∙ sym c.split_at.ensures.by_index.0 in
    let goes_on : GoesOn named bytes one =
    subst (λ (n : ℕ). GoesOn n bytes one) c.split_at.ensures.front_len (subst (λ (l : List ℕ). GoesOn (length name) l one) whole goes) in
    omega (
      arith,
      c.requires one goes_on,
      c.split_at.ensures.front_len,
      c.split_at.ensures.back_len,
      c.split_at-2.ensures.back_len,
    )

pub returns : goal.returns
returns c =
    let bytes = c.args.bytes.now in
    let name = c.split_at.result.0.now in
    let whole : name ++ (c.split_at-2.result.0.now ++ c.split_at-2.result.1.now) ≡ bytes =
    ap (λ (l : List ℕ). name ++ l) (sym c.split_at-2.ensures.by_index.0) ∙ sym c.split_at.ensures.by_index.0 in
    subst (λ (n : ℕ). ShowsTail n bytes c.judge_record.result) c.split_at.ensures.front_len
    (subst (λ (l : List ℕ). ShowsTail (length name) l c.judge_record.result) whole c.judge_record.ensures)
