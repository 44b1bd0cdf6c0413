use Rattle.std.proofs.Common.{◌≡◌, ◌<◌, ◌^◌, ◌++◌, inl, inr, ℕ, List, length, drop, get_or, sym, ap, subst, ◌∙◌, arith, rules, refl}
use Rattle.std.proofs.lemmas.List.{take_rest}
use Rattle.std.specs.Int.{w16, to_be_bytes, from_be_bytes}
use Rattle.standby_core.specs.Frames.{IsCarried, tail_bytes}
use Rattle.standby_core.proofs.Framing.{bad_name, bad_kind, bad_size, bad_text, short_of_text, whole_tail}
use Rattle.standby_core.proofs.frame.judge_record.Goals as goal

pub returns-in_default : goal.returns-in_default
returns-in_default c = bad_name c.args.name.now c.args.fields.now c.args.text.now c.requires.fields c.in_default.ensures.cases.0

pub returns-then-kind-lt1 : goal.returns-then-kind-lt1
returns-then-kind-lt1 c =
    bad_kind c.args.name.now c.args.fields.now c.args.text.now c.requires.fields (inl (omega (arith, c.if-kind-lt1.true)))

pub returns-then-kind-gt-KINDS : goal.returns-then-kind-gt-KINDS
returns-then-kind-gt-KINDS c =
    bad_kind c.args.name.now c.args.fields.now c.args.text.now c.requires.fields (inr (omega (arith, c.if-kind-gt-KINDS.true)))

pub returns-then-size-gt-TEXT : goal.returns-then-size-gt-TEXT
returns-then-size-gt-TEXT c =
    let is : c.size_in-size.result ≡ from_be_bytes w16 (drop 9 c.args.fields.now) =
    c.size_in-size.ensures.size ∙ ap (λ (l : List ℕ). from_be_bytes w16 l) (take_rest c.args.fields.now 9) in
    bad_size c.args.name.now c.args.fields.now c.args.text.now c.requires.fields c.size_in-size.result is c.if-size-gt-TEXT.true

pub returns-then-length-size : goal.returns-then-length-size
returns-then-length-size c =
    let is : c.size_in-size.result ≡ from_be_bytes w16 (drop 9 c.args.fields.now) =
    c.size_in-size.ensures.size ∙ ap (λ (l : List ℕ). from_be_bytes w16 l) (take_rest c.args.fields.now 9) in
    bad_text c.args.name.now c.args.fields.now c.args.text.now c.requires.fields c.size_in-size.result is c.requires.within
    (omega (arith, c.if-length-size.true))

pub returns-then-length-size-2 : goal.returns-then-length-size-2
returns-then-length-size-2 c =
    let is : c.size_in-size.result ≡ from_be_bytes w16 (drop 9 c.args.fields.now) =
    c.size_in-size.ensures.size ∙ ap (λ (l : List ℕ). from_be_bytes w16 l) (take_rest c.args.fields.now 9) in
    let shows = short_of_text c.args.name.now c.args.fields.now c.args.text.now c.requires.fields c.size_in-size.result is c.requires.few
    (omega (arith, c.if-size-gt-TEXT.false)) (omega (arith, c.if-length-size-2.true)) in
    (omega (arith, shows.0), omega (arith, shows.1), λ one goes. omega (arith, shows.2 one goes))

-- the record whole
pub returns : goal.returns
returns c =
    let name = c.args.name.now in
    let fields = c.args.fields.now in
    let text = c.args.text.now in
    let user : c.in-Ok.user.now ≡ name = c.in-Ok.ensures.cases.0 in
    let size : length text ≡ c.size_in-size.result = omega (arith, c.if-length-size.false, c.if-length-size-2.false) in
    let bytes : to_be_bytes w16 (length text) ≡ drop 9 fields =
    ap (λ (n : ℕ). to_be_bytes w16 n) size ∙ c.size_in-size.ensures.bytes ∙ take_rest fields 9 in
    let number : c.number_in-number.result < 2 ^ 64 = search rules in
    let whole = whole_tail name fields text c.requires.fields c.number_in-number.result (get_or fields 8 0) c.number_in-number.ensures refl bytes in
    let carried : IsCarried (record { name = name; number = c.number_in-number.result; kind = get_or fields 8 0; text = text }) = record {
      named = c.requires.some;
      name_short = c.requires.few;
      name_utf8 = c.in-Ok.ensures.cases.1;
      numbered = number;
      kind_from = omega (arith, c.if-kind-lt1.false);
      kind_to = omega (arith, c.if-kind-gt-KINDS.false);
      short = omega (arith, size, c.if-size-gt-TEXT.false);
    } in
    subst (λ (u : List ℕ). IsCarried (record { name = u; number = c.number_in-number.result; kind = get_or fields 8 0; text = text })
    × (length u ≡ length name)
    × (name ++ (fields ++ text) ≡ tail_bytes (record { name = u; number = c.number_in-number.result; kind = get_or fields 8 0; text = text })))
    (sym user) (carried, refl, whole)
