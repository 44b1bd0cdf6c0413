use Rattle.std.proofs.Common.{◌≡◌, inl, refl, sym, ap, ◌∙◌, arith}
use Rattle.standby_core.specs.Frames.{Carried, frame_bytes}
use Rattle.standby_core.specs.Mirrors.{dial_of, header_of, user_of}
use Rattle.standby_core.proofs.Calling.{calls_next, calls_maybe, greatest_next, greatest_maybe, hears_next, hears_maybe}
use Rattle.standby_core.proofs.mirror.Mirror.tell.Goals as goal

-- ---- the dial failed

pub invariant_of-self : goal.invariant_of-self
invariant_of-self g c =
    let mirror = c.args.self.now in
    let one : Carried = record { name = user_of mirror; number = c.args.number; kind = c.args.kind; text = c.args.text.now } in
    let frame : c.bytes.result.now ≡ frame_bytes (header_of mirror) one =
    c.bytes.ensures ∙ c.fill.ensures
    ∙ ap (λ n. frame_bytes (header_of mirror) (record { name = n; number = c.args.number; kind = c.args.kind; text = c.args.text.now }))
    c.as_str.ensures.value in
    record {
      answered = mirror.answered ∙ sym c.in_err-self.ensures.unanswered;
      short = mirror.short;
      calls = λ told.
          calls_maybe (g.C.Dial.address (dial_of mirror)) (g.C.Dial.address c.exchange.new.self) (header_of mirror) one c.exchange.ensures.address
          (g.C.Dial.exchanged (dial_of mirror)) (g.C.Dial.exchanged c.exchange.new.self) (mirror.calls told) _ (c.in_err-self.ensures.failed told)
          (record { called = refl; above = refl; frame = frame; low = c.requires.low; high = c.requires.high; short = c.requires.short });
      greatest = λ told.
          greatest_maybe (g.C.Dial.exchanged (dial_of mirror)) (g.C.Dial.exchanged c.exchange.new.self) _ (g.C.Dial.answered (dial_of mirror))
          (mirror.greatest told) (c.in_err-self.ensures.failed told) refl ∙ sym c.in_err-self.ensures.unanswered;
    }

-- ---- a number was answered

pub invariant_of-self-2 : goal.invariant_of-self-2
invariant_of-self-2 g c =
    let mirror = c.args.self.now in
    let one : Carried = record { name = user_of mirror; number = c.args.number; kind = c.args.kind; text = c.args.text.now } in
    let frame : c.bytes.result.now ≡ frame_bytes (header_of mirror) one =
    c.bytes.ensures ∙ c.fill.ensures
    ∙ ap (λ n. frame_bytes (header_of mirror) (record { name = n; number = c.args.number; kind = c.args.kind; text = c.args.text.now }))
    c.as_str.ensures.value in
    record {
      answered = sym c.in_ok-self.ensures.answered;
      short = mirror.short;
      calls = λ told.
          calls_next (g.C.Dial.address (dial_of mirror)) (g.C.Dial.address c.exchange.new.self) (header_of mirror) one c.exchange.ensures.address
          (g.C.Dial.exchanged (dial_of mirror)) (g.C.Dial.exchanged c.exchange.new.self) (mirror.calls told) _ (c.in_ok-self.ensures.exchanged told)
          (record { called = refl; above = refl; frame = frame; low = c.requires.low; high = c.requires.high; short = c.requires.short });
      greatest = λ told.
          greatest_next (g.C.Dial.exchanged (dial_of mirror)) (g.C.Dial.exchanged c.exchange.new.self) _ (g.C.Dial.answered (dial_of mirror))
          (mirror.greatest told) _ (c.in_ok-self.ensures.exchanged told) refl
          (omega (arith, mirror.answered, c.if-number-self.false, c.in_ok-self.ensures.above)) ∙ sym c.in_ok-self.ensures.answered;
    }

-- ---- what was told of

pub returns-then-number-self-clause-heard : goal.returns-then-number-self-clause-heard
returns-then-number-self-clause-heard g c = λ number one is. inl is

pub returns-in_err-self-clause-heard : goal.returns-in_err-self-clause-heard
returns-in_err-self-clause-heard g c =
    let mirror = c.args.self.now in
    let frame : c.bytes.result.now
    ≡ frame_bytes (header_of mirror) (record { name = user_of mirror; number = c.args.number; kind = c.args.kind; text = c.args.text.now }) =
    c.bytes.ensures ∙ c.fill.ensures
    ∙ ap (λ n. frame_bytes (header_of mirror) (record { name = n; number = c.args.number; kind = c.args.kind; text = c.args.text.now }))
    c.as_str.ensures.value in
    hears_maybe g.C.Dial.tells (header_of mirror) (user_of mirror) (g.C.Dial.exchanged (dial_of mirror)) (g.C.Dial.exchanged c.exchange.new.self) _
    c.args.number c.args.kind c.args.text.now (λ told. c.in_err-self.ensures.failed told) refl frame

pub returns-clause-heard : goal.returns-clause-heard
returns-clause-heard g c =
    let mirror = c.args.self.now in
    let frame : c.bytes.result.now
    ≡ frame_bytes (header_of mirror) (record { name = user_of mirror; number = c.args.number; kind = c.args.kind; text = c.args.text.now }) =
    c.bytes.ensures ∙ c.fill.ensures
    ∙ ap (λ n. frame_bytes (header_of mirror) (record { name = n; number = c.args.number; kind = c.args.kind; text = c.args.text.now }))
    c.as_str.ensures.value in
    hears_next g.C.Dial.tells (header_of mirror) (user_of mirror) (g.C.Dial.exchanged (dial_of mirror)) (g.C.Dial.exchanged c.exchange.new.self) _
    c.args.number c.args.kind c.args.text.now (λ told. c.in_ok-self.ensures.exchanged told) refl frame
