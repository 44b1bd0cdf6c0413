use Rattle.std.proofs.Common.{length, ap, arith, length-append, [], ◌∷◌}
use Rattle.batch_engine.specs.Batches.{ask_in}
use Rattle.batch_engine.proofs.Shorts.{short_ask}
use Rattle.batch_engine.proofs.answer.line_of.Goals as goal

pub caller_text-caller-requires : goal.caller_text-caller-requires
caller_text-caller-requires c = (short_ask (ask_in c.args.ask.now) c.requires).1

pub push_bytes-requires : goal.push_bytes-requires
push_bytes-requires c =
    let short = short_ask (ask_in c.args.ask.now) c.requires in
    omega (
      arith,
      short.0,
      c.caller_text-caller.ensures.short,
      ap length c.as_str.ensures.value,
      ap length c.new-line.ensures,
      ap length c.push.ensures,
      length-append c.new-line.result (32 ∷ []),
      ap length c.bytes.ensures,
    )

pub push-requires-2 : goal.push-requires-2
push-requires-2 c =
    let short = short_ask (ask_in c.args.ask.now) c.requires in
    omega (
      arith,
      short.0,
      c.caller_text-caller.ensures.short,
      ap length c.as_str.ensures.value,
      ap length c.new-line.ensures,
      ap length c.push.ensures,
      length-append c.new-line.result (32 ∷ []),
      ap length c.bytes.ensures,
      ap length c.push_bytes.ensures,
      length-append c.push.new.self c.bytes.result.now,
    )

pub push_bytes-requires-2 : goal.push_bytes-requires-2
push_bytes-requires-2 c =
    let short = short_ask (ask_in c.args.ask.now) c.requires in
    omega (
      arith,
      short.0,
      c.caller_text-caller.ensures.short,
      ap length c.as_str.ensures.value,
      ap length c.new-line.ensures,
      ap length c.push.ensures,
      length-append c.new-line.result (32 ∷ []),
      ap length c.bytes.ensures,
      ap length c.push_bytes.ensures,
      length-append c.push.new.self c.bytes.result.now,
      ap length c.push-2.ensures,
      length-append c.push_bytes.new.self (32 ∷ []),
      c.answer_text-text.ensures.short,
      ap length c.bytes-2.ensures,
    )

pub push-requires-3 : goal.push-requires-3
push-requires-3 c =
    let short = short_ask (ask_in c.args.ask.now) c.requires in
    omega (
      arith,
      short.0,
      c.caller_text-caller.ensures.short,
      ap length c.as_str.ensures.value,
      ap length c.new-line.ensures,
      ap length c.push.ensures,
      length-append c.new-line.result (32 ∷ []),
      ap length c.bytes.ensures,
      ap length c.push_bytes.ensures,
      length-append c.push.new.self c.bytes.result.now,
      ap length c.push-2.ensures,
      length-append c.push_bytes.new.self (32 ∷ []),
      c.answer_text-text.ensures.short,
      ap length c.bytes-2.ensures,
      ap length c.push_bytes-2.ensures,
      length-append c.push-2.new.self c.bytes-2.result.now,
    )
