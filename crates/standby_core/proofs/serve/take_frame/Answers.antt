use Rattle.std.proofs.Common.{◌≡◌, ◌++◌, length, take, Ok, Err, refl, sym, ap, subst, ◌∙◌, arith}
use Rattle.standby_core.specs.Books.{copies_in}
use Rattle.standby_core.specs.Frames.{EndsWithinFrame, IsFrame, Shows, carried_in}
use Rattle.standby_core.specs.declared.frame.Judged.TheVariants.{Short, Bad, Other}
use Rattle.standby_core.specs.declared.book.TakeError.TheVariants.{Broken}
use Rattle.standby_core.proofs.Framing.{frame_within, never_short, never_bad, never_other}
use Rattle.standby_core.proofs.Serving.{refused_for, refused_leaves}
use Rattle.standby_core.proofs.serve.take_frame.Given.{Over}
use Rattle.standby_core.proofs.serve.take_frame.Goals as goal
use Rattle.standby_core.proofs.serve.take_frame.Goals.{In-Frame}

pub judge-requires : goal.judge-requires
judge-requires g c =
    let header = c.args.header.now in
    subst (EndsWithinFrame header) (sym c.bytes.ensures) (frame_within header c.args.room.now c.requires.0 c.requires.1)

-- ---- never: the bytes are a whole frame

pub returns-in-Short-clause-took : goal.returns-in-Short-clause-took
returns-in-Short-clause-took g c =
    let header = c.args.header.now in
    absurd (never_short header c.args.room.now c.requires.0 c.requires.1 c.in-Short.field-0
    (subst (λ l. Shows header l (Short c.in-Short.field-0)) c.bytes.ensures c.in-Short.ensures))

pub returns-in-Bad-clause-took : goal.returns-in-Bad-clause-took
returns-in-Bad-clause-took g c =
    let header = c.args.header.now in
    absurd (never_bad header c.args.room.now c.requires.0 c.requires.1
    (subst (λ l. Shows header l Bad) c.bytes.ensures c.in-Bad.ensures))

pub returns-in-Other-clause-took : goal.returns-in-Other-clause-took
returns-in-Other-clause-took g c =
    let header = c.args.header.now in
    absurd (never_other header c.args.room.now c.requires.0 c.requires.1
    (subst (λ l. Shows header l Other) c.bytes.ensures c.in-Other.ensures))

pub returns-in-Short-clause-ends : goal.returns-in-Short-clause-ends
returns-in-Short-clause-ends g c =
    let header = c.args.header.now in
    never_short header c.args.room.now c.requires.0 c.requires.1 c.in-Short.field-0
    (subst (λ l. Shows header l (Short c.in-Short.field-0)) c.bytes.ensures c.in-Short.ensures)

pub returns-in-Bad-clause-ends : goal.returns-in-Bad-clause-ends
returns-in-Bad-clause-ends g c =
    let header = c.args.header.now in
    never_bad header c.args.room.now c.requires.0 c.requires.1 (subst (λ l. Shows header l Bad) c.bytes.ensures c.in-Bad.ensures)

pub returns-in-Other-clause-ends : goal.returns-in-Other-clause-ends
returns-in-Other-clause-ends g c =
    let header = c.args.header.now in
    never_other header c.args.room.now c.requires.0 c.requires.1 (subst (λ l. Shows header l Other) c.bytes.ensures c.in-Other.ensures)

-- ---- the frame in the room

in_room : (g : Over) (c : In-Frame g) → IsFrame c.args.header.now c.args.room.now (carried_in c.in-Frame.frame)
in_room g c = subst (λ l. IsFrame c.args.header.now l (carried_in c.in-Frame.frame)) c.bytes.ensures c.in-Frame.ensures

pub take-requires-clause-low : goal.take-requires-clause-low
take-requires-clause-low g c = (in_room g (goal.at.take-requires-clause-low g c).In-Frame).proper.kind_from

pub take-requires-clause-high : goal.take-requires-clause-high
take-requires-clause-high g c = (in_room g (goal.at.take-requires-clause-high g c).In-Frame).proper.kind_to

pub take-requires-clause-short : goal.take-requires-clause-short
take-requires-clause-short g c = (in_room g (goal.at.take-requires-clause-short g c).In-Frame).proper.short

pub returns-in-Err-clause-took : goal.returns-in-Err-clause-took
returns-in-Err-clause-took g c disk sink =
    let old = copies_in g.D.Disk.reads c.args.book.now in
    let new = copies_in g.D.Disk.reads c.take.new.self in
    let one = carried_in c.in-Frame.frame in
    let of = c.in-Err.ensures in (
      one,
      in_room g (goal.at.returns-in-Err-clause-took g c).In-Frame,
      (
        refused_for old one c.in-Err.why of.unknown.0 of.broken of.next,
        refused_leaves old new one c.in-Err.why (λ is. ap (copies_in g.D.Disk.reads) (of.refused is)) (of.alone disk) of.untouched
            of.memory,
        refl,
      ),
    )

pub returns-in-Ok-write_all-clause-took : goal.returns-in-Ok-write_all-clause-took
returns-in-Ok-write_all-clause-took g c disk sink = (
  carried_in c.in-Frame.frame,
  in_room g (goal.at.returns-in-Ok-write_all-clause-took g c).In-Frame,
  (
    c.in-Ok.count,
    record {
      whole = λ failed. let clash : Ok c.in-Ok.count ≡ Err Broken = c.in-Ok.ensures.broken.1 failed in absurd cc;
      left = c.in-Ok.ensures.taken disk;
      counted = c.in-Ok.ensures.count disk;
    },
    c.in-Ok-write_all.ensures.all sink ∙ ap (λ l. g.K.Sink.written c.args.sink.now ++ l) c.to_be_bytes.ensures,
  ),
)

pub returns-in-Err-write_all-clause-took : goal.returns-in-Err-write_all-clause-took
returns-in-Err-write_all-clause-took g c disk sink =
    let part = c.in-Err-write_all.ensures.part sink in (
      carried_in c.in-Frame.frame,
      in_room g (goal.at.returns-in-Err-write_all-clause-took g c).In-Frame,
      (
        c.in-Ok.count,
        record {
          whole = λ failed. let clash : Ok c.in-Ok.count ≡ Err Broken = c.in-Ok.ensures.broken.1 failed in absurd cc;
          left = c.in-Ok.ensures.taken disk;
          counted = c.in-Ok.ensures.count disk;
        },
        (
          part.0,
          omega (arith, part.1, ap length c.to_be_bytes.ensures),
          part.2 ∙ ap (λ l. g.K.Sink.written c.args.sink.now ++ take part.0 l) c.to_be_bytes.ensures,
        ),
      ),
    )
