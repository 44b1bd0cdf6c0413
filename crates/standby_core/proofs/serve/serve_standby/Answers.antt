use Rattle.std.proofs.Common.{Err, inl, inr, [], refl, sym, ap, subst, ◌∙◌, arith}
use Rattle.std.proofs.lemmas.List.{append-nil}
use Rattle.outside.proofs.Rises.{rose_since}
use Rattle.standby_core.specs.Books.{copies_in}
use Rattle.standby_core.specs.Exchanges.{none, IsTaking}
use Rattle.standby_core.specs.Frames.{Reads}
use Rattle.standby_core.proofs.Serving.{one_more, ends_input, ends_bad, ends_other, ends_fault, ends_taking}
use Rattle.standby_core.proofs.serve.serve_standby.Goals as goal

pub loop-init : goal.loop-init
loop-init g c = record {
  so_far = λ source disk sink. record { answers = []; took = none; written = sym (append-nil (g.K.Sink.written c.args.sink.now)) };
  lasts = λ disk own disks all. all;
  names = refl;
  origins = refl;
  counted = λ counts all. all;
  read_later = omega arith;
  write_later = omega arith;
  held = refl;
  answers = refl;
}

-- a whole frame is in the room
pub take_frame-requires : goal.take_frame-requires
take_frame-requires g c = c.read_frame.ensures.frame c.in-Whole.is

pub loop-preserved : goal.loop-preserved
loop-preserved g c =
    let before = c.loop.invariant in
    let taken = c.take_frame.ensures in
    record {
      so_far = λ source disk sink.
          one_more c.args.header.now (g.S.Source.left c.args.source.now) (copies_in g.D.Disk.reads c.args.book.now) (g.S.Source.left c.loop.source)
          (g.S.Source.left c.read_frame.new.source) c.read_frame.new.room (g.K.Sink.written c.args.sink.now) (g.K.Sink.written c.loop.sink)
          (g.K.Sink.written c.take_frame.new.sink) (copies_in g.D.Disk.reads c.loop.book) (copies_in g.D.Disk.reads c.take_frame.new.book) tt
          (before.so_far source disk sink)
          (subst (λ o. Reads o c.args.header.now (g.S.Source.left c.loop.source) (g.S.Source.left c.read_frame.new.source) c.read_frame.new.room)
          c.in-Whole.is (c.read_frame.ensures.reads source))
          (c.in-Ok.ensures.took disk sink);
      lasts = λ disk own disks all. taken.lasts disk own disks (before.lasts disk own disks all);
      names = taken.names ∙ before.names;
      origins = taken.origins ∙ before.origins;
      counted = λ counts all. taken.counted counts (before.counted counts all);
      read_later = omega (arith, before.read_later, c.read_frame.ensures.later);
      write_later = omega (arith, before.write_later, taken.write_later);
      held = c.read_frame.ensures.held ∙ before.held;
      answers = taken.answers ∙ before.answers;
    }

-- ---- no whole frame came

pub returns-in-InputEnd-clause-serves : goal.returns-in-InputEnd-clause-serves
returns-in-InputEnd-clause-serves g c source disk sink =
    ends_input c.args.header.now (g.S.Source.left c.args.source.now) (copies_in g.D.Disk.reads c.args.book.now) (g.S.Source.left c.loop.source)
    (g.K.Sink.written c.args.sink.now) (g.K.Sink.written c.loop.sink) (copies_in g.D.Disk.reads c.loop.book)
    (c.loop.invariant.so_far source disk sink)
    (subst (λ o. Reads o c.args.header.now (g.S.Source.left c.loop.source) (g.S.Source.left c.read_frame.new.source) c.read_frame.new.room)
    c.in-InputEnd.is (c.read_frame.ensures.reads source))

pub returns-in-InputEnd-clause-read_later : goal.returns-in-InputEnd-clause-read_later
returns-in-InputEnd-clause-read_later g c = omega (arith, c.loop.invariant.read_later, c.read_frame.ensures.later)

pub returns-in-InputEnd-clause-held : goal.returns-in-InputEnd-clause-held
returns-in-InputEnd-clause-held g c = c.read_frame.ensures.held ∙ c.loop.invariant.held

pub returns-in-BadFrame-clause-serves : goal.returns-in-BadFrame-clause-serves
returns-in-BadFrame-clause-serves g c source disk sink =
    ends_bad c.args.header.now (g.S.Source.left c.args.source.now) (copies_in g.D.Disk.reads c.args.book.now) (g.S.Source.left c.loop.source)
    (g.K.Sink.written c.args.sink.now) (g.K.Sink.written c.loop.sink) (copies_in g.D.Disk.reads c.loop.book)
    (c.loop.invariant.so_far source disk sink)
    (subst (λ o. Reads o c.args.header.now (g.S.Source.left c.loop.source) (g.S.Source.left c.read_frame.new.source) c.read_frame.new.room)
    c.in-BadFrame.is (c.read_frame.ensures.reads source))

pub returns-in-BadFrame-clause-read_later : goal.returns-in-BadFrame-clause-read_later
returns-in-BadFrame-clause-read_later g c = omega (arith, c.loop.invariant.read_later, c.read_frame.ensures.later)

pub returns-in-BadFrame-clause-held : goal.returns-in-BadFrame-clause-held
returns-in-BadFrame-clause-held g c = c.read_frame.ensures.held ∙ c.loop.invariant.held

pub returns-in-OtherHeader-clause-serves : goal.returns-in-OtherHeader-clause-serves
returns-in-OtherHeader-clause-serves g c source disk sink =
    ends_other c.args.header.now (g.S.Source.left c.args.source.now) (copies_in g.D.Disk.reads c.args.book.now) (g.S.Source.left c.loop.source)
    (g.K.Sink.written c.args.sink.now) (g.K.Sink.written c.loop.sink) (copies_in g.D.Disk.reads c.loop.book)
    (c.loop.invariant.so_far source disk sink)
    (subst (λ o. Reads o c.args.header.now (g.S.Source.left c.loop.source) (g.S.Source.left c.read_frame.new.source) c.read_frame.new.room)
    c.in-OtherHeader.is (c.read_frame.ensures.reads source))

pub returns-in-OtherHeader-clause-read_later : goal.returns-in-OtherHeader-clause-read_later
returns-in-OtherHeader-clause-read_later g c = omega (arith, c.loop.invariant.read_later, c.read_frame.ensures.later)

pub returns-in-OtherHeader-clause-held : goal.returns-in-OtherHeader-clause-held
returns-in-OtherHeader-clause-held g c = c.read_frame.ensures.held ∙ c.loop.invariant.held

pub returns-in-ReadFault-clause-serves : goal.returns-in-ReadFault-clause-serves
returns-in-ReadFault-clause-serves g c source disk sink =
    ends_fault c.args.header.now (g.S.Source.left c.args.source.now) (copies_in g.D.Disk.reads c.args.book.now) (g.S.Source.left c.loop.source)
    (g.K.Sink.written c.args.sink.now) (g.K.Sink.written c.loop.sink) (copies_in g.D.Disk.reads c.loop.book)
    (c.loop.invariant.so_far source disk sink)

pub returns-in-ReadFault-clause-read_later : goal.returns-in-ReadFault-clause-read_later
returns-in-ReadFault-clause-read_later g c = omega (arith, c.loop.invariant.read_later, c.read_frame.ensures.later)

pub returns-in-ReadFault-clause-held : goal.returns-in-ReadFault-clause-held
returns-in-ReadFault-clause-held g c = c.read_frame.ensures.held ∙ c.loop.invariant.held

pub returns-in-ReadFault-clause-read_cause : goal.returns-in-ReadFault-clause-read_cause
returns-in-ReadFault-clause-read_cause g c = λ is.
    rose_since (g.S.Source.faults c.args.source.now) (g.S.Source.faults c.loop.source) (g.S.Source.faults c.read_frame.new.source)
    c.loop.invariant.read_later (c.read_frame.ensures.cause c.in-ReadFault.is)

-- ---- the frame wasn't taken, or not answered

pub returns-in-Err-clause-serves : goal.returns-in-Err-clause-serves
returns-in-Err-clause-serves g c source disk sink =
    ends_taking c.args.header.now (g.S.Source.left c.args.source.now) (copies_in g.D.Disk.reads c.args.book.now) (g.S.Source.left c.loop.source)
    (g.S.Source.left c.read_frame.new.source) c.read_frame.new.room (g.K.Sink.written c.args.sink.now) (g.K.Sink.written c.loop.sink)
    (g.K.Sink.written c.take_frame.new.sink) (copies_in g.D.Disk.reads c.loop.book) (copies_in g.D.Disk.reads c.take_frame.new.book) c.in-Err.end
    c.in-Err.ensures.ends (c.loop.invariant.so_far source disk sink)
    (subst (λ o. Reads o c.args.header.now (g.S.Source.left c.loop.source) (g.S.Source.left c.read_frame.new.source) c.read_frame.new.room)
    c.in-Whole.is (c.read_frame.ensures.reads source))
    (c.in-Err.ensures.took disk sink)

pub returns-in-Err-clause-lasts : goal.returns-in-Err-clause-lasts
returns-in-Err-clause-lasts g c disk own disks all = c.take_frame.ensures.lasts disk own disks (c.loop.invariant.lasts disk own disks all)

pub returns-in-Err-clause-names : goal.returns-in-Err-clause-names
returns-in-Err-clause-names g c = c.take_frame.ensures.names ∙ c.loop.invariant.names

pub returns-in-Err-clause-origins : goal.returns-in-Err-clause-origins
returns-in-Err-clause-origins g c = c.take_frame.ensures.origins ∙ c.loop.invariant.origins

pub returns-in-Err-clause-counted : goal.returns-in-Err-clause-counted
returns-in-Err-clause-counted g c counts all = c.take_frame.ensures.counted counts (c.loop.invariant.counted counts all)

pub returns-in-Err-clause-broke : goal.returns-in-Err-clause-broke
returns-in-Err-clause-broke g c (inl is) = c.in-Err.ensures.broke (inl (ap Err is))
returns-in-Err-clause-broke g c (inr is) = c.in-Err.ensures.broke (inr (ap Err is))

pub returns-in-Err-clause-read_cause : goal.returns-in-Err-clause-read_cause
returns-in-Err-clause-read_cause g c = λ is. absurd (subst IsTaking is c.in-Err.ensures.ends)

pub returns-in-Err-clause-write_cause : goal.returns-in-Err-clause-write_cause
returns-in-Err-clause-write_cause g c = λ is.
    rose_since (g.K.Sink.faults c.args.sink.now) (g.K.Sink.faults c.loop.sink) (g.K.Sink.faults c.take_frame.new.sink) c.loop.invariant.write_later
    (c.in-Err.ensures.write_cause (ap Err is))

pub returns-in-Err-clause-read_later : goal.returns-in-Err-clause-read_later
returns-in-Err-clause-read_later g c = omega (arith, c.loop.invariant.read_later, c.read_frame.ensures.later)

pub returns-in-Err-clause-write_later : goal.returns-in-Err-clause-write_later
returns-in-Err-clause-write_later g c = omega (arith, c.loop.invariant.write_later, c.take_frame.ensures.write_later)

pub returns-in-Err-clause-held : goal.returns-in-Err-clause-held
returns-in-Err-clause-held g c = c.read_frame.ensures.held ∙ c.loop.invariant.held

pub returns-in-Err-clause-answers : goal.returns-in-Err-clause-answers
returns-in-Err-clause-answers g c = c.take_frame.ensures.answers ∙ c.loop.invariant.answers
