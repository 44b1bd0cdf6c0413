use Rattle.std.proofs.Common.{◌≤◌, List, ℕ, length, refl, string_bytes, sym, subst, ◌∙◌}
use Rattle.std.specs.Prelude.{IsUtf8}
use Rattle.cqe_base.specs.History.{profile_of}
use Rattle.dossier_engine.specs.Said.{EndsText, JudgesText}
use Rattle.dossier_engine.proofs.Checking.{too_long, no_text, ends_bytes, judges_bytes}
use Rattle.dossier_engine.proofs.check.run_check.Goals as goal

pub returns-in-TooLong-clause-ends : goal.returns-in-TooLong-clause-ends
returns-in-TooLong-clause-ends g c = λ told sink_told.
    let reads = c.in-TooLong.ensures.reads told in
    (too_long c.args.schema.now c.args.world.now (string_bytes c.args.user.now.name) (profile_of c.args.user.now) _ reads.0, reads.1, refl)

pub returns-in_default-clause-ends : goal.returns-in_default-clause-ends
returns-in_default-clause-ends g c = λ told sink_told.
    let reads = c.in-Whole.ensures.reads told in
    let is = c.deref.ensures.value ∙ reads.0 in (
      no_text c.args.schema.now c.args.world.now (string_bytes c.args.user.now.name) (profile_of c.args.user.now) (g.S.Source.left c.args.source.now)
          (subst (λ (l : List ℕ). length l ≤ 67108864) reads.0 c.in-Whole.ensures.within)
          (λ utf8. c.in_default.ensures.cases.0 (subst IsUtf8 (sym is) utf8)),
      reads.1,
      refl,
    )

pub returns-clause-ends : goal.returns-clause-ends
returns-clause-ends g c = λ told sink_told.
    let schema = c.args.schema.now in
    let world = c.args.world.now in
    let name = string_bytes c.args.user.now.name in
    let user = profile_of c.args.user.now in
    let reads = c.in-Whole.ensures.reads told in
    let is = c.deref.ensures.value ∙ reads.0 in
    ends_bytes schema world name user (g.S.Source.left c.args.source.now) (g.S.Source.left c.read_input.new.source)
    (subst (λ (l : List ℕ). length l ≤ 67108864) reads.0 c.in-Whole.ensures.within) (subst IsUtf8 is c.in-Ok.ensures.cases.1) reads.1
    c.check_text.result (g.K.Sink.written c.args.sink.now) (g.K.Sink.written c.check_text.new.sink)
    (subst (λ (l : List ℕ). EndsText schema world name user l c.check_text.result (g.K.Sink.written c.args.sink.now)
    (g.K.Sink.written c.check_text.new.sink)) (c.in-Ok.ensures.cases.0 ∙ is) (c.check_text.ensures.ends sink_told))

pub returns-in-TooLong-clause-judged : goal.returns-in-TooLong-clause-judged
returns-in-TooLong-clause-judged g c = λ told.
    let reads = c.in-TooLong.ensures.reads told in
    (too_long c.args.schema.now c.args.world.now (string_bytes c.args.user.now.name) (profile_of c.args.user.now) _ reads.0, reads.1)

pub returns-in_default-clause-judged : goal.returns-in_default-clause-judged
returns-in_default-clause-judged g c = λ told.
    let reads = c.in-Whole.ensures.reads told in
    let is = c.deref.ensures.value ∙ reads.0 in (
      no_text c.args.schema.now c.args.world.now (string_bytes c.args.user.now.name) (profile_of c.args.user.now) (g.S.Source.left c.args.source.now)
          (subst (λ (l : List ℕ). length l ≤ 67108864) reads.0 c.in-Whole.ensures.within)
          (λ utf8. c.in_default.ensures.cases.0 (subst IsUtf8 (sym is) utf8)),
      reads.1,
    )

pub returns-clause-judged : goal.returns-clause-judged
returns-clause-judged g c = λ told.
    let schema = c.args.schema.now in
    let world = c.args.world.now in
    let name = string_bytes c.args.user.now.name in
    let user = profile_of c.args.user.now in
    let reads = c.in-Whole.ensures.reads told in
    let is = c.deref.ensures.value ∙ reads.0 in
    judges_bytes schema world name user (g.S.Source.left c.args.source.now) (g.S.Source.left c.read_input.new.source)
    (subst (λ (l : List ℕ). length l ≤ 67108864) reads.0 c.in-Whole.ensures.within) (subst IsUtf8 is c.in-Ok.ensures.cases.1) reads.1
    c.check_text.result
    (subst (λ (l : List ℕ). JudgesText schema world name user l c.check_text.result) (c.in-Ok.ensures.cases.0 ∙ is) c.check_text.ensures.judged)

pub returns-clause-read_cause : goal.returns-clause-read_cause
returns-clause-read_cause g c = λ is. absurd (c.check_text.ensures.no_read is)
