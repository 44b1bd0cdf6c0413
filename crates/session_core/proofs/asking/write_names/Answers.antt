use Rattle.std.proofs.Common.{◌∙◌, ap, sym, ◌++◌, [], refl, append-nil, arith}
use Rattle.std.proofs.lemmas.Slice.Zip.{zip_turn, zip_end}
use Rattle.outside.proofs.Rises.{rose_since}
use Rattle.open_queries.proofs.Choices.{none_chosen}
use Rattle.session_core.specs.Lists.{names_of}
use Rattle.session_core.proofs.Listing.{name_written, name_cut}
use Rattle.session_core.proofs.asking.write_names.Goals as goal

pub loop-domain-init : goal.loop-domain-init
loop-domain-init g c = record { so_far = λ told. ([], refl, sym (append-nil _)); answers = refl; later = omega arith }

pub loop-domain-preserved : goal.loop-domain-preserved
loop-domain-preserved g c =
    let turn =
    zip_turn c.args.domains.now c.args.indices.now c.loop-domain.yielded
    c.into_iter-domain-iterator.result c.loop-domain.domain-iterator c.next.new.self c.next.result (cc) (cc)
    c.loop-domain.yielded_by _ c.in-Some.is c.next.ensures.steps in
    let before = c.loop-domain.invariant in
    record {
      so_far = λ told.
          let so_far = before.so_far told in
          name_written c.args.schema.now c.args.domains.now c.args.indices.now c.loop-domain.yielded _ c.in-Some.domain.now c.in-Some.index.now
          turn.0 turn.1 (turn.2 _) (turn.3 _) c.constant_name.result.now _ _ _ _ so_far.0 c.constant_name.ensures so_far.2 so_far.1
          (c.in-Ok.ensures.all told);
      answers = c.write_name.ensures.answers ∙ before.answers;
      later = omega (arith, before.later, c.in-Ok.ensures.cause.later);
    }

pub returns-in-Err-clause-part : goal.returns-in-Err-clause-part
returns-in-Err-clause-part g c = λ told.
    let turn =
    zip_turn c.args.domains.now c.args.indices.now c.loop-domain.yielded
    c.into_iter-domain-iterator.result c.loop-domain.domain-iterator c.next.new.self c.next.result (cc) (cc)
    c.loop-domain.yielded_by _ c.in-Some.is c.next.ensures.steps in
    let so_far = c.loop-domain.invariant.so_far told in
    name_cut c.args.schema.now c.args.domains.now c.args.indices.now c.loop-domain.yielded (c.in-Some.domain, c.in-Some.index)
    c.in-Some.domain.now c.in-Some.index.now
    turn.0 turn.1 (turn.2 _) (turn.3 _) c.constant_name.result.now _ _ _ _ so_far.0 c.constant_name.ensures so_far.2 so_far.1
    (c.in-Err.ensures.part told)

pub returns-in-Err-clause-cause : goal.returns-in-Err-clause-cause
returns-in-Err-clause-cause g c = record {
  later = omega (arith, c.loop-domain.invariant.later, c.in-Err.ensures.cause.later);
  failed = λ is. rose_since _ _ _ c.loop-domain.invariant.later (c.in-Err.ensures.cause.failed refl);
}

pub returns-clause-all : goal.returns-clause-all
returns-clause-all g c = λ told.
    let ends =
    zip_end c.args.domains.now c.args.indices.now c.loop-domain.yielded
    c.into_iter-domain-iterator.result c.loop-domain.domain-iterator c.next.new.self c.next.result (cc) (cc)
    c.loop-domain.yielded_by c.in-None.is c.next.ensures.steps in
    let none = none_chosen c.args.domains.now c.args.indices.now _ ends in
    let so_far = c.loop-domain.invariant.so_far told in
    so_far.2 ∙ ap (λ l. g.K.Sink.written c.args.sink.now ++ l)
    (sym (append-nil so_far.0) ∙ ap (λ more. so_far.0 ++ names_of c.args.schema.now more) (sym none) ∙ so_far.1)
