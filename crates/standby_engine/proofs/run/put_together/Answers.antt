use Rattle.std.proofs.Common.{List, ◌∷◌, ◌++◌, ◌||◌, [], length, map, refl, sym, ap, ◌∙◌, arith, rules, append-nil, length-append}
use Rattle.std.specs.Prelude.{string_bytes}
use Rattle.std.proofs.Math.Bool.{or-false}
use Rattle.std.proofs.lemmas.List.{length-map}
use Rattle.std.proofs.lemmas.List.Folds.{list_any-append}
use Rattle.log_journal.specs.Journal.{disk_of, is_broken}
use Rattle.standby_core.specs.Lasting.{has_broken}
use Rattle.standby_core.specs.declared.book.Held.{Held}
use Rattle.standby_engine.specs.Opened.{given_journal}
use Rattle.standby_engine.specs.declared.opening.Given.{Given as Back}
use Rattle.standby_engine.proofs.Parting.{taken_first, moved, moved_all, joined}
use Rattle.standby_engine.proofs.Reading.{read_on, read_more, read_all}
use Rattle.standby_engine.proofs.run.put_together.Goals as goal

pub loop-held-init : goal.loop-held-init
loop-held-init g c = record {
  rest = search rules;
  names = refl;
  count = omega arith;
  disks = sym (append-nil (map (λ (one : Back _). one.disk) c.args.given.items));
  broken = refl;
  room = refl;
}

pub remove-journal-requires : goal.remove-journal-requires
remove-journal-requires g c =
    let so_far = c.loop-held.invariant in
    let more = read_more c.args.journals.items c.loop-held.yielded _ _ c.in-Some.held so_far.rest c.in-Some.ensures.steps.0 in
    let count = so_far.count in
    let len = c.loop-held.names.ok.0 in
    omega (arith, more, count, len, c.requires.count)

pub push_reserved-requires : goal.push_reserved-requires
push_reserved-requires g c =
    let so_far = c.loop-held.invariant in
    let more = read_more c.args.journals.items c.loop-held.yielded _ _ c.in-Some.held so_far.rest c.in-Some.ensures.steps.0 in
    let before = map (λ (one : Back _). one.disk) c.args.given.items in
    let read = map (λ (held : Held _ _). disk_of held.journal) c.loop-held.yielded in
    let many = sym (length-map c.loop-held.given.items (λ (one : Back _). one.disk)) ∙ ap length so_far.disks in
    let parts = length-append before read in
    let first = length-map c.args.given.items (λ (one : Back _). one.disk) in
    let second = length-map c.loop-held.yielded (λ (held : Held _ _). disk_of held.journal) in
    let room = so_far.room in
    let len = c.loop-held.given.ok.0 in
    omega (arith, more, many, parts, first, second, room, len, c.requires.room)

pub loop-held-preserved : goal.loop-held-preserved
loop-held-preserved g c =
    let so_far = c.loop-held.invariant in
    let more = read_more c.args.journals.items c.loop-held.yielded _ _ c.in-Some.held so_far.rest c.in-Some.ensures.steps.0 in
    let count = so_far.count in
    let many = c.requires.count in
    let first = taken_first c.loop-held.names.items c.remove-journal.result c.remove-journal.new.self.items (omega (arith, more, count, many))
    c.remove-journal.ensures.value c.remove-journal.ensures.items in
    let less = ap length first in
    let read = length-append c.loop-held.yielded (c.in-Some.held ∷ []) in
    let added = c.push_reserved.ensures.items in
    record {
      rest = read_on c.args.journals.items c.loop-held.yielded _ _ _ so_far.rest c.in-Some.ensures.steps.0;
      names = moved given_journal string_bytes c.loop-held.given.items c.push_reserved.new.self.items _ c.loop-held.names.items
          c.remove-journal.new.self.items c.remove-journal.result _ added first refl so_far.names;
      count = omega (arith, count, less, read);
      disks = joined (λ (one : Back _). one.disk) (λ (held : Held _ _). disk_of held.journal) c.loop-held.given.items c.push_reserved.new.self.items _
          (map (λ (one : Back _). one.disk) c.args.given.items) c.loop-held.yielded c.in-Some.held added c.close-disk.ensures so_far.disks;
      broken = (λ i. so_far.broken i || c.has_failed-failed.ensures i)
          ∙ ap (λ b. has_broken c.loop-held.yielded || b) (sym (or-false (is_broken c.in-Some.held.journal)))
          ∙ sym (list_any-append (λ (held : Held _ _). is_broken held.journal) c.loop-held.yielded (c.in-Some.held ∷ []));
      room = c.push_reserved.ensures.capacity ∙ so_far.room;
    }

pub returns-clause-names : goal.returns-clause-names
returns-clause-names g c =
    let so_far = c.loop-held.invariant in
    let all = ap length (read_all c.args.journals.items c.loop-held.yielded _ so_far.rest (search rules)) in
    let count = so_far.count in
    let many = c.requires.count in
    moved_all given_journal string_bytes c.loop-held.given.items c.loop-held.names.items _ (omega (arith, all, count, many)) so_far.names

pub returns-clause-disks : goal.returns-clause-disks
returns-clause-disks g c =
    let so_far = c.loop-held.invariant in
    so_far.disks ∙ ap (λ (l : List _). map (λ (one : Back _). one.disk) c.args.given.items ++ map (λ (held : Held _ _). disk_of held.journal) l)
    (read_all c.args.journals.items c.loop-held.yielded _ so_far.rest (search rules))

pub returns-clause-broken : goal.returns-clause-broken
returns-clause-broken g c =
    let so_far = c.loop-held.invariant in
    so_far.broken ∙ ap has_broken (read_all c.args.journals.items c.loop-held.yielded _ so_far.rest (search rules))
