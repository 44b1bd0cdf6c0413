use Rattle.std.proofs.Common.{◌∷◌, ◌++◌, [], length, map, refl, sym, ap, ◌∙◌, arith, rules}
use Rattle.std.proofs.lemmas.List.{map-append, length-map}
use Rattle.standby_engine.specs.Opened.{given_journal, place_journal, place_disk}
use Rattle.standby_engine.specs.declared.opening.Given.{Given as Back}
use Rattle.standby_engine.proofs.Reading.{read_on, read_more, read_all}
use Rattle.standby_engine.proofs.opening.disks_of.Goals as goal

pub loop-place-init : goal.loop-place-init
loop-place-init g c = record {
  rest = search rules;
  names = ap (map given_journal) c.requires.empty;
  disks = ap (map (λ (b : Back _). b.disk)) c.requires.empty;
  room = refl;
}

pub push_reserved-requires : goal.push_reserved-requires
push_reserved-requires g c =
    let so_far = c.loop-place.invariant in
    let more = read_more c.args.places.items c.loop-place.yielded _ _ c.in-Some.place so_far.rest c.in-Some.ensures.steps.0 in
    let many = sym (length-map c.loop-place.all.items given_journal) ∙ ap length so_far.names ∙ length-map c.loop-place.yielded place_journal in
    let room = so_far.room in
    let len = c.loop-place.all.ok.0 in
    omega (arith, more, many, room, len, c.requires.room)

pub loop-place-preserved : goal.loop-place-preserved
loop-place-preserved g c =
    let so_far = c.loop-place.invariant in
    let grown = c.push_reserved.ensures.items in
    record {
      rest = read_on c.args.places.items c.loop-place.yielded _ _ _ so_far.rest c.in-Some.ensures.steps.0;
      names = ap (map given_journal) grown ∙ map-append given_journal c.loop-place.all.items (c.into_given.result ∷ [])
          ∙ (λ i. so_far.names i ++ c.into_given.ensures.name i ∷ [])
          ∙ sym (map-append place_journal c.loop-place.yielded (c.in-Some.place ∷ []));
      disks = ap (map (λ (b : Back _). b.disk)) grown ∙ map-append (λ (b : Back _). b.disk) c.loop-place.all.items (c.into_given.result ∷ [])
          ∙ (λ i. so_far.disks i ++ c.into_given.ensures.disk i ∷ [])
          ∙ sym (map-append place_disk c.loop-place.yielded (c.in-Some.place ∷ []));
      room = c.push_reserved.ensures.capacity ∙ so_far.room;
    }

pub returns-clause-names : goal.returns-clause-names
returns-clause-names g c =
    let so_far = c.loop-place.invariant in
    so_far.names ∙ ap (map place_journal) (read_all c.args.places.items c.loop-place.yielded _ so_far.rest (search rules))

pub returns-clause-disks : goal.returns-clause-disks
returns-clause-disks g c =
    let so_far = c.loop-place.invariant in
    so_far.disks ∙ ap (map place_disk) (read_all c.args.places.items c.loop-place.yielded _ so_far.rest (search rules))
