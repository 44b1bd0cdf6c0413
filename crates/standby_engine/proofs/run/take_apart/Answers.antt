use Rattle.std.proofs.Common.{◌∷◌, ◌++◌, [], length, map, refl, sym, ap, ◌∙◌, arith, rules}
use Rattle.std.specs.Prelude.{string_bytes}
use Rattle.std.proofs.lemmas.List.{length-map}
use Rattle.standby_engine.specs.Opened.{opened_in, names_in, others_in}
use Rattle.standby_engine.proofs.Parting.{journals_more, names_more, others_more, journals_few, names_few, others_few}
use Rattle.standby_engine.proofs.Reading.{read_on, read_more, read_all}
use Rattle.standby_engine.proofs.run.take_apart.Goals as goal

pub loop-place-init : goal.loop-place-init
loop-place-init g c = record {
  rest = search rules;
  journals = c.requires.empty.0;
  names = ap (map string_bytes) c.requires.empty.1;
  others = c.requires.empty.2;
  rooms = (refl, refl, refl);
}

pub take_part-requires : goal.take_part-requires
take_part-requires g c =
    let so_far = c.loop-place.invariant in
    let more = read_more c.args.places.items c.loop-place.yielded _ _ c.in-Some.place so_far.rest c.in-Some.ensures.steps.0 in
    let journals = ap length so_far.journals in
    let names = sym (length-map c.loop-place.names.items string_bytes) ∙ ap length so_far.names in
    let others = ap length so_far.others in
    let few_journals = journals_few c.loop-place.yielded in
    let few_names = names_few c.loop-place.yielded in
    let few_others = others_few c.loop-place.yielded in
    let room_journals = so_far.rooms.0 in
    let room_names = so_far.rooms.1 in
    let room_others = so_far.rooms.2 in
    let len_journals = c.loop-place.journals.ok.0 in
    let len_names = c.loop-place.names.ok.0 in
    let len_others = c.loop-place.given.ok.0 in (
      omega (arith, more, journals, few_journals, room_journals, len_journals, c.requires.room.0),
      omega (arith, more, names, few_names, room_names, len_names, c.requires.room.1),
      omega (arith, more, others, few_others, room_others, len_others, c.requires.room.2),
    )

pub loop-place-preserved : goal.loop-place-preserved
loop-place-preserved g c =
    let so_far = c.loop-place.invariant in
    let put = c.take_part.ensures in
    record {
      rest = read_on c.args.places.items c.loop-place.yielded _ _ _ so_far.rest c.in-Some.ensures.steps.0;
      journals = put.journals ∙ ap (λ l. l ++ opened_in (c.in-Some.place ∷ [])) so_far.journals
          ∙ sym (journals_more c.loop-place.yielded (c.in-Some.place ∷ []));
      names = put.names ∙ ap (λ l. l ++ names_in (c.in-Some.place ∷ [])) so_far.names ∙ sym (names_more c.loop-place.yielded (c.in-Some.place ∷ []));
      others = put.others ∙ ap (λ l. l ++ others_in (c.in-Some.place ∷ [])) so_far.others
          ∙ sym (others_more c.loop-place.yielded (c.in-Some.place ∷ []));
      rooms = (put.rooms.0 ∙ so_far.rooms.0, put.rooms.1 ∙ so_far.rooms.1, put.rooms.2 ∙ so_far.rooms.2);
    }

pub returns-clause-journals : goal.returns-clause-journals
returns-clause-journals g c =
    let so_far = c.loop-place.invariant in
    so_far.journals ∙ ap opened_in (read_all c.args.places.items c.loop-place.yielded _ so_far.rest (search rules))

pub returns-clause-names : goal.returns-clause-names
returns-clause-names g c =
    let so_far = c.loop-place.invariant in
    so_far.names ∙ ap names_in (read_all c.args.places.items c.loop-place.yielded _ so_far.rest (search rules))

pub returns-clause-others : goal.returns-clause-others
returns-clause-others g c =
    let so_far = c.loop-place.invariant in
    so_far.others ∙ ap others_in (read_all c.args.places.items c.loop-place.yielded _ so_far.rest (search rules))

pub returns-clause-room : goal.returns-clause-room
returns-clause-room g c = c.loop-place.invariant.rooms.2
