use Rattle.std.proofs.Common.{refl, sym, ap, ◌∙◌, ◌++◌, ◌∷◌, [], append_assoc}
use Rattle.std.specs.Prelude.{option_to_list}
use Rattle.outside.specs.Shelf.{Lent}
use Rattle.desk_crew.specs.Side.{DeskOpening, HasPlace, IsOwn, opening_journal, opening_faults, IsPutBack}
use Rattle.desk_crew.proofs.Shelving.{given_none, given_out, given_later, given_more, all_second}
use Rattle.desk_crew.proofs.Placing.{put_back_moves}
use Rattle.desk_crew.proofs.crew.return_all.Goals as goal

pub loop-opening-init : goal.loop-opening-init
loop-opening-init g c = record {
  so_far = given_none opening_journal (IsPutBack g.F.Shelf.tells g.F.D.Disk) _ _ _ _;
  faults = refl;
  looked = refl;
  lent = refl;
  files = λ name. refl;
}

pub return_one-requires-clause-placed : goal.return_one-requires-clause-placed
return_one-requires-clause-placed g c =
    let split = c.pop.ensures.items ∙ ap (λ o. c.pop.new.self.items ++ option_to_list o) c.in-Some.is in
    let given = c.loop-opening.invariant.so_far.given in
    all_second HasPlace c.pop.new.self.items c.in-Some.opening given c.args.openings.items
    (c.loop-opening.invariant.so_far.split ∙ ap (λ l. l ++ given) split ∙ append_assoc c.pop.new.self.items (c.in-Some.opening ∷ []) given)
    c.requires.placed

pub return_one-requires-clause-out : goal.return_one-requires-clause-out
return_one-requires-clause-out g c =
    let split = c.pop.ensures.items ∙ ap (λ o. c.pop.new.self.items ++ option_to_list o) c.in-Some.is in
    given_out opening_journal (IsPutBack g.F.Shelf.tells g.F.D.Disk) _ _ _ _ (λ (o : DeskOpening _ _ _). opening_faults g.F.D.Disk.faults o)
    c.requires.distinct c.requires.out c.requires.later c.pop.new.self.items c.loop-opening.openings.items c.in-Some.opening _ _ _ split
    c.loop-opening.invariant.so_far

pub return_one-requires-clause-later : goal.return_one-requires-clause-later
return_one-requires-clause-later g c =
    let split = c.pop.ensures.items ∙ ap (λ o. c.pop.new.self.items ++ option_to_list o) c.in-Some.is in
    given_later opening_journal (IsPutBack g.F.Shelf.tells g.F.D.Disk) _ _ _ _ (λ (o : DeskOpening _ _ _). opening_faults g.F.D.Disk.faults o)
    c.requires.distinct c.requires.out c.requires.later c.pop.new.self.items c.loop-opening.openings.items c.in-Some.opening _ _ _ split
    c.loop-opening.invariant.so_far

pub return_one-requires-clause-own : goal.return_one-requires-clause-own
return_one-requires-clause-own g c =
    let split = c.pop.ensures.items ∙ ap (λ o. c.pop.new.self.items ++ option_to_list o) c.in-Some.is in
    let given = c.loop-opening.invariant.so_far.given in
    all_second (IsOwn g.F.D.Disk.origin (g.F.Shelf.lent c.args.shelf.now).origin) c.pop.new.self.items c.in-Some.opening given c.args.openings.items
    (c.loop-opening.invariant.so_far.split ∙ ap (λ l. l ++ given) split ∙ append_assoc c.pop.new.self.items (c.in-Some.opening ∷ []) given)
    c.requires.own
    ∙ ap (λ (l : Lent). l.origin (opening_journal c.in-Some.opening)) (sym c.loop-opening.invariant.lent)

pub loop-opening-preserved : goal.loop-opening-preserved
loop-opening-preserved g c =
    let split = c.pop.ensures.items ∙ ap (λ o. c.pop.new.self.items ++ option_to_list o) c.in-Some.is in
    let given = c.return_one.ensures in
    record {
      so_far = given_more opening_journal (IsPutBack g.F.Shelf.tells g.F.D.Disk) _ _ _ _ (λ (o : DeskOpening _ _ _). opening_faults g.F.D.Disk.faults o)
          c.requires.distinct c.requires.out c.requires.later (put_back_moves g.F.Shelf.tells g.F.D.Disk) c.pop.new.self.items
          c.loop-opening.openings.items c.in-Some.opening _ _ _ _ _ _ (opening_journal c.in-Some.opening) refl split c.loop-opening.invariant.so_far
          given.back given.disks given.inside given.others_out given.counts;
      faults = given.faults ∙ c.loop-opening.invariant.faults;
      looked = given.looked ∙ c.loop-opening.invariant.looked;
      lent = given.lent ∙ c.loop-opening.invariant.lent;
      files = λ name. given.files name ∙ c.loop-opening.invariant.files name;
    }
