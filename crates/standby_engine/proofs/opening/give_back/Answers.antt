use Rattle.std.proofs.Common.{◌≡◌, refl, sym, ap, ◌∙◌, ◌++◌, ◌∷◌, [], append_assoc}
use Rattle.std.specs.Prelude.{option_to_list}
use Rattle.outside.specs.Shelf.{Lent}
use Rattle.desk_crew.proofs.Shelving.{given_none, given_out, given_more, all_second}
use Rattle.standby_engine.specs.Opened.{given_journal, IsGiven}
use Rattle.standby_engine.specs.declared.opening.Given.{Given as Back}
use Rattle.standby_engine.proofs.Owning.{own_each}
use Rattle.standby_engine.proofs.Giving.{no_less, given_moves, given_under}
use Rattle.standby_engine.proofs.opening.give_back.Goals as goal

pub loop-given-init : goal.loop-given-init
loop-given-init g c = record {
  so_far = given_none given_journal (IsGiven g.F.Shelf.tells g.F.D.Disk) _ _ _ _;
  faults = refl;
  lent = refl;
  looked = refl;
  files = λ name. refl;
}

pub give_disk-requires-clause-out : goal.give_disk-requires-clause-out
give_disk-requires-clause-out g c =
    let split = c.pop.ensures.items ∙ ap (λ o. c.pop.new.self.items ++ option_to_list o) c.in-Some.is in
    let least = λ (b : Back _). g.F.Shelf.disk_faults c.args.shelf.now (given_journal b) in
    ap (g.F.Shelf.is_out c.loop-given.shelf) c.as_str.ensures.value
    ∙ given_out given_journal (IsGiven g.F.Shelf.tells g.F.D.Disk) _ _ _ _ least c.requires.distinct c.requires.out
    (no_less least c.args.all.items) c.pop.new.self.items c.loop-given.all.items c.in-Some.given _ _ _ split c.loop-given.invariant.so_far

pub give_disk-requires-clause-own : goal.give_disk-requires-clause-own
give_disk-requires-clause-own g c =
    let split = c.pop.ensures.items ∙ ap (λ o. c.pop.new.self.items ++ option_to_list o) c.in-Some.is in
    let given = c.loop-given.invariant.so_far.given in
    let known = (g.F.Shelf.lent c.args.shelf.now).origin in
    let own = all_second (λ (b : Back _). g.F.D.Disk.origin b.disk ≡ known (given_journal b)) c.pop.new.self.items c.in-Some.given given c.args.all.items
    (c.loop-given.invariant.so_far.split ∙ ap (λ l. l ++ given) split ∙ append_assoc c.pop.new.self.items (c.in-Some.given ∷ []) given)
    (own_each g.F.D.Disk.origin known c.args.all.items c.requires.own) in
    own ∙ ap known (sym c.as_str.ensures.value) ∙ ap (λ (l : Lent). l.origin c.as_str.result.now) (sym c.loop-given.invariant.lent)

pub loop-given-preserved : goal.loop-given-preserved
loop-given-preserved g c =
    let split = c.pop.ensures.items ∙ ap (λ o. c.pop.new.self.items ++ option_to_list o) c.in-Some.is in
    let given = c.give_disk.ensures in
    let least = λ (b : Back _). g.F.Shelf.disk_faults c.args.shelf.now (given_journal b) in
    record {
      so_far = given_more given_journal (IsGiven g.F.Shelf.tells g.F.D.Disk) _ _ _ _ least c.requires.distinct c.requires.out
          (no_less least c.args.all.items) (given_moves g.F.Shelf.tells g.F.D.Disk) c.pop.new.self.items c.loop-given.all.items c.in-Some.given
          _ _ _ _ _ _ c.as_str.result.now c.as_str.ensures.value split c.loop-given.invariant.so_far
          (given_under g.F.Shelf.tells g.F.D.Disk _ _ c.in-Some.given c.as_str.result.now c.as_str.ensures.value (λ told. given.held told) given.count)
          given.disks given.back given.others_out given.other_counts;
      faults = given.faults ∙ c.loop-given.invariant.faults;
      lent = given.lent ∙ c.loop-given.invariant.lent;
      looked = given.looked ∙ c.loop-given.invariant.looked;
      files = λ name. given.files name ∙ c.loop-given.invariant.files name;
    }
