use Rattle.std.proofs.Common.{◌≡◌, None, Some, length, refl, sym, ap, subst, ◌∙◌, arith, option_map}
use Rattle.std.specs.Prelude.{slice_set, string_bytes}
use Rattle.std.proofs.lemmas.Result.{on_ok_weaker, IfOk-weaker}
use Rattle.std.proofs.lemmas.List.Elements.{All-set}
use Rattle.log_journal.specs.Journal.{count_of}
use Rattle.standby_core.specs.Books.{copies_in}
use Rattle.standby_core.specs.Copies.{copy_in, copy_at, held_name}
use Rattle.standby_core.specs.Named.{first_named}
use Rattle.standby_core.proofs.Booking.{copy_of, copy_there, copies_set, copies_same, lasts_set, names_set, origins_set, counted_set, broken_set, failed_there}
use Rattle.standby_core.proofs.Naming.{IsAt, found, not_found}
use Rattle.standby_core.proofs.book.StandbyBook.take.Given.{Over}
use Rattle.standby_core.proofs.book.StandbyBook.take.Goals as goal
use Rattle.standby_core.proofs.book.StandbyBook.take.Goals.{In_default, After-take}

-- ---- no user has the name

nobody : (g : Over) (c : In_default g) → copy_at (copies_in g.D.Disk.reads c.args.self.now) c.args.name.now ≡ None
nobody g c =
    copy_of g.D.Disk.reads c.args.name.now c.args.self.now.journals.items
    ∙ ap (option_map (copy_in g.D.Disk.reads))
    (not_found held_name c.args.name.now c.args.self.now.journals.items (rw c.as_slice.ensures.value at c.in_default.ensures.place))

pub returns-in_default-clause-unknown : goal.returns-in_default-clause-unknown
returns-in_default-clause-unknown g c = (λ is. nobody g c, λ is. refl)

pub returns-in_default-clause-broken : goal.returns-in_default-clause-broken
returns-in_default-clause-broken g c = (λ is. absurd cc, λ failed. absurd (cc (nobody g c, failed.1)))

-- ---- the journal of the name

pub index_mut-held-requires : goal.index_mut-held-requires
index_mut-held-requires g c = omega (arith, c.in-Some.ensures.within, ap length c.as_slice.ensures.value)

-- it is the first of this name
it_is : (g : Over) (c : After-take g)
    → IsAt held_name c.args.name.now c.args.self.now.journals.items c.in-Some.place c.index_mut-held.result.now
it_is g c =
    found held_name c.args.name.now c.args.self.now.journals.items c.in-Some.place c.index_mut-held.result.now
    (rw c.as_slice.ensures.value at c.in-Some.ensures.place) c.index_mut-held.ensures.value

-- and is it afterwards
it_stays : (g : Over) (c : After-take g)
    → first_named held_name (slice_set c.args.self.now.journals.items c.in-Some.place c.take.new.self) c.args.name.now ≡ Some c.take.new.self
it_stays g c = (it_is g c).set c.take.new.self (ap string_bytes c.take.ensures.name)

-- its copy
copy_was : (g : Over) (c : After-take g)
    → copy_at (copies_in g.D.Disk.reads c.args.self.now) c.args.name.now ≡ Some (copy_in g.D.Disk.reads c.index_mut-held.result.now)
copy_was g c = copy_there g.D.Disk.reads c.args.name.now c.args.self.now.journals.items (it_is g c).is_first

pub take-requires-clause-counted : goal.take-requires-clause-counted
take-requires-clause-counted g c =
    subst (λ h. h.count ≡ count_of h.journal) (sym c.index_mut-held.ensures.value)
    (c.args.self.now.counted c.in-Some.place c.index_mut-held.result.now
    (omega (arith, c.in-Some.ensures.within, ap length c.as_slice.ensures.value)))

pub invariant_of-self : goal.invariant_of-self
invariant_of-self g c = record {
  counted = All-set (λ held. held.count ≡ count_of held.journal) c.args.self.now.journals.items c.in-Some.place c.take.new.self
      c.take.ensures.counted c.args.self.now.counted;
}

-- ---- what it takes

pub returns-clause-taken : goal.returns-clause-taken
returns-clause-taken g c told =
    let at = (goal.at.returns-clause-taken g c).After-take in
    on_ok_weaker c.take.result (copies_set g.D.Disk.reads _ (it_is g at).stands c.take.new.self) (c.take.ensures.taken told)

pub returns-clause-count : goal.returns-clause-count
returns-clause-count g c told =
    let at = (goal.at.returns-clause-count g c).After-take in
    IfOk-weaker c.take.result _ _
    (λ count is. (copy_in g.D.Disk.reads c.take.new.self, copy_there g.D.Disk.reads c.args.name.now _ (it_stays g at), sym is)) c.take.ensures.count

pub returns-clause-lasts : goal.returns-clause-lasts
returns-clause-lasts g c told header disks =
    let at = (goal.at.returns-clause-lasts g c).After-take in
    lasts_set g.D.Disk header (it_is g at).stands c.take.new.self (c.take.ensures.lasts told header) disks

pub returns-clause-names : goal.returns-clause-names
returns-clause-names g c =
    names_set (it_is g (goal.at.returns-clause-names g c).After-take).stands c.take.new.self (ap string_bytes c.take.ensures.name)

pub returns-clause-origins : goal.returns-clause-origins
returns-clause-origins g c =
    origins_set g.D.Disk.origin (it_is g (goal.at.returns-clause-origins g c).After-take).stands c.take.new.self c.take.ensures.origin

pub returns-clause-counted : goal.returns-clause-counted
returns-clause-counted g c counts =
    counted_set g.D.Disk.faults (it_is g (goal.at.returns-clause-counted g c).After-take).stands c.take.new.self c.take.ensures.faults counts

-- ---- what it refuses

pub returns-clause-unknown : goal.returns-clause-unknown
returns-clause-unknown g c =
    let was = copy_was g (goal.at.returns-clause-unknown g c).After-take in
    (λ is. absurd (c.take.ensures.known is), λ none. absurd (cc (was, none)))

pub returns-clause-broken : goal.returns-clause-broken
returns-clause-broken g c =
    let was = copy_was g (goal.at.returns-clause-broken g c).After-take in
    let copy = copy_in g.D.Disk.reads c.index_mut-held.result.now in (
      λ is. (copy, was, c.take.ensures.broken.0 is),
      λ failed. c.take.ensures.broken.1 (failed_there (copies_in g.D.Disk.reads c.args.self.now) c.args.name.now copy was failed),
    )

pub returns-clause-fault : goal.returns-clause-fault
returns-clause-fault g c is =
    let at = (goal.at.returns-clause-fault g c).After-take in
    rw ((it_is g at).is_first, it_stays g at) (c.take.ensures.fault is)

pub returns-clause-next : goal.returns-clause-next
returns-clause-next g c is =
    (copy_in g.D.Disk.reads c.index_mut-held.result.now, copy_was g (goal.at.returns-clause-next g c).After-take, sym (c.take.ensures.next is))

pub returns-clause-broke : goal.returns-clause-broke
returns-clause-broke g c is =
    broken_set (it_is g (goal.at.returns-clause-broke g c).After-take).stands c.take.new.self (c.take.ensures.broke is)

pub returns-clause-untouched : goal.returns-clause-untouched
returns-clause-untouched g c is =
    let at = (goal.at.returns-clause-untouched g c).After-take in
    copies_same g.D.Disk.reads (it_is g at).stands c.take.new.self (ap (copy_in g.D.Disk.reads) (c.take.ensures.untouched is))

pub returns-clause-memory : goal.returns-clause-memory
returns-clause-memory g c is =
    let at = (goal.at.returns-clause-memory g c).After-take in
    copies_same g.D.Disk.reads (it_is g at).stands c.take.new.self (c.take.ensures.memory is)

-- it keeps its records, and all others stay
pub returns-clause-alone : goal.returns-clause-alone
returns-clause-alone g c told is =
    let at = (goal.at.returns-clause-alone g c).After-take in (
      (
        copy_in g.D.Disk.reads c.index_mut-held.result.now,
        copy_was g at,
        copy_there g.D.Disk.reads c.args.name.now _ (it_stays g at) ∙ ap Some (c.take.ensures.failed told is),
      ),
      λ other differs. copy_of g.D.Disk.reads other (slice_set c.args.self.now.journals.items c.in-Some.place c.take.new.self)
          ∙ ap (option_map (copy_in g.D.Disk.reads)) ((it_is g at).others c.take.new.self (ap string_bytes c.take.ensures.name) other differs)
          ∙ sym (copy_of g.D.Disk.reads other c.args.self.now.journals.items),
    )
