use Rattle.std.proofs.Common.{◌≡◌, ◌+◌, false, sym, ap, subst, ◌∙◌, length, map, rules}
use Rattle.outside.specs.Shelf.{NoneOut, Lent, bytes_on}
use Rattle.desk_crew.specs.Registered.{registered_journals}
use Rattle.log_journal.specs.Opening.{header_bytes}
use Rattle.serve_engine.specs.Serving as serving
use Rattle.standby_core.specs.Places.{faults_in, is_away}
use Rattle.standby_core.specs.MirrorSets.{slots_of, DialsLie}
use Rattle.standby_core.specs.Slots.{place_at, mirrored_at, slot_texts, there_among}
use Rattle.standby_core.proofs.There.{all_there}
use Rattle.cqe_top.proofs.Copying.{dials_lie, shelf_back, mirrors_back, lent_two}
use Rattle.cqe_top.proofs.Lending.{GivenBack, given_back}
use Rattle.cqe_top.proofs.mirrored.mirrored_serve.Given.{Over}
use Rattle.cqe_top.proofs.mirrored.mirrored_serve.Goals as goal
use Rattle.cqe_top.proofs.mirrored.mirrored_serve.Goals.{After-mirrors-1}

pub run_serve-requires-clause-inside : goal.run_serve-requires-clause-inside
run_serve-requires-clause-inside g c κs within =
    subst (λ shelf. NoneOut (g.F.Shelf.is_out shelf)) (sym c.new-mirrored.ensures.shelf) c.requires.inside

-- what was lent is back
back : (g : Over) (c : After-mirrors-1 g)
    → GivenBack g.F.Shelf g.F.D.Disk g.C.Dial.faults c.new-mirrored.result.shelf.now c.args.shelf.now c.run_serve.new.shelf.shelf.now c.shelf-1.given.0
    c.new-mirrored.result.mirrors.now c.args.mirrors.now c.run_serve.new.shelf.mirrors.now c.mirrors-1.given.0
back g c =
    given_back g.F.Shelf g.F.D.Disk g.C.Dial.faults c.new-mirrored.result.shelf.now c.args.shelf.now c.run_serve.new.shelf.shelf.now c.shelf-1.given.0
    c.new-mirrored.result.mirrors.now c.args.mirrors.now c.run_serve.new.shelf.mirrors.now c.mirrors-1.given.0
    c.new-mirrored.ensures.shelf c.new-mirrored.ensures.mirrors c.requires.fresh
    (shelf_back _ c.run_serve.new.shelf.shelf.now _ _ c.run_serve.ensures.lent (search rules))
    (mirrors_back c.mirrors-1.given.0 c.run_serve.new.shelf.mirrors.now _ _ c.run_serve.ensures.lent (search rules))

-- ---- the journals, where the exchanges that failed are counted

pub returns-clause-ends : goal.returns-clause-ends
returns-clause-ends g c = λ told links_told.
    (back g c).journals g.C.Dial.answered c.args.registry.now.directory.now
    (λ journals. serving.EndsServing c.args.registry.now.schema.now c.args.registry.now.world.now (header_bytes c.args.registry.now.header.now) journals
    c.args.registry.now.users.now (g.L.Links.given c.args.links.now) (g.L.Links.given c.run_serve.new.links) (g.L.Links.back c.args.links.now)
    (g.L.Links.back c.run_serve.new.links) c.run_serve.result)
    (c.run_serve.ensures.ends told links_told)

pub returns-clause-journals : goal.returns-clause-journals
returns-clause-journals g c = λ told.
    (back g c).journals g.C.Dial.answered c.args.registry.now.directory.now
    (λ journals. serving.LeavesJournals c.args.registry.now.schema.now c.args.registry.now.world.now (header_bytes c.args.registry.now.header.now) journals
    c.args.registry.now.users.now c.run_serve.result)
    (c.run_serve.ensures.journals told)

-- ---- the disks and their counts

pub returns-clause-disks : goal.returns-clause-disks
returns-clause-disks g c = (back g c).disks (registered_journals c.args.registry.now.directory.now c.args.registry.now.users.now) c.run_serve.ensures.disks

pub returns-clause-inside : goal.returns-clause-inside
returns-clause-inside g c = (back g c).inside c.run_serve.ensures.inside

pub returns-clause-files : goal.returns-clause-files
returns-clause-files g c = (back g c).files c.run_serve.ensures.files

pub returns-clause-looked : goal.returns-clause-looked
returns-clause-looked g c = (back g c).looked c.run_serve.ensures.looked

pub returns-clause-counts : goal.returns-clause-counts
returns-clause-counts g c = (back g c).counts c.run_serve.ensures.counts

pub returns-clause-other_counts : goal.returns-clause-other_counts
returns-clause-other_counts g c =
    (back g c).other_counts (registered_journals c.args.registry.now.directory.now c.args.registry.now.users.now) c.run_serve.ensures.other_counts

pub returns-clause-disk_cause : goal.returns-clause-disk_cause
returns-clause-disk_cause g c broken = (back g c).rose (c.run_serve.ensures.disk_cause broken)

pub returns-clause-journal_cause : goal.returns-clause-journal_cause
returns-clause-journal_cause g c refused = (back g c).rose (c.run_serve.ensures.journal_cause refused)

pub returns-clause-shelf_later : goal.returns-clause-shelf_later
returns-clause-shelf_later g c = (back g c).later c.run_serve.ensures.shelf_later

pub returns-clause-shelf_cause : goal.returns-clause-shelf_cause
returns-clause-shelf_cause g c failed = (back g c).cause (c.run_serve.ensures.shelf_cause failed)

pub returns-clause-unheard : goal.returns-clause-unheard
returns-clause-unheard g c told still =
    let same = c.run_serve.ensures.unheard told still in (
      (back g c).same_disks (λ name. (λ i. mirrored_at (g.F.Shelf.disk (same i).shelf.now name) (place_at (slots_of (same i).mirrors.now) name))),
      (back g c).same_counts
          (λ name. (λ i. g.F.Shelf.disk_faults (same i).shelf.now name + faults_in g.C.Dial.faults (place_at (slots_of (same i).mirrors.now) name))),
    )

-- ---- the mirrors

pub returns-clause-made : goal.returns-clause-made
returns-clause-made g c =
    subst (λ mirrors. map (slot_texts g.C.Dial.name g.C.Dial.address) (slots_of mirrors)
    ≡ map (slot_texts g.C.Dial.name g.C.Dial.address) (slots_of c.args.mirrors.now))
    (sym (back g c).mirrors)
    (ap (λ (l : Lent). l.origins) c.run_serve.ensures.lent
    ∙ ap (λ mirrors. map (slot_texts g.C.Dial.name g.C.Dial.address) (slots_of mirrors)) c.new-mirrored.ensures.mirrors)

pub returns-clause-all_there : goal.returns-clause-all_there
returns-clause-all_there g c =
    subst (λ mirrors. there_among (slots_of mirrors) ≡ length (slots_of mirrors))
    (sym (back g c).mirrors)
    (all_there (slots_of c.run_serve.new.shelf.mirrors.now) c.run_serve.new.shelf.mirrors.now.distinct
    (λ name. c.run_serve.new.shelf.back name (c.run_serve.ensures.inside name)))

pub returns-clause-none_away : goal.returns-clause-none_away
returns-clause-none_away g c name =
    subst (λ mirrors. is_away (place_at (slots_of mirrors) name) ≡ false)
    (sym (back g c).mirrors)
    (c.run_serve.new.shelf.back name (c.run_serve.ensures.inside name))

-- ---- what was told of

pub returns-clause-lie : goal.returns-clause-lie
returns-clause-lie g c = λ told.
    lent_two (λ shelf mirrors. DialsLie g.C.Dial.tells g.C.Dial.exchanged mirrors (λ name. bytes_on g.F.D.Disk.reads (g.F.Shelf.disk shelf name)))
    c.shelf-1.given.0 c.run_serve.new.shelf.shelf.now c.mirrors-1.given.0 c.run_serve.new.shelf.mirrors.now (back g c).shelf (back g c).mirrors
    (dials_lie g.F.Shelf g.F.D.Disk g.C.Dial.faults c.new-mirrored.result.shelf.now c.args.shelf.now c.run_serve.new.shelf.shelf.now
    c.new-mirrored.ensures.shelf
    (slots_of c.new-mirrored.result.mirrors.now) (slots_of c.args.mirrors.now) (slots_of c.run_serve.new.shelf.mirrors.now)
    (ap slots_of c.new-mirrored.ensures.mirrors) c.requires.fresh g.C.Dial.tells g.C.Dial.exchanged c.requires.silent
    (λ dials_told name none. c.run_serve.new.shelf.unused told dials_told name none (c.run_serve.ensures.inside name))
    (c.run_serve.ensures.there told (g.met.F.Shelf.tells_disks told)))
