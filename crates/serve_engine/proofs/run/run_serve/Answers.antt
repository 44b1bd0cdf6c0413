use Rattle.std.proofs.Common.{inl, inr, ◌++◌, refl, ◌+◌, ap, sym, ◌∙◌, arith}
use Rattle.std.specs.List.{sum_by, flat_map}
use Rattle.outside.specs.Visits.{one_if_any}
use Rattle.log_journal.specs.Opening.{header_bytes}
use Rattle.desk_crew.specs.Shelved.{journals_by}
use Rattle.desk_crew.proofs.Lasting.{keeps_same}
use Rattle.serve_engine.proofs.Connections.{ends_of, new_given, at_end, leaves_journals, few_ended, not_longer}
use Rattle.serve_engine.proofs.run.run_serve.Goals as goal

pub returns-clause-ends : goal.returns-clause-ends
returns-clause-ends g c shelf_told links_told =
    let heard = c.in-Ok.ensures in
    let back = c.take_back_all.ensures in
    let door_told = g.met.L.Links.tells_doors links_told in
    ends_of c.law_served_alike.ensures c.args.registry.now.schema.now c.args.registry.now.world.now (header_bytes c.args.registry.now.header.now)
    (journals_by g.F.D.Disk.reads g.F.D.Disk.image g.F.D.Disk.moment g.F.D.Disk.image_since g.F.D.Disk.tellable c.args.registry.now.directory.now
    (g.F.Shelf.disk c.args.shelf.now)
    (g.F.Shelf.disk c.serve_opened-end.new.shelf) (g.F.Shelf.disk_faults c.args.shelf.now) (g.F.Shelf.disk_faults c.serve_opened-end.new.shelf))
    c.args.registry.now.users.now g.L.D.Door door_told c.in-Ok.doors.items
    c.serve_opened-end.result.1.items (heard.fresh links_told)
    (g.L.Links.given c.args.links.now) (g.L.Links.given c.take_back_all.new.links) (g.L.Links.back c.args.links.now) (g.L.Links.back c.take_back_all.new.links)
    (back.given links_told ∙ ap (λ n. n + sum_by g.L.D.Door.given c.serve_opened-end.result.1.items) (heard.given links_told))
    (back.back links_told ∙ ap (λ l. l ++ flat_map g.L.D.Door.back c.serve_opened-end.result.1.items) (heard.back links_told))
    c.serve_opened-end.result.0 (c.serve_opened-end.ensures.ends shelf_told)

pub returns-clause-ended : goal.returns-clause-ended
returns-clause-ended g c links_told done =
    let heard = c.in-Ok.ensures in
    let back = c.take_back_all.ensures in
    let some = c.requires.some in
    let none = new_given g.L.D.Door c.in-Ok.doors.items (heard.fresh links_told) in
    let gave = back.given links_told ∙ ap (λ n. n + sum_by g.L.D.Door.given c.serve_opened-end.result.1.items) (heard.given links_told) in
    let ended = back.ended ∙ ap (λ n. n + sum_by (λ door. one_if_any (g.L.D.Door.ends door)) c.serve_opened-end.result.1.items) heard.ended in
    at_end g.L.D.Door.left c.serve_opened-end.result.1.items (g.L.Links.at_hand c.take_back_all.new.links) (heard.all links_told (omega (arith, some)))
    (back.at_hand links_told) (c.serve_opened-end.ensures.ended (g.met.L.Links.tells_doors links_told) done)
    (λ most.
    let with_ended = most.0 in
    let with_doors = most.1 in
    let doors = c.serve_opened-end.ensures.doors in
    let count = heard.count in
    (omega (arith, with_ended, none, gave, ended), omega (arith, with_doors, none, gave, doors, count)))

pub returns-clause-left : goal.returns-clause-left
returns-clause-left g c links_told all =
    let heard = c.in-Ok.ensures in
    let back = c.take_back_all.ensures in
    let none = new_given g.L.D.Door c.in-Ok.doors.items (heard.fresh links_told) in
    let spread = heard.spread links_told in
    let same = heard.left links_told in
    let served = c.serve_opened-end.ensures.left (g.met.L.Links.tells_doors links_told) in
    let left = back.left links_told in
    let at_hand = back.at_hand links_told in
    omega (arith, all, none, spread, same, served, left, at_hand)

pub returns-clause-left_all : goal.returns-clause-left_all
returns-clause-left_all g c links_told all =
    let heard = c.in-Ok.ensures in
    let back = c.take_back_all.ensures in
    let none = new_given g.L.D.Door c.in-Ok.doors.items (heard.fresh links_told) in
    let spread = heard.spread links_told in
    let same = heard.left links_told in
    let served = c.serve_opened-end.ensures.left (g.met.L.Links.tells_doors links_told) in
    let left = back.left links_told in
    let gave = back.given links_told in
    let was = heard.given links_told in
    omega (arith, all, none, spread, same, served, left, gave, was)

pub returns-clause-limited : goal.returns-clause-limited
returns-clause-limited g c links_told =
    let heard = c.in-Ok.ensures in
    let none = new_given g.L.D.Door c.in-Ok.doors.items (heard.fresh links_told) in
    let gave = c.take_back_all.ensures.given links_told ∙ ap (λ n. n + sum_by g.L.D.Door.given c.serve_opened-end.result.1.items) (heard.given links_told) in
    let most = c.serve_opened-end.ensures.limited (g.met.L.Links.tells_doors links_told) in
    omega (arith, none, gave, most)

pub returns-clause-listens : goal.returns-clause-listens
returns-clause-listens g c links_told = inr (c.take_back_all.ensures.listened links_told ∙ c.in-Ok.ensures.listened links_told)

pub returns-clause-heard : goal.returns-clause-heard
returns-clause-heard g c links_told done = c.take_back_all.ensures.listened links_told ∙ c.in-Ok.ensures.listened links_told

pub returns-clause-journals : goal.returns-clause-journals
returns-clause-journals g c shelf_told =
    leaves_journals c.args.registry.now.schema.now c.args.registry.now.world.now (header_bytes c.args.registry.now.header.now)
    (journals_by g.F.D.Disk.reads g.F.D.Disk.image g.F.D.Disk.moment g.F.D.Disk.image_since g.F.D.Disk.tellable c.args.registry.now.directory.now
    (g.F.Shelf.disk c.args.shelf.now)
    (g.F.Shelf.disk c.serve_opened-end.new.shelf)
    (g.F.Shelf.disk_faults c.args.shelf.now) (g.F.Shelf.disk_faults c.serve_opened-end.new.shelf)) c.args.registry.now.users.now g.L.D.Door
    c.in-Ok.doors.items c.serve_opened-end.result.1.items
    c.serve_opened-end.result.0 (c.serve_opened-end.ensures.ends shelf_told)

pub returns-clause-unheard : goal.returns-clause-unheard
returns-clause-unheard g c links_told same =
    absurd (not_longer _ _ (sym (c.take_back_all.ensures.listened links_told ∙ c.in-Ok.ensures.listened links_told) ∙ same))

pub returns-clause-dialling : goal.returns-clause-dialling
returns-clause-dialling g c = c.take_back_all.ensures.dialling ∙ c.in-Ok.ensures.dialling

pub returns-clause-exchanged : goal.returns-clause-exchanged
returns-clause-exchanged g c links_told = c.take_back_all.ensures.exchanged links_told ∙ c.in-Ok.ensures.exchanged links_told

pub returns-clause-exchange_faults : goal.returns-clause-exchange_faults
returns-clause-exchange_faults g c = λ name. c.take_back_all.ensures.exchange_faults name ∙ c.in-Ok.ensures.exchange_faults name

pub returns-clause-few_ended : goal.returns-clause-few_ended
returns-clause-few_ended g c =
    let heard = c.in-Ok.ensures.ended in
    let back = c.take_back_all.ensures.ended in
    let few = few_ended g.L.D.Door.ends c.serve_opened-end.result.1.items in
    let many = c.serve_opened-end.ensures.doors in
    let count = c.in-Ok.ensures.count in
    omega (arith, heard, back, few, many, count)

-- ---- where nothing was listened to, all journals are kept

pub returns-in-Err-Failed-clause-there : goal.returns-in-Err-Failed-clause-there
returns-in-Err-Failed-clause-there g c = λ shelf_told tells name there. there

pub returns-in-Err-Memory-clause-there : goal.returns-in-Err-Memory-clause-there
returns-in-Err-Memory-clause-there g c = λ shelf_told tells name there. there

pub returns-in-Err-Failed-clause-ends : goal.returns-in-Err-Failed-clause-ends
returns-in-Err-Failed-clause-ends g c = λ shelf_told links_told.
    inl (record {
      given_same = c.listen.ensures.given links_told;
      back_same = c.listen.ensures.back links_told;
      kept = keeps_same g.F.D.Disk c.args.registry.now.directory.now (g.F.Shelf.disk c.args.shelf.now) (g.F.Shelf.disk c.args.shelf.now)
          (g.F.Shelf.disk_faults c.args.shelf.now) (g.F.Shelf.disk_faults c.args.shelf.now)
          (g.met.F.D.Disk g.world.𝓛 g.world.𝓜 g.world.𝓡 ((λ s x. x), (λ x. x), (λ x. x), λ x. x)).only_now (λ name. refl);
    })

pub returns-in-Err-Failed-clause-journals : goal.returns-in-Err-Failed-clause-journals
returns-in-Err-Failed-clause-journals g c = λ shelf_told.
    inl (keeps_same g.F.D.Disk c.args.registry.now.directory.now (g.F.Shelf.disk c.args.shelf.now) (g.F.Shelf.disk c.args.shelf.now)
    (g.F.Shelf.disk_faults c.args.shelf.now) (g.F.Shelf.disk_faults c.args.shelf.now)
    (g.met.F.D.Disk g.world.𝓛 g.world.𝓜 g.world.𝓡 ((λ s x. x), (λ x. x), (λ x. x), λ x. x)).only_now (λ name. refl))

pub returns-in-Err-Memory-clause-ends : goal.returns-in-Err-Memory-clause-ends
returns-in-Err-Memory-clause-ends g c = λ shelf_told links_told.
    inl (record {
      given_same = c.listen.ensures.given links_told;
      back_same = c.listen.ensures.back links_told;
      kept = keeps_same g.F.D.Disk c.args.registry.now.directory.now (g.F.Shelf.disk c.args.shelf.now) (g.F.Shelf.disk c.args.shelf.now)
          (g.F.Shelf.disk_faults c.args.shelf.now) (g.F.Shelf.disk_faults c.args.shelf.now)
          (g.met.F.D.Disk g.world.𝓛 g.world.𝓜 g.world.𝓡 ((λ s x. x), (λ x. x), (λ x. x), λ x. x)).only_now (λ name. refl);
    })

pub returns-in-Err-Memory-clause-journals : goal.returns-in-Err-Memory-clause-journals
returns-in-Err-Memory-clause-journals g c = λ shelf_told.
    inl (keeps_same g.F.D.Disk c.args.registry.now.directory.now (g.F.Shelf.disk c.args.shelf.now) (g.F.Shelf.disk c.args.shelf.now)
    (g.F.Shelf.disk_faults c.args.shelf.now) (g.F.Shelf.disk_faults c.args.shelf.now)
    (g.met.F.D.Disk g.world.𝓛 g.world.𝓜 g.world.𝓡 ((λ s x. x), (λ x. x), (λ x. x), λ x. x)).only_now (λ name. refl))

pub returns-in-Err-Failed-clause-left_all : goal.returns-in-Err-Failed-clause-left_all
returns-in-Err-Failed-clause-left_all g c links_told all = λ i. c.listen.ensures.given links_told i + c.listen.ensures.left links_told i

pub returns-in-Err-Memory-clause-left_all : goal.returns-in-Err-Memory-clause-left_all
returns-in-Err-Memory-clause-left_all g c links_told all = λ i. c.listen.ensures.given links_told i + c.listen.ensures.left links_told i
