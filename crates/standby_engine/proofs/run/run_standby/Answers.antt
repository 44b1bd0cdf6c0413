use Rattle.std.proofs.Common.{◌≡◌, inr, ◌+◌, ◌++◌, [], refl, sym, ap, ◌∙◌, arith}
use Rattle.outside.proofs.Rises.{rose_since}
use Rattle.desk_crew.specs.Shelved.{journals_on}
use Rattle.desk_crew.proofs.Lasting.{keeps_same}
use Rattle.standby_engine.proofs.Listening.{only_of, sum_only, door_served, ended_of, rose_some, not_longer, one_at_most}
use Rattle.standby_engine.proofs.run.run_standby.Goals as goal

-- ---- where nobody listens, all is kept

pub returns-in-Err-Failed-clause-serves : goal.returns-in-Err-Failed-clause-serves
returns-in-Err-Failed-clause-serves g c = λ shelf_told links_told.
    inr (c.listen.ensures.given links_told, c.listen.ensures.back links_told)

pub returns-in-Err-Failed-clause-journals : goal.returns-in-Err-Failed-clause-journals
returns-in-Err-Failed-clause-journals g c = λ told.
    inr (keeps_same g.F.D.Disk c.args.directory.now (g.F.Shelf.disk c.args.shelf.now) (g.F.Shelf.disk c.args.shelf.now)
    (g.F.Shelf.disk_faults c.args.shelf.now) (g.F.Shelf.disk_faults c.args.shelf.now) g.met.F.D.Disk.only_now (λ name. refl))

pub returns-in-Err-Memory-clause-serves : goal.returns-in-Err-Memory-clause-serves
returns-in-Err-Memory-clause-serves g c = λ shelf_told links_told. (c.listen.ensures.given links_told, c.listen.ensures.back links_told)

pub returns-in-Err-Memory-clause-journals : goal.returns-in-Err-Memory-clause-journals
returns-in-Err-Memory-clause-journals g c = λ told.
    keeps_same g.F.D.Disk c.args.directory.now (g.F.Shelf.disk c.args.shelf.now) (g.F.Shelf.disk c.args.shelf.now)
    (g.F.Shelf.disk_faults c.args.shelf.now) (g.F.Shelf.disk_faults c.args.shelf.now) g.met.F.D.Disk.only_now (λ name. refl)

pub returns-in-Err-Failed-clause-left_all : goal.returns-in-Err-Failed-clause-left_all
returns-in-Err-Failed-clause-left_all g c links_told all = λ i. c.listen.ensures.given links_told i + c.listen.ensures.left links_told i

pub returns-in-Err-Failed-clause-limited : goal.returns-in-Err-Failed-clause-limited
returns-in-Err-Failed-clause-limited g c links_told = let same = c.listen.ensures.given links_told in omega (arith, same)

pub returns-in-Err-Failed-clause-counts : goal.returns-in-Err-Failed-clause-counts
returns-in-Err-Failed-clause-counts g c = λ name. omega arith

pub returns-in-Err-Failed-clause-few_ended : goal.returns-in-Err-Failed-clause-few_ended
returns-in-Err-Failed-clause-few_ended g c = let same = c.listen.ensures.ended in omega (arith, same)

pub returns-in-Err-Memory-clause-few_ended : goal.returns-in-Err-Memory-clause-few_ended
returns-in-Err-Memory-clause-few_ended g c = let same = c.listen.ensures.ended in omega (arith, same)

pub returns-in-Err-Memory-clause-left_all : goal.returns-in-Err-Memory-clause-left_all
returns-in-Err-Memory-clause-left_all g c links_told all = λ i. c.listen.ensures.given links_told i + c.listen.ensures.left links_told i

pub returns-in-Err-Memory-clause-limited : goal.returns-in-Err-Memory-clause-limited
returns-in-Err-Memory-clause-limited g c links_told = let same = c.listen.ensures.given links_told in omega (arith, same)

pub returns-in-Err-Memory-clause-counts : goal.returns-in-Err-Memory-clause-counts
returns-in-Err-Memory-clause-counts g c = λ name. omega arith

-- ---- the door is served, and back

pub only_door-door-requires : goal.only_door-door-requires
only_door-door-requires g c = c.in-Ok.ensures.count

pub take_back-requires : goal.take_back-requires
take_back-requires g c = let out = c.in-Ok.ensures.out in omega (arith, out)

pub returns-clause-serves : goal.returns-clause-serves
returns-clause-serves g c shelf_told links_told =
    let heard = c.in-Ok.ensures in
    let taken = c.take_back.ensures in
    let fresh = (only_of (λ door. (g.L.D.Door.given door ≡ 0) × (g.L.D.Door.back door ≡ [])) c.in-Ok.doors.items c.only_door-door.result
    c.only_door-door.ensures
    (c.in-Ok.ensures.fresh links_told)) in
    door_served c.args.header.now
    (journals_on g.F.Shelf g.F.D.Disk c.args.directory.now c.args.shelf.now c.serve_opened-end.new.shelf) c.args.users.now
    (g.L.D.Door.given c.only_door-door.result) (g.L.D.Door.given c.serve_opened-end.new.door)
    (g.L.Links.given c.args.links.now) (g.L.Links.given c.take_back.new.self) (g.L.D.Door.back c.only_door-door.result)
    (g.L.D.Door.back c.serve_opened-end.new.door) (g.L.Links.back c.args.links.now) (g.L.Links.back c.take_back.new.self)
    fresh.0 fresh.1 (taken.given links_told ∙ ap (λ n. n + g.L.D.Door.given c.serve_opened-end.new.door) (heard.given links_told))
    (taken.back links_told ∙ ap (λ l. l ++ g.L.D.Door.back c.serve_opened-end.new.door) (heard.back links_told)) c.serve_opened-end.result
    (c.serve_opened-end.ensures.serves shelf_told (g.met.L.Links.tells_doors links_told))

pub returns-clause-journals : goal.returns-clause-journals
returns-clause-journals g c = c.serve_opened-end.ensures.journals

pub returns-clause-listens : goal.returns-clause-listens
returns-clause-listens g c links_told = inr (c.take_back.ensures.listened links_told ∙ c.in-Ok.ensures.listened links_told)

pub returns-clause-heard : goal.returns-clause-heard
returns-clause-heard g c links_told done = c.take_back.ensures.listened links_told ∙ c.in-Ok.ensures.listened links_told

pub returns-clause-unheard : goal.returns-clause-unheard
returns-clause-unheard g c links_told same =
    absurd (not_longer _ _ (sym (c.take_back.ensures.listened links_told ∙ c.in-Ok.ensures.listened links_told) ∙ same))

pub returns-clause-limited : goal.returns-clause-limited
returns-clause-limited g c links_told =
    let fresh = (only_of (λ door. (g.L.D.Door.given door ≡ 0) × (g.L.D.Door.back door ≡ [])) c.in-Ok.doors.items c.only_door-door.result
    c.only_door-door.ensures
    (c.in-Ok.ensures.fresh links_told)) in
    let none = fresh.0 in
    let gave = c.take_back.ensures.given links_told in
    let was = c.in-Ok.ensures.given links_told in
    let most = c.serve_opened-end.ensures.limited (g.met.L.Links.tells_doors links_told) in
    omega (arith, none, gave, was, most)

pub returns-clause-left : goal.returns-clause-left
returns-clause-left g c links_told all =
    let fresh = (only_of (λ door. (g.L.D.Door.given door ≡ 0) × (g.L.D.Door.back door ≡ [])) c.in-Ok.doors.items c.only_door-door.result
    c.only_door-door.ensures
    (c.in-Ok.ensures.fresh links_told)) in
    let none = fresh.0 in
    let spread = c.in-Ok.ensures.spread links_told in
    let one = sum_only g.L.D.Door.left c.in-Ok.doors.items c.only_door-door.result c.only_door-door.ensures in
    let same = c.in-Ok.ensures.left links_told in
    let served = c.serve_opened-end.ensures.left (g.met.L.Links.tells_doors links_told) in
    let left = c.take_back.ensures.left links_told in
    let at_hand = c.take_back.ensures.at_hand links_told in
    omega (arith, all, none, spread, one, same, served, left, at_hand)

pub returns-clause-left_all : goal.returns-clause-left_all
returns-clause-left_all g c links_told all =
    let fresh = (only_of (λ door. (g.L.D.Door.given door ≡ 0) × (g.L.D.Door.back door ≡ [])) c.in-Ok.doors.items c.only_door-door.result
    c.only_door-door.ensures
    (c.in-Ok.ensures.fresh links_told)) in
    let none = fresh.0 in
    let spread = c.in-Ok.ensures.spread links_told in
    let one = sum_only g.L.D.Door.left c.in-Ok.doors.items c.only_door-door.result c.only_door-door.ensures in
    let same = c.in-Ok.ensures.left links_told in
    let served = c.serve_opened-end.ensures.left (g.met.L.Links.tells_doors links_told) in
    let left = c.take_back.ensures.left links_told in
    let gave = c.take_back.ensures.given links_told in
    let was = c.in-Ok.ensures.given links_told in
    omega (arith, all, none, spread, one, same, served, left, gave, was)

pub returns-clause-ended : goal.returns-clause-ended
returns-clause-ended g c links_told done =
    let heard = c.in-Ok.ensures in
    let taken = c.take_back.ensures in
    let fresh = (only_of (λ door. (g.L.D.Door.given door ≡ 0) × (g.L.D.Door.back door ≡ [])) c.in-Ok.doors.items c.only_door-door.result
    c.only_door-door.ensures
    (c.in-Ok.ensures.fresh links_told)) in
    let given = taken.given links_told in
    let was = heard.given links_told in
    ended_of _ _ _ _ _ _ _ _ (heard.all links_told (omega arith)) (taken.at_hand links_told) fresh.0 (omega (arith, given, was))
    (c.serve_opened-end.ensures.ended (g.met.L.Links.tells_doors links_told) done)

pub returns-clause-out : goal.returns-clause-out
returns-clause-out g c =
    let heard = c.in-Ok.ensures.out in
    let taken = c.take_back.ensures.out in
    omega (arith, heard, taken)

pub returns-clause-few_ended : goal.returns-clause-few_ended
returns-clause-few_ended g c =
    let heard = c.in-Ok.ensures.ended in
    let taken = c.take_back.ensures.ended in
    let one = one_at_most (g.L.D.Door.ends c.serve_opened-end.new.door) in
    omega (arith, heard, taken, one)

pub returns-clause-dialling : goal.returns-clause-dialling
returns-clause-dialling g c = c.take_back.ensures.dialling ∙ c.in-Ok.ensures.dialling

pub returns-clause-exchanged : goal.returns-clause-exchanged
returns-clause-exchanged g c links_told = c.take_back.ensures.exchanged links_told ∙ c.in-Ok.ensures.exchanged links_told

pub returns-clause-exchange_faults : goal.returns-clause-exchange_faults
returns-clause-exchange_faults g c = λ name. c.take_back.ensures.exchange_faults name ∙ c.in-Ok.ensures.exchange_faults name

pub returns-clause-links_later : goal.returns-clause-links_later
returns-clause-links_later g c =
    let heard = c.in-Ok.ensures.later in
    let taken = c.take_back.ensures.later in
    omega (arith, heard, taken)

pub returns-clause-links_cause : goal.returns-clause-links_cause
returns-clause-links_cause g c is =
    let whole = only_of (λ door. g.L.D.Door.faults door ≡ 0) c.in-Ok.doors.items c.only_door-door.result c.only_door-door.ensures c.in-Ok.ensures.whole in
    rose_since (g.L.Links.faults c.args.links.now) (g.L.Links.faults c.listen.new.self) (g.L.Links.faults c.take_back.new.self) c.in-Ok.ensures.later
    (c.take_back.ensures.failed (rose_some _ _ whole (c.serve_opened-end.ensures.failed is)))
