use Rattle.std.proofs.Common.{◌++◌, Some, refl, sym, ap, ◌∙◌, arith, append-nil}
use Rattle.standby_core.specs.Places.{mirror_in, faults_in, there_in, exchanged_in}
use Rattle.standby_core.proofs.Hanging.{dial_named, hung_faults, hung_others}
use Rattle.standby_core.proofs.Keeping.{keeps_all}
use Rattle.standby_core.proofs.dialling.hang_up.Goals as goal

-- ---- the mirror wasn't taken

pub hang_up-requires : goal.hang_up-requires
hang_up-requires g c =
    let there = c.requires in
    let one = ap there_in c.in-New.is in
    omega (arith, there, one)

pub returns-in-New-clause-dialling : goal.returns-in-New-clause-dialling
returns-in-New-clause-dialling g c =
    let less = c.hang_up.ensures.dialling in
    let one = ap there_in c.in-New.is in
    omega (arith, less, one)

pub returns-in-New-clause-exchange_faults : goal.returns-in-New-clause-exchange_faults
returns-in-New-clause-exchange_faults g c =
    hung_faults g.L.Dial.Dial.name c.into_dial.result c.in-New.mirror c.into_dial.ensures c.args.slot g.L.Dial.Dial.faults
    (g.L.Links.exchange_faults c.args.links.now) (g.L.Links.exchange_faults c.hang_up.new.self)
    (sym (ap (λ p. faults_in g.L.Dial.Dial.faults (Some p)) c.in-New.is))
    (dial_named g.L.Dial.Dial.name c.into_dial.result c.in-New.mirror c.into_dial.ensures c.args.slot g.L.Dial.Dial.address
    (ap (λ p. mirror_in (Some p)) c.in-New.is) c.args.slot.named c.args.slot.same)
    c.hang_up.ensures.exchange_faults

pub returns-in-New-clause-other_faults : goal.returns-in-New-clause-other_faults
returns-in-New-clause-other_faults g c =
    hung_others g.L.Dial.Dial.name c.into_dial.result c.in-New.mirror c.into_dial.ensures c.args.slot
    (g.L.Links.exchange_faults c.args.links.now) (g.L.Links.exchange_faults c.hang_up.new.self)
    (dial_named g.L.Dial.Dial.name c.into_dial.result c.in-New.mirror c.into_dial.ensures c.args.slot g.L.Dial.Dial.address
    (ap (λ p. mirror_in (Some p)) c.in-New.is) c.args.slot.named c.args.slot.same)
    c.hang_up.ensures.other_faults

pub returns-in-New-clause-exchanged : goal.returns-in-New-clause-exchanged
returns-in-New-clause-exchanged g c links_told =
    c.hang_up.ensures.exchanged links_told
    ∙ ap (λ l. g.L.Links.exchanged c.args.links.now ++ l)
    (ap g.L.Dial.Dial.exchanged c.into_dial.ensures ∙ sym (ap (exchanged_in g.L.Dial.Dial.exchanged) c.in-New.is))

pub returns-in-New-clause-doors : goal.returns-in-New-clause-doors
returns-in-New-clause-doors g c =
    record {
      faults = c.hang_up.ensures.faults;
      out = c.hang_up.ensures.out;
      ended = c.hang_up.ensures.ended;
      given = c.hang_up.ensures.given;
      left = c.hang_up.ensures.left;
      at_hand = c.hang_up.ensures.at_hand;
      back = c.hang_up.ensures.back;
      listened = c.hang_up.ensures.listened;
    }

-- ---- it is back

pub hang_up-requires-in-Back : goal.hang_up-requires-in-Back
hang_up-requires-in-Back g c =
    let there = c.requires in
    let one = ap there_in c.in-Back.is in
    omega (arith, there, one)

pub returns-in-Back-clause-dialling : goal.returns-in-Back-clause-dialling
returns-in-Back-clause-dialling g c =
    let less = c.hang_up-in-Back.ensures.dialling in
    let one = ap there_in c.in-Back.is in
    omega (arith, less, one)

pub returns-in-Back-clause-exchange_faults : goal.returns-in-Back-clause-exchange_faults
returns-in-Back-clause-exchange_faults g c =
    hung_faults g.L.Dial.Dial.name c.into_dial-in-Back.result c.in-Back.mirror c.into_dial-in-Back.ensures c.args.slot g.L.Dial.Dial.faults
    (g.L.Links.exchange_faults c.args.links.now) (g.L.Links.exchange_faults c.hang_up-in-Back.new.self)
    (sym (ap (λ p. faults_in g.L.Dial.Dial.faults (Some p)) c.in-Back.is))
    (dial_named g.L.Dial.Dial.name c.into_dial-in-Back.result c.in-Back.mirror c.into_dial-in-Back.ensures c.args.slot g.L.Dial.Dial.address
    (ap (λ p. mirror_in (Some p)) c.in-Back.is) c.args.slot.named c.args.slot.same)
    c.hang_up-in-Back.ensures.exchange_faults

pub returns-in-Back-clause-other_faults : goal.returns-in-Back-clause-other_faults
returns-in-Back-clause-other_faults g c =
    hung_others g.L.Dial.Dial.name c.into_dial-in-Back.result c.in-Back.mirror c.into_dial-in-Back.ensures c.args.slot
    (g.L.Links.exchange_faults c.args.links.now) (g.L.Links.exchange_faults c.hang_up-in-Back.new.self)
    (dial_named g.L.Dial.Dial.name c.into_dial-in-Back.result c.in-Back.mirror c.into_dial-in-Back.ensures c.args.slot g.L.Dial.Dial.address
    (ap (λ p. mirror_in (Some p)) c.in-Back.is) c.args.slot.named c.args.slot.same)
    c.hang_up-in-Back.ensures.other_faults

pub returns-in-Back-clause-exchanged : goal.returns-in-Back-clause-exchanged
returns-in-Back-clause-exchanged g c links_told =
    c.hang_up-in-Back.ensures.exchanged links_told
    ∙ ap (λ l. g.L.Links.exchanged c.args.links.now ++ l)
    (ap g.L.Dial.Dial.exchanged c.into_dial-in-Back.ensures ∙ sym (ap (exchanged_in g.L.Dial.Dial.exchanged) c.in-Back.is))

pub returns-in-Back-clause-doors : goal.returns-in-Back-clause-doors
returns-in-Back-clause-doors g c =
    record {
      faults = c.hang_up-in-Back.ensures.faults;
      out = c.hang_up-in-Back.ensures.out;
      ended = c.hang_up-in-Back.ensures.ended;
      given = c.hang_up-in-Back.ensures.given;
      left = c.hang_up-in-Back.ensures.left;
      at_hand = c.hang_up-in-Back.ensures.at_hand;
      back = c.hang_up-in-Back.ensures.back;
      listened = c.hang_up-in-Back.ensures.listened;
    }

-- ---- it is out

pub returns-clause-exchanged : goal.returns-clause-exchanged
returns-clause-exchanged g c links_told =
    sym (ap (λ l. g.L.Links.exchanged c.args.links.now ++ l) (ap (exchanged_in g.L.Dial.Dial.exchanged) c.in-Out.is)
    ∙ append-nil (g.L.Links.exchanged c.args.links.now))

pub returns-clause-dialling : goal.returns-clause-dialling
returns-clause-dialling g c = let none = ap there_in c.in-Out.is in omega (arith, none)

pub returns-clause-exchange_faults : goal.returns-clause-exchange_faults
returns-clause-exchange_faults g c = let none = ap (λ p. faults_in g.L.Dial.Dial.faults (Some p)) c.in-Out.is in omega (arith, none)

pub returns-clause-other_faults : goal.returns-clause-other_faults
returns-clause-other_faults g c = λ name other. refl

pub returns-clause-doors : goal.returns-clause-doors
returns-clause-doors g c = keeps_all g.L.Links c.args.links.now
