use Rattle.std.proofs.Common.{◌∙◌, ap, ◌+◌}
use Rattle.standby_core.proofs.Hanging.{faults_once, calls_among, last_among, lies_all}
use Rattle.standby_core.specs.Slots.{exchanged_among}
use Rattle.standby_core.proofs.dialling.hang_up_all.Goals as goal

pub returns-clause-exchange_faults : goal.returns-clause-exchange_faults
returns-clause-exchange_faults g c name =
    c.hang_up_slots.ensures.exchange_faults name
    ∙ ap (λ n. g.L.Links.exchange_faults c.args.links.now name + n)
    (faults_once g.L.Dial.Dial.faults c.args.mirrors.slots.items c.args.mirrors.distinct name)

pub returns-clause-exchanged : goal.returns-clause-exchanged
returns-clause-exchanged g c told = record {
  exchanges = exchanged_among g.L.Dial.Dial.exchanged c.args.mirrors.slots.items;
  further = c.hang_up_slots.ensures.exchanged told;
  each = calls_among g.L.Dial.Dial.name g.L.Dial.Dial.address g.L.Dial.Dial.exchanged (λ mirror. mirror.calls (g.met.L.Links.tells_dials told))
      (λ slot. slot.same) c.args.mirrors.slots.items;
  answered = last_among g.L.Dial.Dial.name g.L.Dial.Dial.address g.L.Dial.Dial.answered g.L.Dial.Dial.exchanged
      (λ mirror. mirror.calls (g.met.L.Links.tells_dials told)) (λ slot. slot.same) (λ mirror. mirror.greatest (g.met.L.Links.tells_dials told))
      c.args.mirrors.slots.items;
  lie = λ bytes lie.
      lies_all g.L.Dial.Dial.tells (g.met.L.Links.tells_dials told) g.L.Dial.Dial.name g.L.Dial.Dial.address g.L.Dial.Dial.exchanged
      (λ mirror. mirror.calls (g.met.L.Links.tells_dials told)) (λ slot. slot.same) (λ slot. slot.named) c.args.mirrors.slots.items bytes lie
      c.args.mirrors.distinct;
}
