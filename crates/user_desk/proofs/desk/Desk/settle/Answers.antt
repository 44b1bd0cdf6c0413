use Rattle.std.proofs.Common.{◌≡◌, true, false, ap, sym, ◌∙◌}
use Rattle.std.specs.Prelude.{Option, is_some}
use Rattle.cqe_base.specs.History.{AnsweredQuery}
use Rattle.user_desk.specs.Stored.{stored_disk}
use Rattle.user_desk.proofs.Recording.{still_holds, code_holds}
use Rattle.user_desk.proofs.desk.Desk.settle.Goals as goal

pub returns-in-Some-clause-settled : goal.returns-in-Some-clause-settled
returns-in-Some-clause-settled g c state at = c.in-Some.ensures.answers state at c.args.purpose c.args.text.now
    (g.D.Disk.faults (stored_disk c.args.self.now.store))

pub returns-in-Some-clause-moments : goal.returns-in-Some-clause-moments
returns-in-Some-clause-moments g c told served c' here =
    let desk = c.args.self.now in
    code_holds _ _ _ _ _ _ _ _ _ _ _ desk.kept c.known.ensures.legal c.known.ensures.sizes c.args.purpose c.args.text.now served c.in-Some.ensures.adds told c'
    (g.met.D.Disk.only_now (stored_disk desk.store) c' here)

pub returns-in-Err-clause-moments : goal.returns-in-Err-clause-moments
returns-in-Err-clause-moments g c told served c' here =
    let desk = c.args.self.now in
    still_holds _ _ _ _ _ _ _ _ _ _ _ desk.kept c.known.ensures.legal c.known.ensures.sizes c.args.purpose c.args.text.now served
    c.in_default.ensures.whole told c'
    (g.met.D.Disk.only_now (stored_disk desk.store) c' here)

pub returns-in-Ok-Answer-clause-still_broken : goal.returns-in-Ok-Answer-clause-still_broken
returns-in-Ok-Answer-clause-still_broken g c broke =
    let e : false ≡ true = sym (ap (λ (o : Option AnsweredQuery). is_some o) c.in_default.ensures.whole) ∙ broke in absurd cc
