use Rattle.std.proofs.Common.{refl, arith}
use Rattle.censors.proofs.Parting.{cut-ends}
use Rattle.censors.proofs.parts.cut_of.Goals as goal

pub returns-clause-cut : goal.returns-clause-cut
returns-clause-cut c =
    let lead = c.lead_of-lead.ensures in
    let one = c.share_of-one.ensures.within in
    let two = c.share_of-two.ensures.within in
    let three = c.share_of-three.ensures.within in
    record { whole = refl; second = omega arith; third = omega arith; last = omega (arith, lead, one, two, three) }

pub returns-clause-end : goal.returns-clause-end
returns-clause-end c =
    let lead = c.lead_of-lead.ensures in
    let one = c.share_of-one.ensures in
    let two = c.share_of-two.ensures in
    let three = c.share_of-three.ensures in
    cut-ends _ c.args.parts c.requires.some
    (λ few. let all = one.last few in omega (arith, lead, all))
    (λ few. let all = two.last (omega (arith, few)) in omega (arith, lead, one.within, two.within, all))
    (λ few. let all = three.last (omega (arith, few)) in omega (arith, lead, one.within, two.within, three.within, all))
