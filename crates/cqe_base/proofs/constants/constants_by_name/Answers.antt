use Rattle.std.proofs.Common.{◌∷◌, ◌∙◌, sym, drop, map, drop-cons, add-one}
use Rattle.std.specs.HashMap.{get_by_text}
use Rattle.cqe_base.specs.Schema.{constant_in}
use Rattle.cqe_base.specs.Memory.{named_domain_of}
use Rattle.cqe_base.proofs.ByName.{domain_added}
use Rattle.cqe_base.proofs.constants.constants_by_name.Goals as goal

pub loop-number-preserved : goal.loop-number-preserved
loop-number-preserved c =
    domain_added (get_by_text c.loop-number.by_name) (get_by_text c.add_constants.new.by_name)
    (constant_in 0 (map named_domain_of c.args.domains.now)) c.loop-number.number c.args.domains.now c.index-domains-number.result _
    (drop-cons c.args.domains.now c.loop-number.number c.index-domains-number.result c.loop-number-test.true
    ∙ (λ i. sym c.index-domains-number.is i ∷ drop (sym (add-one c.loop-number.number) i) c.args.domains.now))
    c.as_slice.ensures.value
    c.in_ok-add_constants.ensures
    c.loop-number.invariant
