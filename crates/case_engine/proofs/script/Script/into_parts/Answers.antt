use Rattle.std.proofs.Common.{◌≡◌, map, length, ap, ◌∙◌, refl, arith}
use Rattle.std.proofs.lemmas.List.{length-map}
use Rattle.cqe_base.specs.Formula.{formula_of}
use Rattle.cqe_base.specs.Secrecies.{with_secrecies}
use Rattle.case_engine.specs.ScriptsRead.{script_is}
use Rattle.case_engine.proofs.Parting.{are_parts}
use Rattle.case_engine.proofs.script.Script.into_parts.Goals as goal

pub returns : goal.returns
returns c =
    let self = c.args.self in
    let sized = c.len.ensures in
    let counted = length-map self.secrecies.items formula_of in
    let pairs : c.len.result ≡ length (map formula_of self.secrecies.items) = omega (arith, sized, counted, self.secrecies.ok.0) in
    are_parts c.law_pairs.ensures.made (script_is self) self.schema self.view_nodes self.sound _ refl refl
    (λ i. record {
      method = c.unwrap_or.ensures i;
      know = map formula_of self.know.items;
      secrets = (c.in_ok-with_secrecies.ensures
          ∙ ap (λ secrecies. with_secrecies (map formula_of secrecies) (map formula_of self.secrets.items)) c.as_slice.ensures.value) i;
      pairs = pairs i;
      budget = c.unwrap_or-2.ensures i;
    })
    refl
