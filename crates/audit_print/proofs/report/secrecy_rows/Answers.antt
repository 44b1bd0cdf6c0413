use Rattle.std.proofs.Common.{◌≤◌, ◌+◌, ◌*◌, ◌∷◌, [], ◌++◌, length, map, sym, ap, ◌∙◌, arith}
use Rattle.std.proofs.lemmas.List.{map-append}
use Rattle.audit_text.specs.Rows.{secrecy_in, secret_in}
use Rattle.audit_print.specs.Said.{secrecy_of}
use Rattle.audit_print.proofs.Pairing.{taken}
use Rattle.audit_print.proofs.report.secrecy_rows.Goals as goal

pub loop-preserved : goal.loop-preserved
loop-preserved c =
    let all = c.args.secrets.now.items in
    let n = c.loop.counter in
    let enough : 2 * (n + 1) ≤ length all = omega (arith, c.loop-test.true, c.requires, c.args.secrets.now.ok.0) in
    let next = taken secret_in all c.loop.secrets.items c.remove-stated.new.self.items c.remove-negated.new.self.items c.remove-stated.result
    c.remove-negated.result n c.loop.invariant.rest enough c.remove-stated.ensures.value c.remove-stated.ensures.items
    c.remove-negated.ensures.value c.remove-negated.ensures.items in
    record {
      secrecies = ap (map secrecy_in) c.in_ok-push.ensures.items ∙ map-append secrecy_in c.loop.rows.items _
          ∙ ap (λ l. l ++ secrecy_of (secret_in c.remove-stated.result) (secret_in c.remove-negated.result) ∷ []) c.loop.invariant.secrecies ∙ sym next.0;
      rest = sym next.1;
    }
