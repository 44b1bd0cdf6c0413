use Rattle.std.proofs.Common.{◌≡◌, ◌≤◌, nat_le, true, sym, ap, subst, ◌∙◌, arith}
use Rattle.std.proofs.lemmas.List.{length-map}
use Rattle.std.proofs.lemmas.Bool.{leb-true}
use Rattle.cqe_base.specs.Formula.{formula_of, nodes, is_sentence_of}
use Rattle.cqe_base.specs.History.{profile_of}
use Rattle.two_worlds.proofs.HiddenSecrets.{guard_passes}
use Rattle.two_worlds.proofs.worlds.ground_guard.Goals as goal

pub new-requires-clause-sentence : goal.new-requires-clause-sentence
new-requires-clause-sentence c =
    let fits = c.requires.fits in
    ap (is_sentence_of c.args.schema.now) c.in_ok-sentence.ensures
    ∙ guard_passes (profile_of c.args.user.now) c.args.secret
    (omega (
      arith,
      length-map c.args.user.now.secrets.items formula_of,
      c.args.user.now.secrets.ok.0,
      c.requires.secret,
    )) (is_sentence_of c.args.schema.now) fits.guarded_sentences

pub new-requires-clause-small : goal.new-requires-clause-small
new-requires-clause-small c =
    let fits = c.requires.fits in
    subst (λ s. nodes c.args.schema.now s ≤ 40000) (sym c.in_ok-sentence.ensures) (leb-true _ 40000
    (guard_passes (profile_of c.args.user.now) c.args.secret
    (omega (
      arith,
      length-map c.args.user.now.secrets.items formula_of,
      c.args.user.now.secrets.ok.0,
      c.requires.secret,
    )) (λ goal. nat_le (nodes c.args.schema.now goal) 40000) fits.guarded_nodes))
