use Rattle.std.proofs.Common.{◌≡◌, true, false, refl, sym, ap, ◌∙◌}
use Rattle.std.specs.Prelude.{unwrap_or}
use Rattle.cqe_base.specs.History.{profile_of}
use Rattle.cqe_base.specs.Censor.{admitted}
use Rattle.censors.specs.declared.admittance.Admission.TheVariants.{Open}
use Rattle.censors.specs.Admitting.{admission_of}
use Rattle.censors.proofs.Objections.{admitted_exactly}
use Rattle.censors.proofs.admittance.admit.Goals as goal

pub returns-in-Some-clause-open : goal.returns-in-Some-clause-open
returns-in-Some-clause-open c =
    let user = profile_of c.args.user.now in
    let is : admission_of c.args.schema.now c.args.world.now user ≡ c.in-Some.found = ap (λ o. unwrap_or o Open) (sym c.in_ok-found.ensures ∙ c.in-Some.is) in
    let exactly = admitted_exactly c.args.schema.now c.args.world.now user in
    (λ e. exactly.0 (is ∙ e), λ e. sym is ∙ exactly.1 e)

pub returns-in-None-clause-open : goal.returns-in-None-clause-open
returns-in-None-clause-open c =
    let user = profile_of c.args.user.now in
    let is : admission_of c.args.schema.now c.args.world.now user ≡ Open = ap (λ o. unwrap_or o Open) (sym c.in_ok-found.ensures ∙ c.in-None.is) in
    let exactly = admitted_exactly c.args.schema.now c.args.world.now user in
    (λ e. exactly.0 is, λ e. refl)

pub returns-in-Some-clause-liars : goal.returns-in-Some-clause-liars
returns-in-Some-clause-liars c = λ lies some is_open.
    let user = profile_of c.args.user.now in
    let is : admission_of c.args.schema.now c.args.world.now user ≡ c.in-Some.found = ap (λ o. unwrap_or o Open) (sym c.in_ok-found.ensures ∙ c.in-Some.is) in
    let serves : admitted c.args.schema.now c.args.world.now user ≡ true = (admitted_exactly c.args.schema.now c.args.world.now user).0 (is ∙ is_open) in
    let never : admitted c.args.schema.now c.args.world.now user ≡ false =
    c.law_secrecy.ensures.liars c.args.schema.now c.args.world.now user c.known.ensures c.requires.sentences c.requires.pairs lies some in
    absurd (cc)

pub returns-in-None-clause-liars : goal.returns-in-None-clause-liars
returns-in-None-clause-liars c = λ lies some is_open.
    let user = profile_of c.args.user.now in
    let is : admission_of c.args.schema.now c.args.world.now user ≡ Open = ap (λ o. unwrap_or o Open) (sym c.in_ok-found.ensures ∙ c.in-None.is) in
    let serves : admitted c.args.schema.now c.args.world.now user ≡ true = (admitted_exactly c.args.schema.now c.args.world.now user).0 is in
    let never : admitted c.args.schema.now c.args.world.now user ≡ false =
    c.law_secrecy.ensures.liars c.args.schema.now c.args.world.now user c.known.ensures c.requires.sentences c.requires.pairs lies some in
    absurd (cc)
