-- What passes have seen stays legal, and hides; and whose desks they are at.
use Rattle.std.proofs.Common.{◌≡◌, ℕ, zero, suc, ◌<◌, Bool, true, false, List, [], ◌∷◌, map, length, get_or, refl, sym, ap, ◌∙◌, subst, arith}
use Rattle.std.specs.Prelude.{slice_set, leb, cond}
use Rattle.std.proofs.lemmas.List.{length-map}
use Rattle.cqe_base.specs.History.{UserProfile, profile_of, is_history_of}
use Rattle.cqe_base.specs.Censor.{IsLegal}
use Rattle.cqe_base.specs.Hiding.{LegalHistoriesHide}
use Rattle.cqe_base.specs.declared.user.User.{User}
use Rattle.turnstile.specs.declared.view.View.{View}
use Rattle.turnstile.specs.declared.pass.Pass.{Pass}
use Rattle.turnstile.specs.History.{longer}
use Rattle.turnstile.specs.Passes.{seen}
use Rattle.user_desk.specs.Desks.{desk_user}
use Rattle.desk_counter.specs.declared.item.TurnItem.{TurnItem}
use Rattle.desk_counter.specs.declared.item.Fixed.{Fixed}
use Rattle.desk_counter.specs.declared.ticketed_desk.TicketedDesk.{TicketedDesk}
use Rattle.desk_counter.specs.declared.counter.CounterOf.{CounterOf}
use Rattle.desk_counter.specs.Counters.{kept_by}
use Rattle.desk_counter.specs.Items.{history_of, is_broke_last}
use Rattle.desk_counter.specs.Tickets.{desk_of}
use Rattle.session_core.specs.Owners.{owners_by}
use Rattle.session_core.specs.Members.{AreDesksOf, HasSeenLegal, HaveSeenLegal, EachHides, ArePasses, AreSplit, AreMet}

module _ {D : Type 0} where
  -- there are as many desks as users
  pub desks_counted : (users : List User) (fixeds : List (Fixed D)) → AreDesksOf users fixeds → length users ≡ length fixeds
  desks_counted users fixeds desks = sym (length-map users profile_of) ∙ ap length (sym desks) ∙ length-map fixeds (λ (fixed : Fixed D). fixed.user)

  -- a pass that has seen as much has seen what is legal
  same_seen : (fixed : Fixed D) (p q : Pass TurnItem (Fixed D)) → seen q ≡ seen p → HasSeenLegal fixed p → HasSeenLegal fixed q
  same_seen fixed p q same legal = record {
    valid = legal.valid;
    user_of = legal.user_of;
    admits = legal.admits;
    legal = subst (λ ps. IsLegal fixed.schema fixed.world fixed.user (history_of ps)) (sym same) legal.legal;
    sentences = ap (λ ps. is_history_of fixed.schema (history_of ps)) same ∙ legal.sentences;
    last = ap is_broke_last same ∙ legal.last;
  }

  -- so has one that has seen the longer of what two have
  longer_seen : (fixed : Fixed D) (p q r : Pass TurnItem (Fixed D)) → seen r ≡ longer (seen p) (seen q) → HasSeenLegal fixed p → HasSeenLegal fixed q
      → HasSeenLegal fixed r
  longer_seen fixed p q r is first second = by (leb (length (seen p)) (length (seen q))) is
    where
      by : (t : Bool) → seen r ≡ cond t (seen q) (seen p) → HasSeenLegal fixed r
      by true same = same_seen fixed q r same second
      by false same = same_seen fixed p r same first

  -- what is legal hides
  pub all_hide : LegalHistoriesHide → (fixeds : List (Fixed D)) (passes : List (Pass TurnItem (Fixed D))) → HaveSeenLegal fixeds passes
      → EachHides fixeds passes
  all_hide hide [] [] legal = tt
  all_hide hide (f ∷ fixeds) (p ∷ passes) legal = (
    λ admits. hide f.schema f.world f.user (history_of (seen p)) legal.0.valid legal.0.user_of legal.0.sentences admits legal.0.legal,
    all_hide hide fixeds passes legal.1,
  )
  all_hide hide [] (p ∷ passes) legal = absurd legal
  all_hide hide (f ∷ fixeds) [] legal = absurd legal

module _ {D : Type 0} {g h : _} where
  -- the owners of the desks are their users
  pub owners_are : (counters : List (CounterOf (TicketedDesk D g) TurnItem (Fixed D) h))
      → owners_by (λ value. desk_user (desk_of value)) counters ≡ map (λ (fixed : Fixed D). fixed.user) (map kept_by counters)
  owners_are [] = refl
  owners_are (c ∷ counters) = ap (λ (us : List UserProfile). (kept_by c).user ∷ us) (owners_are counters)

  -- another pass there, which has seen what is legal
  pub legal_set : (counters : List (CounterOf (TicketedDesk D g) TurnItem (Fixed D) h)) (passes : List (Pass TurnItem (Fixed D))) (place : ℕ)
      (new : Pass TurnItem (Fixed D)) (c : CounterOf (TicketedDesk D g) TurnItem (Fixed D) h) → place < length counters
      → HaveSeenLegal (map kept_by counters) passes
      → IsLegal (kept_by (get_or counters place c)).schema (kept_by (get_or counters place c)).world (kept_by (get_or counters place c)).user
      (history_of (seen new))
      → is_history_of (kept_by (get_or counters place c)).schema (history_of (seen new)) ≡ true → is_broke_last (seen new) ≡ true
      → HaveSeenLegal (map kept_by counters) (slice_set passes place new)
  legal_set [] [] place new c low legal is all last = absurd (omega (arith, low))
  legal_set (d ∷ counters) (p ∷ passes) zero new c low legal is all last =
      (record { valid = legal.0.valid; user_of = legal.0.user_of; admits = legal.0.admits; legal = is; sentences = all; last = last }, legal.1)
  legal_set (d ∷ counters) (p ∷ passes) (suc place) new c low legal is all last =
      (legal.0, legal_set counters passes place new c (omega (arith, low)) legal.1 is all last)
  legal_set [] (p ∷ passes) place new c low legal is all last = absurd legal
  legal_set (d ∷ counters) [] place new c low legal is all last = absurd legal

  -- Passes are at these counters, and have seen what is legal.
  pub record AreLegal (passes : List (Pass TurnItem (Fixed D))) (counters : List (CounterOf (TicketedDesk D g) TurnItem (Fixed D) h)) : Type 0 where
    pub are : ArePasses passes counters
    pub legal : HaveSeenLegal (map kept_by counters) passes

  -- where passes were split, both the rest and the parts are so
  pub split_legal : (counters : List (CounterOf (TicketedDesk D g) TurnItem (Fixed D) h)) (olds news parts : List (Pass TurnItem (Fixed D)))
      → AreSplit counters olds news parts → HaveSeenLegal (map kept_by counters) olds → AreLegal news counters × AreLegal parts counters
  split_legal [] [] [] [] split legal = (record { are = tt; legal = tt }, record { are = tt; legal = tt })
  split_legal (c ∷ counters) (o ∷ olds) (m ∷ news) (p ∷ parts) split legal =
      let rest = split_legal counters olds news parts split.1 legal.1 in
      let kept : seen m ≡ seen o = ap (λ (v : View TurnItem (Fixed D)). v.seen) split.0.rest in
      let given : seen p ≡ seen o = ap (λ (v : View TurnItem (Fixed D)). v.seen) split.0.part_view in (
        record { are = (split.0.rest_is, rest.0.are); legal = (same_seen (kept_by c) o m kept legal.0, rest.0.legal) },
        record { are = (split.0.part_is, rest.1.are); legal = (same_seen (kept_by c) o p given legal.0, rest.1.legal) },
      )
  split_legal [] [] [] (p ∷ parts) split legal = absurd split
  split_legal [] [] (m ∷ news) parts split legal = absurd split
  split_legal [] (o ∷ olds) news parts split legal = absurd split
  split_legal (c ∷ counters) [] news parts split legal = absurd split
  split_legal (c ∷ counters) (o ∷ olds) [] parts split legal = absurd split
  split_legal (c ∷ counters) (o ∷ olds) (m ∷ news) [] split legal = absurd split

  -- and so are passes that met
  pub met_legal : (counters : List (CounterOf (TicketedDesk D g) TurnItem (Fixed D) h)) (olds others news : List (Pass TurnItem (Fixed D)))
      → AreMet counters olds others news → HaveSeenLegal (map kept_by counters) olds → HaveSeenLegal (map kept_by counters) others → AreLegal news counters
  met_legal [] [] [] [] met first second = record { are = tt; legal = tt }
  met_legal (c ∷ counters) (o ∷ olds) (t ∷ others) (m ∷ news) met first second =
      let rest = met_legal counters olds others news met.1 first.1 second.1 in
      let both : seen m ≡ longer (seen o) (seen t) = ap (λ (v : View TurnItem (Fixed D)). v.seen) met.0.view in
      record { are = (met.0.pass_is, rest.are); legal = (longer_seen (kept_by c) o t m both first.0 second.0, rest.legal) }
  met_legal [] [] [] (m ∷ news) met first second = absurd met
  met_legal [] [] (t ∷ others) news met first second = absurd met
  met_legal [] (o ∷ olds) others news met first second = absurd met
  met_legal (c ∷ counters) [] others news met first second = absurd met
  met_legal (c ∷ counters) (o ∷ olds) [] news met first second = absurd met
  met_legal (c ∷ counters) (o ∷ olds) (t ∷ others) [] met first second = absurd met
