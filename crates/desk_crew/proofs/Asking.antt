-- A call at a user's desk.
use Rattle.std.proofs.Common.{◌≡◌, ℕ, List, sym, ap, subst, ◌∙◌}
use Rattle.cqe_base.specs.declared.user.Purpose.{Purpose}
use Rattle.cqe_base.specs.Schema.{Text, DatabaseSchema}
use Rattle.cqe_base.specs.Facts.{FactSet}
use Rattle.cqe_base.specs.History.{profile_of}
use Rattle.cqe_base.specs.Run
use Rattle.cqe_base.specs.Run.{UserState}
use Rattle.desk_counter.specs.Lives.{IsCallOf}
use Rattle.desk_crew.specs.Crew.{seat_user, seat_journal, seat_kept, IsSeatIn, IsSeatServed, IsToldAt}
use Rattle.desk_crew.specs.Seats.{DeskSeat}
use Rattle.desk_counter.specs.declared.item.Fixed.{Fixed}
use Rattle.censors.specs.Admitting.{admission_of}

module _ {D : Type 0} {g h : _} where
  -- what was settled at a desk, for what the call was made, was told at its seat
  pub told_of : (old new : DeskSeat D g h) (purpose made : Purpose) (text : Text) (reply : Run.Reply) → purpose ≡ made → seat_user new ≡ seat_user old
      → new.admission ≡ old.admission → seat_journal new ≡ seat_journal old → new.refusal ≡ old.refusal → seat_kept new ≡ seat_kept old
      → (seat_kept old).user ≡ profile_of (seat_user old)
      → ((state : UserState) → IsSeatIn old state → IsCallOf (seat_kept old).schema (seat_kept old).world (seat_kept old).user
      (IsSeatIn new) state made text reply)
      → IsToldAt (seat_kept old).schema (seat_kept old).world purpose text reply old new
  told_of old new purpose made text reply is_made user_is admission_is journal_is refusal_is kept_is is settled = record {
    user_is = user_is;
    admission_is = admission_is;
    journal_is = journal_is;
    refusal_is = refusal_is;
    kept_is = kept_is;
    settled = λ state at. subst (λ p. IsCallOf (seat_kept old).schema (seat_kept old).world p (IsSeatIn new) state purpose text reply) is
        (subst (λ q. IsCallOf (seat_kept old).schema (seat_kept old).world (seat_kept old).user (IsSeatIn new) state q text reply) (sym is_made)
        (settled state at));
  }

  -- the same of the schema and the world of a seat that is served
  pub told_served : (schema : DatabaseSchema) (world : FactSet) (header : List ℕ) (old new : DeskSeat D g h) (purpose : Purpose) (text : Text)
      (reply : Run.Reply) → IsSeatServed schema world header old
      → IsToldAt (seat_kept old).schema (seat_kept old).world purpose text reply old new → IsToldAt schema world purpose text reply old new
  told_served schema world header old new purpose text reply served is =
      subst (λ s. IsToldAt s world purpose text reply old new) served.schema_is
      (subst (λ w. IsToldAt (seat_kept old).schema w purpose text reply old new) served.world_is is)

  -- and a seat that is told a reply is served as before
  pub still_served : (schema : DatabaseSchema) (world : FactSet) (header : List ℕ) (old new : DeskSeat D g h) (purpose : Purpose) (text : Text)
      (reply : Run.Reply) → IsToldAt schema world purpose text reply old new → IsSeatServed schema world header old → IsSeatServed schema world header new
  still_served schema world header old new purpose text reply told served = record {
    schema_is = ap (λ (f : Fixed D). f.schema) told.kept_is ∙ served.schema_is;
    world_is = ap (λ (f : Fixed D). f.world) told.kept_is ∙ served.world_is;
    header_is = ap (λ (f : Fixed D). f.header) told.kept_is ∙ served.header_is;
    user_is = ap (λ (f : Fixed D). f.user) told.kept_is ∙ served.user_is ∙ ap profile_of (sym told.user_is);
    admission_is = told.admission_is ∙ served.admission_is ∙ ap (λ u. admission_of schema world (profile_of u)) (sym told.user_is);
  }
