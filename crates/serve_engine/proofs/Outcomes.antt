-- What workers did at their doors, and how they served together.
use Rattle.std.proofs.Common.{◌≡◌, ◌≤◌, ◌≢◌, ◌⊎◌, inl, inr, ℕ, ◌+◌, ◌==◌, ◌||◌, Bool, true, false, List, [], ◌∷◌, ◌++◌, length, map, All, sum_by, refl, sym}
use Rattle.std.proofs.Common.{◌<◌, ap, ◌∙◌, subst, arith, eqb-true}
use Rattle.std.proofs.lemmas.List.{length-map}
use Rattle.std.specs.Prelude.{Option, Some, None, IsSome, if◌then◌else◌}
use Rattle.std.specs.List.{AllByRecursion, AllZip, list_any}
use Rattle.std.proofs.lemmas.List.Sums.{sum_by-cons, sum_by-append}
use Rattle.std.proofs.lemmas.List.Elements.{All-from_recursion, recursion_from_All, length_all_zip}
use Rattle.outside.specs.Faults.{Rose}
use Rattle.outside.specs.Visits.{Visit, one_if_any}
use Rattle.outside.specs.declared.links.Door.{Ghosts as DoorGhosts}
use Rattle.cqe_base.specs.Schema.{DatabaseSchema}
use Rattle.cqe_base.specs.Facts.{FactSet}
use Rattle.turnstile.specs.declared.pass.Pass.{Pass}
use Rattle.desk_counter.specs.declared.item.TurnItem.{TurnItem}
use Rattle.desk_counter.specs.declared.item.Fixed.{Fixed}
use Rattle.desk_counter.specs.declared.ticketed_desk.TicketedDesk.{TicketedDesk}
use Rattle.session_core.specs.declared.counters.CountersOf.{CountersOf}
use Rattle.session_core.specs.declared.counters.Passes.{Passes}
use Rattle.session_core.specs.Members.{users_of, fixeds_of, passes_in, HaveSeenLegal}
use Rattle.worker_pool.specs.declared.worker.Worker.{Worker}
use Rattle.worker_pool.specs.declared.worker.WorkerEnd.{WorkerEnd}
use Rattle.worker_pool.specs.declared.worker.WorkerEnd.TheVariants.{LinksEnded, LimitReached, LinksFailed as LinksHaveFailed}
use Rattle.worker_pool.specs.Workers.{IsWorkedThrough, lost}
use Rattle.worker_pool.proofs.Serving.{none_isnt}
use Rattle.serve_engine.specs.declared.job.SessionJobOf.{SessionJobOf}
use Rattle.serve_engine.specs.declared.serving.Outcome.{Outcome}
use Rattle.serve_engine.specs.declared.serving.Outcome.TheVariants.{Served, LinksFailed}
use Rattle.serve_engine.specs.Jobs.{job_counters, job_passes, job_runs}
use Rattle.serve_engine.specs.Served.{SessionMarks, items_told}
use Rattle.serve_engine.specs.Members.{AreIn, IsServedBy, AreServedBy, IsPassLater, ArePassesLater, OwnMore, members_of, own_at, room_in}
use Rattle.serve_engine.specs.Doors.{IsServedDoor, AreServedDoors, SomeFailed, HasOutcome, has_links_failed, crew_outcome}
use Rattle.serve_engine.specs.Passing.{AreOn, IsWorkerFresh, IsWorkerBack}
use Rattle.serve_engine.proofs.Growing.{served_later}
use Rattle.serve_engine.proofs.Later.{members_later}
use Rattle.serve_engine.proofs.Owning.{own_weight, told_weight, weigh_more}
use Rattle.serve_engine.proofs.Standing.{zip_still}
use Rattle.serve_engine.proofs.Meeting.{AllHave}

module _ {D : Type 0} where
  -- passes have as many shares later
  as_many : (n : ℕ) (old new : List (Pass TurnItem (Fixed D))) → AllZip IsPassLater old new → AllHave n old → AllHave n new
  as_many n [] [] later have = tt
  as_many n (p ∷ old) (q ∷ new) later have = (later.0.same_shares ∙ have.0, as_many n old new later.1 have.1)
  as_many n [] (q ∷ new) later have = absurd later
  as_many n (p ∷ old) [] later have = absurd later

  module _ {g h : _} (counters : CountersOf (TicketedDesk D g) TurnItem (Fixed D) h) where
    -- what was served by some passes is served by those that have seen more
    stay : (at : CountersOf (TicketedDesk D g) TurnItem (Fixed D) h) (passes final : Passes D) (visits : List Visit) (marks : List SessionMarks) → at ≡ counters
        → AreOn passes final → HaveSeenLegal (fixeds_of counters) (passes_in final)
        → AllZip (IsServedBy at passes) visits marks → AllZip (IsServedBy counters final) visits marks
    stay at passes final visits marks same on legal stand =
        let still = λ (visit : Visit) (mark : SessionMarks) (stood : IsServedBy at passes visit mark)
        (schema : DatabaseSchema) (world : FactSet) (within : AreIn schema world (fixeds_of counters)).
        served_later schema world (users_of counters) (members_of (fixeds_of counters) (passes_in passes))
        (members_of (fixeds_of counters) (passes_in final)) visit mark
        (members_later (fixeds_of counters) (passes_in passes) (passes_in final) on legal)
        (subst (λ c. IsServedBy c passes visit mark) same stood schema world within) in
        zip_still (IsServedBy at passes) (IsServedBy counters final) still visits marks stand

module _ {O S K : Type 0} (Door : DoorGhosts O S K) where
  -- Workers that ended: where links of one failed, a door has; else no door has a connection left, or one came to the limit.
  abbrev Ended : Type 0 → Bool → List O → Type 0
  Ended at_limit true doors = SomeFailed Door.faults doors
  Ended at_limit false doors = (Door.tells → AllByRecursion (λ door. Door.left door ≡ 0) doors) ⊎ at_limit

  at_end : (at_limit : Type 0) (any : Bool) (door : O) (doors : List O) → (Door.tells → Door.left door ≡ 0) → Ended at_limit any doors
      → Ended at_limit any (door ∷ doors)
  at_end at_limit true door doors none others = inr others
  at_end at_limit false door doors none (inl all) = inl (λ t. (none t, all t))
  at_end at_limit false door doors none (inr limit) = inr limit

  at_most : (at_limit : Type 0) (any : Bool) (door : O) (doors : List O) → at_limit → Ended at_limit any doors → Ended at_limit any (door ∷ doors)
  at_most at_limit true door doors limit others = inr others
  at_most at_limit false door doors limit others = inr limit

-- a count that rose isn't 0
rose : (n m : ℕ) → n ≡ 0 → Rose n m → m ≢ 0
rose n m none (inl more) = λ e. omega (arith, none, more, e)
rose n m none (inr most) = λ e. omega (arith, most, e)

-- a count that isn't 0 counts once
once : (n : ℕ) → n ≢ 0 → 1 ≤ one_if_any n
once n some = by_test (n == 0) (λ e. some (eqb-true n 0 e))
  where
    by_test : (b : Bool) → (b ≡ true → ⊥) → 1 ≤ (if b then 0 else 1)
    by_test true other = absurd (other refl)
    by_test false other = omega arith

-- a worker loses one number at most
lost_most : (end : Option WorkerEnd) → lost end ≤ 1
lost_most None = omega arith
lost_most (Some LinksEnded) = omega arith
lost_most (Some LimitReached) = omega arith
lost_most (Some LinksHaveFailed) = omega arith

module _ {X : Type 0} where
  -- what holds of each one makes another hold
  every_still : (P Q : X → Type 0) → ((x : X) → P x → Q x) → (xs : List X) → AllByRecursion P xs → AllByRecursion Q xs
  every_still P Q still [] all = tt
  every_still P Q still (x ∷ xs) all = (still x all.0, every_still P Q still xs all.1)

  -- and so do two
  every_both : (P Q R : X → Type 0) → ((x : X) → P x → Q x → R x) → (xs : List X) → AllByRecursion P xs → AllByRecursion Q xs → AllByRecursion R xs
  every_both P Q R both [] first second = tt
  every_both P Q R both (x ∷ xs) first second = (both x first.0 second.0, every_both P Q R both xs first.1 second.1)

-- where not one of two is true, neither is
neither : (a b : Bool) → a || b ≡ false → (a ≡ false) × (b ≡ false)
neither true b is = absurd cc
neither false b is = (refl, is)

module _ {D G O S K : Type 0} {g h : _} (Door : DoorGhosts O S K) where
  -- a worker before he served and after he ended
  abbrev pub Was : Worker (SessionJobOf (TicketedDesk D g) D G h) O → Worker (SessionJobOf (TicketedDesk D g) D G h) O → Type 0
  Was = IsWorkedThrough Door.tells Door.given Door.left Door.ends Door.faults Door.back
      (λ job. room_in (passes_in (job_passes job))) job_runs (λ first job visits.
      AreServedBy (job_counters job) (job_passes first) (job_passes job) visits)
      (λ before after. (job_counters after ≡ job_counters before) × ArePassesLater (job_passes before) (job_passes after))

  pub as_long : (before after : List (Worker (SessionJobOf (TicketedDesk D g) D G h) O)) → AllZip Was before after → length before ≡ length after
  as_long before after was = length_all_zip Was before after was

  -- the marks of all their connections
  abbrev all_told : Door.tells → (before after : List (Worker (SessionJobOf (TicketedDesk D g) D G h) O)) → AllZip Was before after → List SessionMarks
  all_told t [] [] was = []
  all_told t (b ∷ before) (a ∷ after) was = (was.0.back t).stand.visit_marks ++ all_told t before after was.1
  all_told t [] (a ∷ after) was = []
  all_told t (b ∷ before) [] was = []

  -- are what the passes of workers have of their own that hadn't begun
  all_own : (counters : CountersOf (TicketedDesk D g) TurnItem (Fixed D) h) (first : Passes D) (t : Door.tells) (weight : TurnItem → ℕ) (place : ℕ)
      (before after : List (Worker (SessionJobOf (TicketedDesk D g) D G h) O)) → AllByRecursion (IsWorkerFresh counters first) before
      → (was : AllZip Was before after)
      → sum_by (λ worker. own_weight weight place (passes_in (job_passes worker.job))) after ≡ told_weight weight place (all_told t before after was)
  all_own counters first t weight place [] [] fresh was = refl
  all_own counters first t weight place (b ∷ before) (a ∷ after) fresh was =
      let stand = (was.0.back t).stand in
      let none : own_weight weight place (passes_in (job_passes b.job)) ≡ 0 = ap (sum_by weight) (fresh.0.parts.none_own place) in
      let here = stand.own place weight
      ∙ weigh_more weight (own_at place (passes_in (job_passes b.job))) (items_told place) stand.visit_marks in
      let rest = all_own counters first t weight place before after fresh.1 was.1 in
      let one =
      sum_by-cons (λ (worker : Worker (SessionJobOf (TicketedDesk D g) D G h) O). own_weight weight place (passes_in (job_passes worker.job))) a after in
      let both = sum_by-append (λ marks. sum_by weight (items_told place marks)) (was.0.back t).stand.visit_marks (all_told t before after was.1) in
      omega (arith, none, here, rest, one, both)
  all_own counters first t weight place [] (a ∷ after) fresh was = absurd was
  all_own counters first t weight place (b ∷ before) [] fresh was = absurd was

  module _ (counters : CountersOf (TicketedDesk D g) TurnItem (Fixed D) h) where
    -- ---- the jobs

    -- the workers' passes can be joined again
    pub are_back : (first : Passes D) (before after : List (Worker (SessionJobOf (TicketedDesk D g) D G h) O))
        → AllByRecursion (IsWorkerFresh counters first) before
        → AllZip Was before after → AllByRecursion (IsWorkerBack counters) after
    are_back first [] [] fresh was = tt
    are_back first (b ∷ before) (a ∷ after) fresh was = (
      record {
        counters_are = was.0.keeps.0 ∙ fresh.0.counters_are;
        shares_are = as_many 1 (passes_in (job_passes b.job)) (passes_in (job_passes a.job)) was.0.keeps.1 fresh.0.parts.shares_are;
      },
      are_back first before after fresh.1 was.1,
    )
    are_back first [] (a ∷ after) fresh was = absurd was
    are_back first (b ∷ before) [] fresh was = absurd was

    -- ---- the doors

    one_served : (first final : Passes D) (before after : Worker (SessionJobOf (TicketedDesk D g) D G h) O) → IsWorkerFresh counters first before
        → AreOn (job_passes after.job) final → HaveSeenLegal (fixeds_of counters) (passes_in final) → (was : Was before after)
        → IsServedDoor Door (IsServedBy counters final) (job_runs after.job)
        (λ t. (was.back t).stand.visit_marks) before.door after.door
    one_served first final before after fresh on legal was = record {
      given = was.given;
      left = was.left;
      back = λ t. let v = was.back t in record {
        visits = v.visits;
        behind = v.behind;
        many = v.many;
        stand =
            stay counters (job_counters after.job) (job_passes after.job) final v.visits v.stand.visit_marks (was.keeps.0 ∙ fresh.counters_are) on legal
            v.stand.each;
      };
      faults = was.faults;
    }

    -- the doors' connections are served by the passes that are joined in the end
    pub all_served : (first final : Passes D) (before after : List (Worker (SessionJobOf (TicketedDesk D g) D G h) O))
        → AllByRecursion (IsWorkerFresh counters first) before
        → AllByRecursion (λ worker. AreOn (job_passes worker.job) final) after → HaveSeenLegal (fixeds_of counters) (passes_in final)
        → (was : AllZip Was before after)
        → AreServedDoors Door (IsServedBy counters final) (sum_by (λ worker. job_runs worker.job) after)
        (λ t. all_told t before after was) (map (λ worker. worker.door) before) (map (λ worker. worker.door) after)
    all_served first final [] [] fresh on legal was = (refl, λ t. refl)
    all_served first final (b ∷ before) (a ∷ after) fresh on legal was = (
      job_runs a.job,
      sum_by (λ worker. job_runs worker.job) after,
      sum_by-cons (λ (worker : Worker (SessionJobOf (TicketedDesk D g) D G h) O). job_runs worker.job) a after,
      λ t. (was.0.back t).stand.visit_marks,
      λ t. all_told t before after was.1,
      λ t. refl,
      one_served first final b a fresh.0 on.0 legal was.0,
      all_served first final before after fresh.1 on.1 legal was.1,
    )
    all_served first final [] (a ∷ after) fresh on legal was = absurd was
    all_served first final (b ∷ before) [] fresh on legal was = absurd was

  -- ---- the outcome

  have_ended : (at_limit : Type 0) (before after : List (Worker (SessionJobOf (TicketedDesk D g) D G h) O))
      → AllByRecursion (λ worker. Door.faults worker.door ≡ 0) before
      → AllByRecursion (λ worker. worker.ended ≡ Some LimitReached → at_limit) after → AllZip Was before after
      → Ended Door at_limit (list_any (λ worker. has_links_failed worker.ended) after) (map (λ worker. worker.door) after)
  have_ended at_limit [] [] whole reached was = inl (λ t. tt)
  have_ended at_limit (b ∷ before) (a ∷ after) whole reached was = by_end a.ended refl was.0.ended (have_ended at_limit before after whole.1 reached.1 was.1)
    where
      doors : List O
      doors = map (λ worker. worker.door) after

      any : Bool
      any = list_any (λ worker. has_links_failed worker.ended) after

      by_end : (end : Option WorkerEnd) → a.ended ≡ end → IsSome a.ended → Ended Door at_limit any doors
          → Ended Door at_limit (has_links_failed a.ended || any) (a.door ∷ doors)
      by_end None is some rest = absurd (none_isnt a.ended is some)
      by_end (Some LinksEnded) is some rest =
          subst (λ end. Ended Door at_limit (has_links_failed end || any) (a.door ∷ doors)) (sym is)
          (at_end Door at_limit any a.door doors (was.0.at_end is).1 rest)
      by_end (Some LimitReached) is some rest =
          subst (λ end. Ended Door at_limit (has_links_failed end || any) (a.door ∷ doors)) (sym is)
          (at_most Door at_limit any a.door doors (reached.0 is) rest)
      by_end (Some LinksHaveFailed) is some rest =
          subst (λ end. Ended Door at_limit (has_links_failed end || any) (a.door ∷ doors)) (sym is)
          (inl (rose (Door.faults b.door) (Door.faults a.door) whole.0 (was.0.at_failure is)))
  have_ended at_limit [] (a ∷ after) whole reached was = absurd was
  have_ended at_limit (b ∷ before) [] whole reached was = absurd was

  -- where no links failed, each number that was lost was drawn at a door that answered that no further connection comes
  lost_at_ends : (before after : List (Worker (SessionJobOf (TicketedDesk D g) D G h) O)) → AllByRecursion (λ worker. Door.ends worker.door ≡ 0) before
      → AllZip Was before after
      → list_any (λ worker. has_links_failed worker.ended) after ≡ false
      → sum_by (λ worker. lost worker.ended) after ≤ sum_by (λ door. one_if_any (Door.ends door)) (map (λ worker. worker.door) after)
  lost_at_ends [] [] unended was none = omega arith
  lost_at_ends (b ∷ before) (a ∷ after) unended was none =
      let two = neither (has_links_failed a.ended) (list_any (λ worker. has_links_failed worker.ended) after) none in
      let here = by_end a.ended refl in
      let others = lost_at_ends before after unended.1 was.1 two.1 in
      let first = sum_by-cons (λ (worker : Worker (SessionJobOf (TicketedDesk D g) D G h) O). lost worker.ended) a after in
      let second = sum_by-cons (λ (door : O). one_if_any (Door.ends door)) a.door (map (λ worker. worker.door) after) in
      omega (arith, here two.0, others, first, second)
    where
      by_end : (end : Option WorkerEnd) → a.ended ≡ end → has_links_failed end ≡ false → lost end ≤ one_if_any (Door.ends a.door)
      by_end None is whole = omega arith
      by_end (Some LinksEnded) is whole = once (Door.ends a.door) (rose (Door.ends b.door) (Door.ends a.door) unended.0 (was.0.at_end is).0)
      by_end (Some LimitReached) is whole = omega arith
      by_end (Some LinksHaveFailed) is whole = absurd cc
  lost_at_ends [] (a ∷ after) unended was none = absurd was
  lost_at_ends (b ∷ before) [] unended was none = absurd was

  -- a worker who came to the limit lost no number, so fewer were lost than there are workers
  fewer_lost : (front size : ℕ) → front ≤ size → (after : List (Worker (SessionJobOf (TicketedDesk D g) D G h) O))
      → (front + sum_by (λ worker. lost worker.ended) after ≤ size + length after)
      × AllByRecursion (λ worker. worker.ended ≡ Some LimitReached → front + sum_by (λ other. lost other.ended) after < size + length after) after
  fewer_lost front size few [] = (omega (arith, few), tt)
  fewer_lost front size few (a ∷ after) =
      let one = lost_most a.ended in
      let all = sum_by-cons (λ (worker : Worker (SessionJobOf (TicketedDesk D g) D G h) O). lost worker.ended) a after in
      let none = fewer_lost front size few after in
      let rest = fewer_lost (front + lost a.ended) (size + 1) (omega (arith, few, one)) after in (
        omega (arith, all, rest.0),
        (
          λ is. let zero = ap lost is in let those = none.0 in omega (arith, all, zero, those),
          every_still (λ worker. worker.ended ≡ Some LimitReached
              → (front + lost a.ended) + sum_by (λ other. lost other.ended) after < (size + 1) + length after)
              (λ worker. worker.ended ≡ Some LimitReached → front + sum_by (λ other. lost other.ended) (a ∷ after) < size + length (a ∷ after))
              (λ worker less is. let fewer = less is in omega (arith, all, fewer)) after rest.1,
        ),
      )

  -- the runs reach the limit, together with the numbers that were lost, and these are fewer than the workers
  abbrev AtLimit : ℕ → List (Worker (SessionJobOf (TicketedDesk D g) D G h) O) → Type 0
  AtLimit limit after = (limit ≤ sum_by (λ other. job_runs other.job) after + sum_by (λ other. lost other.ended) after)
      × (0 + sum_by (λ other. lost other.ended) after < 0 + length after)

  -- how the workers served together
  pub has_outcome : (limit : ℕ) (before after : List (Worker (SessionJobOf (TicketedDesk D g) D G h) O))
      → AllByRecursion (λ worker. Door.faults worker.door ≡ 0) before → AllByRecursion (λ worker. Door.ends worker.door ≡ 0) before
      → AllByRecursion (λ worker. worker.ended ≡ Some LimitReached
      → limit ≤ sum_by (λ other. job_runs other.job) after + sum_by (λ other. lost other.ended) after) after → AllZip Was before after
      → HasOutcome Door limit (crew_outcome after) (sum_by (λ worker. job_runs worker.job) after) (map (λ worker. worker.door) after)
  has_outcome limit before after whole unended reached was =
      of_any (list_any (λ worker. has_links_failed worker.ended) after) refl
      (have_ended (AtLimit limit after) before after whole
      (every_both (λ worker. worker.ended ≡ Some LimitReached → limit ≤ sum_by (λ other. job_runs other.job) after + sum_by (λ other. lost other.ended) after)
      (λ worker. worker.ended ≡ Some LimitReached → 0 + sum_by (λ other. lost other.ended) after < 0 + length after)
      (λ worker. worker.ended ≡ Some LimitReached → AtLimit limit after) (λ worker most fewer is. (most is, fewer is)) after reached
      (fewer_lost 0 0 (omega arith) after).1)
      was)
    where
      of_any : (any : Bool) → list_any (λ worker. has_links_failed worker.ended) after ≡ any
          → Ended Door (AtLimit limit after) any (map (λ worker. worker.door) after)
          → HasOutcome Door limit (if any then LinksFailed else Served) (sum_by (λ worker. job_runs worker.job) after)
          (map (λ worker. worker.door) after)
      of_any true is failed = failed
      of_any false is (inl all) = λ t. inl (All-from_recursion (λ door. Door.left door ≡ 0) (map (λ worker. worker.door) after) (all t))
      of_any false is (inr (most, fewer)) = λ t.
          let ends = lost_at_ends before after unended was is in
          let many = length-map after (λ (worker : Worker (SessionJobOf (TicketedDesk D g) D G h) O). worker.door) in
          inr (omega (arith, most, ends), omega (arith, most, fewer, many))

  -- all that is said of doors whose workers served them
  pub served_together : (counters : CountersOf (TicketedDesk D g) TurnItem (Fixed D) h) (first final : Passes D) (limit : ℕ) (outcome : Outcome)
      (doors others : List O) (before after : List (Worker (SessionJobOf (TicketedDesk D g) D G h) O))
      → map (λ worker. worker.door) before ≡ doors → others ≡ map (λ worker. worker.door) after → outcome ≡ crew_outcome after
      → All (λ door. Door.faults door ≡ 0) doors → All (λ door. Door.ends door ≡ 0) doors
      → All (IsWorkerFresh counters first) before → All (λ worker. AreOn (job_passes worker.job) final) after
      → HaveSeenLegal (fixeds_of counters) (passes_in final)
      → All (λ worker. worker.ended ≡ Some LimitReached → limit ≤ sum_by (λ other. job_runs other.job) after + sum_by (λ other. lost other.ended) after) after
      → AllZip Was before after → sum_by (λ other. job_runs other.job) after ≤ limit
      → ((weight : TurnItem → ℕ) (place : ℕ)
      → own_weight weight place (passes_in final)
      ≡ own_weight weight place (passes_in first) + sum_by (λ worker. own_weight weight place (passes_in (job_passes worker.job))) after)
      → (total : ℕ) × (marks : Door.tells → List SessionMarks)
      × AreServedDoors Door (IsServedBy counters final) total marks doors others
      × HasOutcome Door limit outcome total others × (total ≤ limit)
      × ((t : Door.tells) → OwnMore (passes_in first) (passes_in final) (marks t))
  served_together counters first final limit outcome doors others before after doors_are others_are outcome_is whole unended fresh on legal reached was below
      own =
      let total = sum_by (λ (worker : Worker (SessionJobOf (TicketedDesk D g) D G h) O). job_runs worker.job) after in
      let marks : Door.tells → List SessionMarks = λ t. all_told t before after was in
      let served = all_served counters first final before after (recursion_from_All (IsWorkerFresh counters first) before fresh)
      (recursion_from_All (λ worker. AreOn (job_passes worker.job) final) after on) legal was in
      let ended = has_outcome limit before after (by_door Door.faults whole) (by_door Door.ends unended)
      (recursion_from_All (λ worker. worker.ended ≡ Some LimitReached
      → limit ≤ sum_by (λ other. job_runs other.job) after + sum_by (λ other. lost other.ended) after) after reached) was in (
        total,
        marks,
        subst (λ ds. AreServedDoors Door (IsServedBy counters final) total marks ds others) doors_are
            (subst (λ ds. AreServedDoors Door (IsServedBy counters final) total marks
            (map (λ worker. worker.door) before) ds) (sym others_are) served),
        subst (λ o. HasOutcome Door limit o total others) (sym outcome_is)
            (subst (λ ds. HasOutcome Door limit (crew_outcome after) total ds) (sym others_are) ended),
        below,
        λ t place weight.
            let all = own weight place in
            let here = all_own counters first t weight place before after (recursion_from_All (IsWorkerFresh counters first) before fresh) was in
            let told = weigh_more weight (own_at place (passes_in first)) (items_told place) (all_told t before after was) in
            omega (arith, all, here, told),
      )
    where
      at_workers : (f : O → ℕ) (crew : List (Worker (SessionJobOf (TicketedDesk D g) D G h) O))
          → AllByRecursion (λ door. f door ≡ 0) (map (λ worker. worker.door) crew) → AllByRecursion (λ worker. f worker.door ≡ 0) crew
      at_workers f [] all = tt
      at_workers f (w ∷ crew) all = (all.0, at_workers f crew all.1)

      by_door : (f : O → ℕ) → All (λ door. f door ≡ 0) doors → AllByRecursion (λ worker. f worker.door ≡ 0) before
      by_door f all = at_workers f before
          (recursion_from_All (λ door. f door ≡ 0) (map (λ worker. worker.door) before) (subst (All (λ door. f door ≡ 0)) (sym doors_are) all))
