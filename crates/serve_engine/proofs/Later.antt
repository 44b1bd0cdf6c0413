-- The passes after a session.
use Rattle.std.proofs.Common.{◌≡◌, ℕ, ◌≤◌, ◌+◌, ◌*◌, ◌/◌, ◌^◌, min, true, false, List, [], ◌∷◌, ◌++◌, length, refl, sym, ap, ◌∙◌, subst, arith}
use Rattle.std.specs.Prelude.{Option, Some, None}
use Rattle.std.specs.List.{AllByRecursion, AllZip}
use Rattle.std.proofs.lemmas.List.{append-nil, length-append}
use Rattle.std.proofs.Math.Nat.{min-le_left, min-le_right, le-min}
use Rattle.cqe_base.specs.Schema.{DatabaseSchema, Text}
use Rattle.cqe_base.specs.Facts.{FactSet}
use Rattle.cqe_base.specs.Run.{Reply}
use Rattle.turnstile.specs.declared.pass.Pass.{Pass}
use Rattle.turnstile.specs.History.{IsPrefix}
use Rattle.turnstile.specs.Passes.{seen, turns}
use Rattle.user_desk.specs.Standings.{standing_of}
use Rattle.desk_counter.specs.declared.item.TurnItem.{TurnItem}
use Rattle.desk_counter.specs.declared.item.Fixed.{Fixed}
use Rattle.desk_counter.specs.Items.{history_of, has_broke, is_broke_last}
use Rattle.session_core.specs.Replied.{Replied}
use Rattle.session_core.specs.Members.{HaveSeenLegal}
use Rattle.session_core.specs.Desks.{AsksAt, AsksOf}
use Rattle.session_core.specs.Desks as desks
use Rattle.session_core.proofs.Replying.{from_earlier, broke_on, none_after}
use Rattle.desk_counter.proofs.Pairs.{history_all}
use Rattle.serve_engine.specs.Served.{IsLater, RepliedAt, here, further, RepliedTo}
use Rattle.serve_engine.specs.Members.{members_of, AreIn, HaveSeenOpenings, IsPassLater, room_in}
use Rattle.serve_engine.specs.Keeping.{same_passes}
use Rattle.serve_engine.proofs.Owning.{entries_at, entries_of, flight_at, flight_of}

-- ---- turns

-- the least of two numbers falls by one at most where both do
least_falls : (a b m n : ℕ) → a ≤ b + 1 → m ≤ n + 1 → min a m ≤ min b n + 1
least_falls a b m n first second =
    let left = min-le_left a m in
    let right = min-le_right a m in
    omega (arith, first, second, left, right)

-- where turns were used for as many asks as a session has, there is room for one session less
room_falls : (old new asks : ℕ) → asks ≤ 25600000 → old ≤ new + 2 * asks → old / 2 ^ 26 ≤ new / 2 ^ 26 + 1
room_falls old new asks few used = omega (arith, few, used)

module _ {D : Type 0} where
  -- where there is room for a session, each pass has the turns for it
  pub turns_enough : (passes : List (Pass TurnItem (Fixed D))) → 1 ≤ room_in passes → AllByRecursion (λ pass. 2 ^ 26 ≤ turns pass) passes
  turns_enough [] room = tt
  turns_enough (p ∷ passes) room =
      let left = min-le_left (turns p / 2 ^ 26) (room_in passes) in
      let right = min-le_right (turns p / 2 ^ 26) (room_in passes) in
      let this : 1 ≤ turns p / 2 ^ 26 = omega (arith, room, left) in
      (omega (arith, this), turns_enough passes (omega (arith, room, right)))

  at_room : {place : ℕ} {fixeds : List (Fixed D)} {old new : List (Pass TurnItem (Fixed D))} {asks : List (Text × Reply)} → length asks ≤ 25600000
      → AsksAt place fixeds old new asks → room_in old ≤ room_in new + 1
  at_room few (desks.here {old = p} {new = q} {rest = rest} {asks = asks} is) =
      least_falls (turns p / 2 ^ 26) (turns q / 2 ^ 26) (room_in rest) (room_in rest) (room_falls (turns p) (turns q) (length asks) few is.used) (omega arith)
  at_room few (desks.further {same = p} {old = old} {new = new} deep) =
      least_falls (turns p / 2 ^ 26) (turns p / 2 ^ 26) (room_in old) (room_in new) (omega arith) (at_room few deep)

  -- where each pass has the turns of one that was split off, there is room for 2^31 sessions
  pub room_enough : (passes : List (Pass TurnItem (Fixed D))) → AllByRecursion (λ pass. 2 ^ 57 ≤ turns pass) passes → 2 ^ 31 ≤ room_in passes
  room_enough [] all = omega arith
  room_enough (p ∷ passes) all = let this : 2 ^ 31 ≤ turns p / 2 ^ 26 = omega (arith, all.0) in le-min this (room_enough passes all.1)

  -- behind a session there is room for one less at most
  pub of_room : (who : Option ℕ) (fixeds : List (Fixed D)) (old new : List (Pass TurnItem (Fixed D))) (asks : List (Text × Reply)) → length asks ≤ 25600000
      → AsksOf who fixeds old new asks → room_in old ≤ room_in new + 1
  of_room None fixeds old new asks few is = let same = ap room_in is.0 in omega (arith, same)
  of_room (Some place) fixeds old new asks few is = at_room few is

  -- ---- what was seen

  -- a pass has seen all that another has
  abbrev pub SeesMore : Pass TurnItem (Fixed D) → Pass TurnItem (Fixed D) → Type 0
  SeesMore pass other = IsPrefix (seen pass) (seen other)

  at_passes : {place : ℕ} {fixeds : List (Fixed D)} {old new : List (Pass TurnItem (Fixed D))} {asks : List (Text × Reply)} → AsksAt place fixeds old new asks
      → AllZip IsPassLater old new
  at_passes (desks.here {rest = rest} is) = (record { same_shares = is.same_shares; later = is.later }, same_passes rest)
  at_passes (desks.further {same = p} deep) = (record { same_shares = refl; later = ([], sym (append-nil (seen p))) }, at_passes deep)

  -- each pass has seen all that it had
  pub of_passes : (who : Option ℕ) (fixeds : List (Fixed D)) (old new : List (Pass TurnItem (Fixed D))) (asks : List (Text × Reply))
      → AsksOf who fixeds old new asks → AllZip IsPassLater old new
  of_passes None fixeds old new asks is = subst (λ ps. AllZip IsPassLater old ps) (sym is.0) (same_passes old)
  of_passes (Some place) fixeds old new asks is = at_passes is

  pub sees_more : (old new : List (Pass TurnItem (Fixed D))) → AllZip IsPassLater old new → AllZip SeesMore old new
  sees_more [] [] later = tt
  sees_more (p ∷ old) (q ∷ new) later = (later.0.later, sees_more old new later.1)
  sees_more [] (q ∷ new) later = absurd later
  sees_more (p ∷ old) [] later = absurd later

  -- passes that have seen more have seen the openings of their desks
  pub openings_later : (fixeds : List (Fixed D)) (old new : List (Pass TurnItem (Fixed D))) → AllZip SeesMore old new → HaveSeenOpenings fixeds old
      → HaveSeenOpenings fixeds new
  openings_later [] [] [] later openings = tt
  openings_later (f ∷ fixeds) (p ∷ old) (q ∷ new) later openings =
      let more = later.0.0 in
      let grown = ap (λ s. length (history_of s)) later.0.1 ∙ ap length (history_all (seen p) more) ∙ length-append (history_of (seen p)) (history_of more) in
      (omega (arith, openings.0, grown), openings_later fixeds old new later.1 openings.1)
  openings_later [] [] (q ∷ new) later openings = absurd later
  openings_later [] (p ∷ old) new later openings = absurd openings
  openings_later (f ∷ fixeds) [] new later openings = absurd openings
  openings_later (f ∷ fixeds) (p ∷ old) [] later openings = absurd later

  -- and by them each user is the same later
  pub members_later : (fixeds : List (Fixed D)) (old new : List (Pass TurnItem (Fixed D))) → AllZip SeesMore old new → HaveSeenLegal fixeds new
      → AllZip IsLater (members_of fixeds old) (members_of fixeds new)
  members_later [] old new later legal = tt
  members_later (f ∷ fixeds) [] [] later legal = tt
  members_later (f ∷ fixeds) (p ∷ old) (q ∷ new) later legal =
      let more = later.0.0 in
      let none : has_broke (seen p) ≡ true → more ≡ [] =
      λ b. none_after (seen p) more (ap is_broke_last (sym later.0.1) ∙ legal.0.last) b in (
        record {
          profile = refl;
          standing = refl;
          opening = refl;
          further = (history_of more, ap history_of later.0.1 ∙ history_all (seen p) more);
          broke = λ b. ap has_broke later.0.1 ∙ broke_on (seen p) more b;
          still = λ b. ap history_of (later.0.1 ∙ ap (λ l. seen p ++ l) (none b) ∙ append-nil (seen p));
        },
        members_later fixeds old new later.1 legal.1,
      )
  members_later (f ∷ fixeds) [] (q ∷ new) later legal = absurd later
  members_later (f ∷ fixeds) (p ∷ old) [] later legal = absurd later

  -- ---- replies

  module _ (schema : DatabaseSchema) (world : FactSet) where
    at_replied : {place : ℕ} {fixeds : List (Fixed D)} {old new : List (Pass TurnItem (Fixed D))} {asks : List (Text × Reply)} → AreIn schema world fixeds
        → HaveSeenOpenings fixeds old → (is : AsksAt place fixeds old new asks)
        → RepliedAt schema world place (members_of fixeds new) asks (entries_at is) (flight_at is)
    at_replied within openings (desks.here {fixed = f} {old = p} {new = q} {asks = asks} is) =
        let never : false ≡ true → has_broke (seen p) ≡ true = λ e. absurd cc in
        here
        (subst (λ s. Replied s world f.user (standing_of f.standing) (history_of (seen q)) (has_broke (seen q))
        (length f.opening) false asks is.entries is.in_flight) within.0.0
        (subst (λ w. Replied f.schema w f.user (standing_of f.standing) (history_of (seen q)) (has_broke (seen q))
        (length f.opening) false asks is.entries is.in_flight) within.0.1
        (from_earlier f.schema f.world f.user (standing_of f.standing) (history_of (seen q)) (has_broke (seen q)) openings.0 never is.replied)))
    at_replied within openings (desks.further deep) = further (at_replied within.1 openings.1 deep)

    -- what was asked was replied to by the history of who asked
    pub of_replied : (who : Option ℕ) (fixeds : List (Fixed D)) (old new : List (Pass TurnItem (Fixed D))) (asks : List (Text × Reply))
        → AreIn schema world fixeds
        → HaveSeenOpenings fixeds old → (is : AsksOf who fixeds old new asks)
        → RepliedTo schema world who (members_of fixeds new) asks (entries_of who fixeds old new asks is) (flight_of who fixeds old new asks is)
    of_replied None fixeds old new asks within openings is = (is.1, refl, refl)
    of_replied (Some place) fixeds old new asks within openings is = at_replied within openings is
