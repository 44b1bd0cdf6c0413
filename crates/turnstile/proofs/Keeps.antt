-- Each step keeps the rule of the turnstile.
use Rattle.std.proofs.Common.{◌≡◌, ◌≢◌, ◌⊎◌, ℕ, zero, suc, ◌+◌, ◌*◌, ◌%◌, ◌^◌, ◌<◌, ◌≤◌, List, [], ◌∷◌, ◌++◌, length, set, slice_index, sum_by, Option, Some}
use Rattle.std.proofs.Common.{refl, sym, ap, ◌∙◌, subst, inl, inr, ⊎_elim, arith, mod-eq_of_lt, append-nil, append_assoc, Bool, cond, le-leb}
use mathlib.Core.Logic.{dite}
use mathlib.Core.Option.{none, some, some-injective, some-ne-none}
use native.Mathlib.Decide.{ℕ_discrete, dec_le}
use lib.ListN.{get_elem?}
use Rattle.atomic_table.specs.Table.{State, Me, step, Act, keeps, takes, gives, stepped, Allows, Splits, Joins, opening, Seen, Final}
use Rattle.atomic_table.proofs.Lists.{at_set, set_else, set_again, at_snoc, at_longer}
use Rattle.turnstile.specs.declared.view.View.{View}
use Rattle.turnstile.specs.declared.view.Stage.TheVariants.{Outside, Waiting, Inside}
use Rattle.turnstile.specs.History.{Entries, count_of, OnceBetween, NoneWith, IsRising, AddsAtMostOne, entries_with, longer, IsOpening, turn_entries}
use Rattle.turnstile.specs.Views.{tickets_at, held_tickets, spent_view, opening_view, waiting_view, inside_view, outside_view, remaining_view, split_off_view}
use Rattle.turnstile.specs.Views.{known_by, joined_view, compared_view, AllKnown, DrewEachOnce}
use Rattle.turnstile.specs.Rule.{Fits, HasTurn, IsHome, IsOut, TurnstileRule, IsRuledSince}
use Rattle.turnstile.specs.Plays.{Drew, Looked, WentOn, Compared}
use Rattle.list_sums.proofs.Sums.{set_there, sum_set, sum_at, sum_two, sum_some, sum_cut, sum_joined}
use Rattle.turnstile.proofs.Counts.{count_of-append, count_of-here, counts_more, counts_less, counts_same, counted_within, counted_most}
use Rattle.std.proofs.lemmas.List.Elements.{All-nil, All-cons, All-append}
use Rattle.std.proofs.lemmas.Bool.{lt-leb}
use Rattle.turnstile.proofs.Histories.{AllBelow, Lacks, rising_below, below_end, below_more, rising_more, rising_on, rising_under, rising_front, rising_opening}
use Rattle.turnstile.proofs.Histories.{none_more, none_of_none, none_both, none_front, none_end, begins_longer, begins_whole, entries_with_seen}
use Rattle.turnstile.proofs.Histories.{entries_with_all, turned_more, none_of_opening}

waiting-outside : (t : ℕ) → Waiting t ≡ Outside → ⊥
waiting-outside t e = cc

inside-outside : (t : ℕ) → Inside t ≡ Outside → ⊥
inside-outside t e = cc

inside-waiting : (t u : ℕ) → Inside t ≡ Waiting u → ⊥
inside-waiting t u e = cc

inside-same : (t u : ℕ) → Inside t ≡ Inside u → t ≡ u
inside-same t u e = cc

module _ {V I F : Type 0} (entries_of : V → Entries I) (fixed_of : V → F) where
  -- what the closing pass knows of the value
  pub record Closes (first : Entries I) (v : View I F) (y : V) : Type 0 where
    pub entries : entries_of y ≡ v.seen
    pub added : entries_of y ≡ first ++ entries_with v.drawn v.seen
    pub mine : turn_entries (entries_of y) ≡ entries_with v.drawn v.seen
    pub drew : DrewEachOnce v
    pub fixed : v.fixed ≡ Some (fixed_of y)

module _ {V I F : Type 0} (entries_of : V → Entries I) (fixed_of : V → F) (fixed : F) (first : Entries I) where
  abbrev W : Type 0
  W = View I F

  abbrev St : Type 0
  St = State (Option V) W

  abbrev M : Type 0
  M = Me (Option V) W

  abbrev Rule : St → Type 0
  Rule = TurnstileRule entries_of fixed_of fixed first

  abbrev Longest : List W → Entries I → Type 0
  Longest views history = (k : ℕ) × (v : W) × (get_elem? views k ≡ some v) × (0 < v.shares) × (v.seen ≡ history)

  -- what holds of each view holds of each once one is replaced
  each_set : (P : ℕ → W → Type 0) (views : List W) (id : ℕ) (w : W) → ((k : ℕ) (u : W) → k ≢ id → get_elem? views k ≡ some u → P k u) → P id w → (k : ℕ) (u : W)
      → get_elem? (set views id w) k ≡ some u → P k u
  each_set P views id w others mine k u e =
      ⊎_elim
      (λ (x : (k ≡ id) × (w ≡ u)). subst (λ (y : ℕ × W). P y.0 y.1) (λ i. (sym x.0 i, x.1 i)) mine)
      (λ (x : (k ≢ id) × (get_elem? views k ≡ some u)). others k u x.0 x.1)
      (at_set views id k w u e)

  longest_set : (views : List W) (id : ℕ) (v w : W) (history : Entries I) → get_elem? views id ≡ some v → Longest views history
      → (v.seen ≡ history → w.seen ≡ history) → 0 < w.shares → Longest (set views id w) history
  longest_set views id v w history at l keep pos = dite (ℕ_discrete l.0 id)
      (λ e. let same : l.1 ≡ v = some-injective l.1 v (sym l.2 ∙ (ap (get_elem? views) e ∙ at)) in
      (id, w, set_there views id v w at, pos, keep (ap (λ (u : W). u.seen) (sym same) ∙ l.4)))
      (λ e. (l.0, l.1, set_else views id l.0 w e ∙ l.2, l.3, l.4))

  out_set : (s : St) (id : ℕ) (v w : W) (words : List ℕ) → get_elem? s.views id ≡ some v → ((t : ℕ) → v.stage ≡ Inside t → ⊥) → IsOut entries_of fixed_of s
      → IsOut entries_of fixed_of record { words = words; homes = s.homes; views = set s.views id w }
  out_set s id v w words at apart there = (
    there.0,
    there.1,
    there.2,
    set_else s.views id there.0 w (λ e.
        apart there.2 (ap (λ (u : W). u.stage) (some-injective v there.1 (sym at ∙ (ap (get_elem? s.views) (sym e) ∙ there.3))) ∙ there.4)) ∙ there.3,
    there.4,
  )

  -- a view that holds a ticket or has a turn left is live
  live_waiting : (v : W) (t : ℕ) → v.stage ≡ Waiting t → (((0 < v.shares) × (v.fixed ≡ Some fixed)) ⊎ (v ≡ spent_view)) → (0 < v.shares)
      × (v.fixed ≡ Some fixed)
  live_waiting v t is h = ⊎_elim (λ a. a) (λ (e : v ≡ spent_view). absurd (waiting-outside t (sym is ∙ ap (λ (u : W). u.stage) e))) h

  live_inside : (v : W) (t : ℕ) → v.stage ≡ Inside t → (((0 < v.shares) × (v.fixed ≡ Some fixed)) ⊎ (v ≡ spent_view)) → (0 < v.shares) × (v.fixed ≡ Some fixed)
  live_inside v t is h = ⊎_elim (λ a. a) (λ (e : v ≡ spent_view). absurd (inside-outside t (sym is ∙ ap (λ (u : W). u.stage) e))) h

  live_turns : (v : W) → 0 < v.turns → (((0 < v.shares) × (v.fixed ≡ Some fixed)) ⊎ (v ≡ spent_view)) → (0 < v.shares) × (v.fixed ≡ Some fixed)
  live_turns v pos h = ⊎_elim (λ a. a) (λ (e : v ≡ spent_view). let z : v.turns ≡ 0 = ap (λ (u : W). u.turns) e in absurd (omega arith)) h

  -- a pass with all shares has seen the whole history
  whole_seen : (s : St) (r : Rule s) (id : ℕ) (v : W) → get_elem? s.views id ≡ some v → v.shares ≡ 65 → v.seen ≡ r.history
  whole_seen s r id v at all = let l = r.longest in dite (ℕ_discrete l.0 id)
      (λ e. let same : l.1 ≡ v = some-injective l.1 v (sym l.2 ∙ (ap (get_elem? s.views) e ∙ at)) in ap (λ (u : W). u.seen) (sym same) ∙ l.4)
      (λ e. let two = sum_two (λ (u : W). u.shares) s.views l.0 id l.1 v e l.2 at in let sum = r.shares in let pos = l.3 in absurd (omega arith))

  word_add : (n : ℕ) → n < 65 * 2 ^ 57 + 2 → (n + 1) % 2 ^ 64 ≡ n + 1
  word_add n l = mod-eq_of_lt (omega arith)

  pub draws : (slots id : ℕ) (m : M) → m.0.stage ≡ Outside → 0 < m.0.turns
      → Allows Rule slots id m 0 (λ n. (n + 1) % 2 ^ 64) (Drew entries_of fixed_of (step slots 0 1 0 none) m)
  draws slots id m out pos s r _ at _ =
      let v : W = m.0 in
      let n : ℕ = slice_index s.words 0 in
      let is : n ≡ r.ticket = ap (λ ws. slice_index ws 0) r.words in
      let w : W = waiting_view v n in
      let ord = r.ordered in
      let low = ord.0 in
      let high = ord.1 in
      let turns = r.turns in
      let fit = r.each id v at in
      let live = live_turns v pos fit.live in
      let turns' = sum_set (λ (u : W). u.turns) s.views id v w at in
      let small : n < 65 * 2 ^ 57 + 2 = omega arith in
      let none_held : held_tickets v ≡ [] = ap tickets_at out in
      let below : AllBelow n r.history = below_more r.serving n r.history (omega arith) (rising_below 0 r.serving r.history (omega arith) r.rising) in
      let behind : AllBelow n fit.behind = below_end n v.seen fit.behind (subst (AllBelow n) fit.seen below) in (
        w,
        keeps,
        tt,
        record {
          ticket = n + 1;
          serving = r.serving;
          history = r.history;
          words = ap (λ ws. set ws 0 ((n + 1) % 2 ^ 64)) r.words ∙ ap (λ (k : ℕ). k ∷ r.serving ∷ []) (word_add n small);
          ordered = (low, omega arith);
          held = counts_more r.serving r.ticket n _ _ r.held is high (λ x. let e = sum_set (λ (u : W). count_of x (held_tickets u)) s.views id v w at in
              let z : count_of x (held_tickets v) ≡ 0 = ap (count_of x) none_held in omega arith);
          drawn = counts_more 1 r.ticket n _ _ r.drawn is (omega arith) (λ x. let e = sum_set (λ (u : W). count_of x u.drawn) s.views id v w at in
              let z = count_of-append x v.drawn (n ∷ []) in omega arith);
          shares = let e = sum_set (λ (u : W). u.shares) s.views id v w at in let sum = r.shares in omega arith;
          turns = omega arith;
          each = each_set (λ k u. Fits fixed r.history u) s.views id w (λ k u _. r.each k u)
              record {
                behind = fit.behind;
                seen = fit.seen;
                missed = none_more v.drawn n fit.behind fit.missed behind;
                own = λ x.
                    let z = count_of-append x v.drawn (n ∷ []) in omega arith;
                live = inl live;
                joined = tt;
                agreed = tt;
              };
          longest = longest_set s.views id v w r.history at r.longest (λ e. e) live.0;
          rising = r.rising;
          added = r.added;
          slot = ⊎_elim (λ h. inl h) (λ o. inr (out_set s id v w (set s.words 0 ((n + 1) % 2 ^ 64)) at (λ t e. inside-outside t (sym e ∙ out)) o)) r.slot;
          in_turn = each_set (λ _ u. HasTurn r.serving r.history s.homes u) s.views id w (λ k u _. r.in_turn k u)
              (λ t e. absurd (inside-waiting t n (sym e)));
        },
        (refl, omega arith, λ x l. let own = sum_at (λ (u : W). count_of x u.drawn) s.views id v at in let none = r.drawn.above x (omega arith) in omega arith),
      )

  -- what a seat's view is of, once a step has kept the rule
  ruled_at : (s : St) (f : F) (id : ℕ) (w : W) → Rule s → f ≡ fixed → get_elem? s.views id ≡ some w → IsRuledSince entries_of fixed_of f w
  ruled_at s f id w r same at =
      (first, record { state = s; rule = subst (λ (z : F). TurnstileRule entries_of fixed_of z first s) (sym same) r; place = id; there = at })

  -- two views can't both hold one ticket
  pub held_once : (s : St) (r : Rule s) (k id : ℕ) (u v : W) (ticket : ℕ) → k ≢ id → get_elem? s.views k ≡ some u → get_elem? s.views id ≡ some v
      → held_tickets u ≡ ticket ∷ [] → held_tickets v ≡ ticket ∷ [] → ⊥
  held_once s r k id u v ticket apart there at one two =
      let both = sum_two (λ (z : W). count_of ticket (held_tickets z)) s.views k id u v apart there at in
      let a : count_of ticket (held_tickets u) ≡ 1 = ap (count_of ticket) one ∙ count_of-here ticket in
      let b : count_of ticket (held_tickets v) ≡ 1 = ap (count_of ticket) two ∙ count_of-here ticket in
      let pos : 0 < sum_by (λ (z : W). count_of ticket (held_tickets z)) s.views = omega arith in
      let c = (counted_within r.serving r.ticket ticket (λ x. sum_by (λ (z : W). count_of x (held_tickets z)) s.views) r.held pos).2 in
      absurd (omega arith)

  waiting_same : (t u : ℕ) → Waiting t ≡ Waiting u → t ≡ u
  waiting_same t u e = cc

  some_none : (a : Option V) → (some a ∷ []) ≡ (none ∷ []) → ⊥
  some_none a e = cc

  looks_in : (slots id : ℕ) (m : M) (ticket : ℕ) → m.0.stage ≡ Waiting ticket → m.1 ≡ [] → (s : St) (r : Rule s) → get_elem? s.views id ≡ some m.0
      → slice_index s.words 1 ≡ ticket → IsHome entries_of fixed_of fixed r.history s
      → (w : W) × (a : Act (Option V)) × (Rattle.atomic_table.specs.Table.Valid s.homes m.1 a) × Rule (stepped s 1 (slice_index s.words 1) id m.1 w a)
      × Looked entries_of fixed_of (step slots 1 0 0 none) m (slice_index s.words 1) (w, Rattle.atomic_table.specs.Table.carried_after m.1 a)
  looks_in slots id m ticket stage empty s r at now home =
      let v : W = m.0 in
      let y : V = home.0 in
      let entries : Entries I = entries_of y in
      let w : W = inside_view v ticket entries in
      let fit = r.each id v at in
      let live = live_waiting v ticket stage fit.live in
      let served : ticket ≡ r.serving = sym now ∙ ap (λ ws. slice_index ws 1) r.words in
      let taken : set s.homes 0 none ≡ none ∷ [] = ap (λ hs. set hs 0 none) home.1 in
      let holds : held_tickets v ≡ ticket ∷ [] = ap tickets_at stage in
      let later : entries ≡ v.seen ++ fit.behind = home.2 ∙ fit.seen in
      let ruled : Rule (stepped s 1 (slice_index s.words 1) id m.1 w (takes 0 (Some y))) = record {
        ticket = r.ticket;
        serving = r.serving;
        history = r.history;
        words = ap (λ ws. set ws 1 (slice_index ws 1)) r.words;
        ordered = r.ordered;
        held = counts_same r.serving r.ticket _ _ r.held (λ x. let e = sum_set (λ (u : W). count_of x (held_tickets u)) s.views id v w at in
            let z : count_of x (held_tickets v) ≡ count_of x (ticket ∷ []) = ap (count_of x) holds in omega arith);
        drawn = counts_same 1 r.ticket _ _ r.drawn (λ x. let e = sum_set (λ (u : W). count_of x u.drawn) s.views id v w at in omega arith);
        shares = let e = sum_set (λ (u : W). u.shares) s.views id v w at in let sum = r.shares in omega arith;
        turns = let e = sum_set (λ (u : W). u.turns) s.views id v w at in let sum = r.turns in omega arith;
        each = each_set (λ k u. Fits fixed r.history u) s.views id w (λ k u _. r.each k u)
            record {
              behind = [];
              seen = sym home.2 ∙ sym (append-nil entries);
              missed = All-nil (Lacks v.drawn);
              own =
                  λ x. subst (λ (l : List ℕ). count_of x l ≤ count_of x v.drawn) holds (fit.own x);
              live = inl live;
              joined = tt;
              agreed = tt;
            };
        longest = (id, w, set_there s.views id v w at, live.0, home.2);
        rising = r.rising;
        added = r.added;
        slot = inr (id, w, ticket, set_there s.views id v w at, refl);
        in_turn = each_set (λ _ u. HasTurn r.serving r.history (set s.homes 0 none) u) s.views id w
            (λ k u _ e t stage''. absurd (some_none (Some y) (sym home.1 ∙ (r.in_turn k u e t stage'').2)))
            (λ t e. (sym (inside-same ticket t e) ∙ served, home.2, taken));
      } in (
        w,
        takes 0 (Some y),
        ap (λ hs. get_elem? hs 0) home.1,
        ruled,
        λ t stage'. let same : ticket ≡ t = waiting_same ticket t (sym stage ∙ stage') in (
          (λ other. absurd (other (now ∙ same))),
          λ _. (
            y,
            record {
              taken = λ i. (inside_view v (same i) entries, (0, Some y) ∷ m.1);
              later = (fit.behind, later);
              whole = λ all. home.2 ∙ sym (whole_seen s r id v at all);
              own = entries_with_seen v.drawn v.seen fit.behind entries later fit.missed;
              rising = subst (λ (z : ℕ). IsRising 0 z entries) (sym served ∙ same) (subst (IsRising 0 r.serving) (sym home.2) r.rising);
              fixed = live.1 ∙ ap (λ (f : F). Some f) (sym home.3);
              ruled = ruled_at (stepped s 1 (slice_index s.words 1) id m.1 w (takes 0 (Some y))) (fixed_of y) id w ruled home.3 (set_there s.views id v w at);
            },
          ),
        ),
      )

  pub looks : (slots id : ℕ) (m : M) (ticket : ℕ) → m.0.stage ≡ Waiting ticket → m.1 ≡ []
      → Allows Rule slots id m 1 (λ n. n) (Looked entries_of fixed_of (step slots 1 0 0 none) m)
  looks slots id m ticket stage empty s r _ at _ = dite (ℕ_discrete (slice_index s.words 1) ticket)
      (λ now. ⊎_elim (λ home. looks_in slots id m ticket stage empty s r at now home)
      (λ (there : IsOut entries_of fixed_of s). let k : ℕ = there.0 in let u : W = there.1 in let t : ℕ = there.2 in
      let served : t ≡ ticket = (r.in_turn k u there.3 t there.4).0 ∙ (sym (ap (λ ws. slice_index ws 1) r.words) ∙ now) in
      absurd (held_once s r k id u m.0 ticket (λ e.
      inside-waiting t ticket (sym there.4
      ∙ (ap (λ (z : W). z.stage) (some-injective u m.0 (sym there.3 ∙ (ap (get_elem? s.views) e ∙ at))) ∙ stage))) there.3 at
      (ap tickets_at there.4 ∙ ap (λ (z : ℕ). z ∷ []) served) (ap tickets_at stage)))
      r.slot)
      (λ other.
      let words : set s.words 1 (slice_index s.words 1) ≡ s.words = ap (λ ws. set ws 1 (slice_index ws 1)) r.words ∙ sym r.words in
      let views : set s.views id m.0 ≡ s.views = set_again s.views id m.0 at in (
        m.0,
        keeps,
        tt,
        subst (λ (x : List ℕ × List W). Rule record { words = x.0; homes = s.homes; views = x.1 }) (λ i. (sym words i, sym views i)) r,
        λ t stage'. ((λ _. refl), λ e. absurd (other (e ∙ waiting_same t ticket (sym stage' ∙ stage)))),
      ))

  -- what the value's entries have more than the history
  abbrev Grown : ℕ → Entries I → V → Type 0
  Grown n history y =
      (extra : Entries I) × (entries_of y ≡ history ++ extra) × IsRising 0 (n + 1) (entries_of y) × ((ts : List ℕ) → count_of n ts ≡ 0 → NoneWith ts extra)

  grown : (n : ℕ) (history : Entries I) (y : V) → 0 < n → IsRising 0 n history → AddsAtMostOne n history (entries_of y) → Grown n history y
  grown n history y pos rising h = ⊎_elim
      (λ (same : entries_of y ≡ history).
      ([], same ∙ sym (append-nil history), subst (IsRising 0 (n + 1)) (sym same) (rising_on 0 n history rising), λ ts z. All-nil (Lacks ts)))
      (λ (more : (x : I) × (entries_of y ≡ history ++ (n, x) ∷ [])). (
        (n, more.0) ∷ [],
        more.1,
        subst (IsRising 0 (n + 1)) (sym more.1) (rising_more 0 n history more.0 pos rising),
        λ ts z. All-cons (Lacks ts) (n, more.0) [] z (All-nil (Lacks ts)),
      ))
      h

  -- the history is still what was there at the start and what turns added
  added_more : (history : Entries I) (n : ℕ) (y : V) → 0 < n → history ≡ first ++ turn_entries history → AddsAtMostOne n history (entries_of y)
      → entries_of y ≡ first ++ turn_entries (entries_of y)
  added_more history n y pos added h = ⊎_elim
      (λ (same : entries_of y ≡ history). same ∙ added ∙ ap (λ (l : Entries I). first ++ turn_entries l) (sym same))
      (λ (more : (x : I) × (entries_of y ≡ history ++ (n, x) ∷ [])). more.1 ∙ ap (λ (l : Entries I). l ++ (n, more.0) ∷ []) added
      ∙ append_assoc first (turn_entries history) ((n, more.0) ∷ [])
      ∙ ap (λ (l : Entries I). first ++ l) (sym (turned_more history n more.0 pos) ∙ ap turn_entries (sym more.1)))
      h

  pub goes_on : (slots id : ℕ) (m : M) (ticket : ℕ) (y : V) → m.0.stage ≡ Inside ticket → m.1 ≡ (0, Some y) ∷ [] → m.0.fixed ≡ Some (fixed_of y)
      → AddsAtMostOne ticket m.0.seen (entries_of y)
      → Allows Rule slots id m 1 (λ n. (n + 1) % 2 ^ 64) (WentOn entries_of fixed_of (step slots 1 1 0 none) m)
  goes_on slots id m ticket y stage hand fixed_at_enter grows s r _ at _ =
      let v : W = m.0 in
      let n : ℕ = slice_index s.words 1 in
      let is : n ≡ r.serving = ap (λ ws. slice_index ws 1) r.words in
      let entries : Entries I = entries_of y in
      let w : W = outside_view v entries in
      let fit = r.each id v at in
      let live = live_inside v ticket stage fit.live in
      let mine = r.in_turn id v at ticket stage in
      let served : ticket ≡ n = mine.0 ∙ sym is in
      let holds : held_tickets v ≡ n ∷ [] = ap tickets_at stage ∙ ap (λ (z : ℕ). z ∷ []) served in
      let ord = r.ordered in
      let one = ord.0 in
      let once : count_of n (held_tickets v) ≡ 1 = ap (count_of n) holds ∙ count_of-here n in
      let at_most = sum_at (λ (u : W). count_of n (held_tickets u)) s.views id v at in
      let pos : 0 < sum_by (λ (u : W). count_of n (held_tickets u)) s.views = omega arith in
      let within = (counted_within r.serving r.ticket n (λ x. sum_by (λ (u : W). count_of x (held_tickets u)) s.views) r.held pos).1 in
      let sum = r.turns in
      let small : n < 65 * 2 ^ 57 + 2 = omega arith in
      let fixed_same : fixed_of y ≡ fixed = (let e = sym fixed_at_enter ∙ live.1 in some_same (fixed_of y) fixed e) in
      let g : Grown n r.history y =
      grown n r.history y (omega arith) (subst (λ (z : ℕ). IsRising 0 z r.history) (sym is) r.rising)
      (subst (λ (z : ℕ × Entries I). AddsAtMostOne z.0 z.1 entries) (λ i. (served i, mine.1 i)) grows) in
      let back : set s.homes 0 (some (Some y)) ≡ some (Some y) ∷ [] = ap (λ hs. set hs 0 (some (Some y))) mine.2 in
      let homes : Rattle.atomic_table.specs.Table.put_back s.homes m.1 ≡ some (Some y) ∷ [] =
      ap (Rattle.atomic_table.specs.Table.put_back s.homes) hand ∙ back in
      let not_drawn : (k : ℕ) (u : W) → k ≢ id → get_elem? s.views k ≡ some u → count_of n u.drawn ≡ 0 = λ k u apart there.
      let both = sum_two (λ (z : W). count_of n z.drawn) s.views k id u v apart there at in
      let own = fit.own n in
      let any : 0 < sum_by (λ (z : W). count_of n z.drawn) s.views = omega arith in
      let c = (counted_within 1 r.ticket n (λ x. sum_by (λ (z : W). count_of x z.drawn) s.views) r.drawn any).2 in omega arith in
      let ruled : Rule (stepped s 1 ((n + 1) % 2 ^ 64) id m.1 w gives) = record {
        ticket = r.ticket;
        serving = n + 1;
        history = entries;
        words = ap (λ ws. set ws 1 ((n + 1) % 2 ^ 64)) r.words ∙ ap (λ (k : ℕ). r.ticket ∷ k ∷ []) (word_add n small);
        ordered = (omega arith, omega arith);
        held = counts_less r.serving r.ticket n _ _ r.held is (omega arith) (λ x. let e = sum_set (λ (u : W). count_of x (held_tickets u)) s.views id v w at in
            let z : count_of x (held_tickets v) ≡ count_of x (n ∷ []) = ap (count_of x) holds in omega arith);
        drawn = counts_same 1 r.ticket _ _ r.drawn (λ x. let e = sum_set (λ (u : W). count_of x u.drawn) s.views id v w at in omega arith);
        shares = let e = sum_set (λ (u : W). u.shares) s.views id v w at in let sum = r.shares in omega arith;
        turns = let e = sum_set (λ (u : W). u.turns) s.views id v w at in let sum = r.turns in omega arith;
        each = each_set (λ k u. Fits fixed entries u) s.views id w
            (λ k u apart there. let f = r.each k u there in record {
              behind = f.behind ++ g.0;
              seen = g.1 ∙ (ap (λ (h : Entries I). h ++ g.0) f.seen ∙ append_assoc u.seen f.behind g.0);
              missed = All-append (Lacks u.drawn) f.behind g.0 f.missed (g.3 u.drawn (not_drawn k u apart there));
              own = f.own;
              live = f.live;
              joined = f.joined;
              agreed = f.agreed;
            })
            record {
              behind =
                  [];
              seen = sym (append-nil entries);
              missed = All-nil (Lacks v.drawn);
              own = λ x. omega arith;
              live = inl live;
              joined = tt;
              agreed = tt;
            };
        longest = (id, w, set_there s.views id v w at, live.0, refl);
        rising = g.2;
        added = added_more r.history n y (omega arith) r.added (subst (λ (z : ℕ × Entries I). AddsAtMostOne z.0 z.1 entries) (λ i. (served i, mine.1 i)) grows);
        slot = inl (y, homes, refl, fixed_same);
        in_turn = each_set (λ _ u. HasTurn (n + 1) entries (Rattle.atomic_table.specs.Table.put_back s.homes m.1) u) s.views id w
            (λ k u apart there t stage''.
            absurd (held_once s r k id u v n apart there at (ap tickets_at stage''
            ∙ ap (λ (z : ℕ). z ∷ []) ((r.in_turn k u there t stage'').0 ∙ sym is)) holds))
            (λ t e. absurd (inside-outside t (sym e)));
      } in (
        w,
        gives,
        tt,
        ruled,
        λ y' hand'. let same : y ≡ y' = hand_same y y' (sym hand ∙ hand') in record {
          given = λ i. (outside_view v (entries_of (same i)), Rattle.atomic_table.specs.Table.rest (hand i));
          ruled = ruled_at (stepped s 1 ((n + 1) % 2 ^ 64) id m.1 w gives) (fixed_of y') id w ruled (ap fixed_of (sym same) ∙ fixed_same)
              (set_there s.views id v w at);
        },
      )
    where
      some_same : (a b : F) → Some a ≡ Some b → a ≡ b
      some_same a b e = cc

      pair_same : (p q : ℕ × Option V) → ◌≡◌ {A = List (ℕ × Option V)} (p ∷ []) (q ∷ []) → p ≡ q
      pair_same p q e = cc

      value_same : (a b : V) → Some a ≡ Some b → a ≡ b
      value_same a b e = cc

      hand_same : (a b : V) → ◌≡◌ {A = List (ℕ × Option V)} ((0, Some a) ∷ []) ((0, Some b) ∷ []) → a ≡ b
      hand_same a b e = value_same a b (ap (λ (p : ℕ × Option V). p.1) (pair_same (0, Some a) (0, Some b) e))

  -- what holds of each view holds of each once one is cut in two
  each_cut : (P : W → Type 0) (views : List W) (id : ℕ) (left right : W) → ((k : ℕ) (u : W) → get_elem? views k ≡ some u → P u) → P left → P right
      → (k : ℕ) (u : W) → get_elem? (set views id left ++ right ∷ []) k ≡ some u → P u
  each_cut P views id left right others one two k u e = ⊎_elim
      (λ (was : get_elem? (set views id left) k ≡ some u). each_set (λ _ z. P z) views id left (λ j z _ there. others j z there) one k u was)
      (λ (same : right ≡ u). subst P same two)
      (at_snoc (set views id left) right u k e)

  pub parts : (id : ℕ) (v : W) → v.stage ≡ Outside → 1 < v.shares → 2 ^ 57 ≤ v.turns → Splits Rule id v (remaining_view v) (split_off_view v)
  parts id v stage shares turns s r at =
      let left : W = remaining_view v in
      let right : W = split_off_view v in
      let views : List W = set s.views id left ++ right ∷ [] in
      let fit = r.each id v at in
      let live = live_turns v (omega arith) fit.live in
      let held_none : held_tickets v ≡ [] = ap tickets_at stage in
      record {
        ticket = r.ticket;
        serving = r.serving;
        history = r.history;
        words = r.words;
        ordered = r.ordered;
        held =
            counts_same r.serving r.ticket _ _ r.held (λ x. let e = sum_cut (λ (u : W). count_of x (held_tickets u)) s.views id v left right at in omega arith);
        drawn = counts_same 1 r.ticket _ _ r.drawn (λ x. let e = sum_cut (λ (u : W). count_of x u.drawn) s.views id v left right at in omega arith);
        shares = let e = sum_cut (λ (u : W). u.shares) s.views id v left right at in let sum = r.shares in omega arith;
        turns = let e = sum_cut (λ (u : W). u.turns) s.views id v left right at in let sum = r.turns in omega arith;
        each = each_cut (λ u. Fits fixed r.history u) s.views id left right r.each
            record { behind = fit.behind; seen = fit.seen; missed = fit.missed; own = fit.own; live = inl (omega arith, live.1); joined = tt; agreed = tt }
            record {
              behind = fit.behind;
              seen = fit.seen;
              missed = none_of_none fit.behind;
              own = λ x. omega arith;
              live = inl (omega arith, live.1);
              joined =
                  tt;
              agreed = tt;
            };
        longest = let l = longest_set s.views id v left r.history at r.longest (λ e. e) (omega arith) in
            (l.0, l.1, at_longer (set s.views id left) (right ∷ []) l.0 l.1 l.2, l.3, l.4);
        rising = r.rising;
        added = r.added;
        slot = ⊎_elim (λ h. inl h) (λ o. let there = out_set s id v left s.words at (λ t e. inside-outside t (sym e ∙ stage)) o in
            inr (there.0, there.1, there.2, at_longer (set s.views id left) (right ∷ []) there.0 there.1 there.3, there.4)) r.slot;
        in_turn = each_cut (λ u. HasTurn r.serving r.history s.homes u) s.views id left right r.in_turn (λ t e. absurd (inside-outside t (sym e ∙ stage)))
            (λ t e. absurd (inside-outside t (sym e)));
      }

  -- the longer of two lists that begin the history
  longer_fits : (history : Entries I) (v w : W) → Fits fixed history v → Fits fixed history w
      → (behind : Entries I) × (history ≡ longer v.seen w.seen ++ behind) × NoneWith (v.drawn ++ w.drawn) behind
  longer_fits history v w f g = dite (dec_le (length v.seen) (length w.seen))
      (λ le. let t = begins_longer v.seen w.seen f.behind g.behind (sym f.seen ∙ g.seen) le in
      let is : longer v.seen w.seen ≡ w.seen = ap (λ (b : Bool). cond b w.seen v.seen) (le-leb _ _ le) in (
        g.behind,
        g.seen ∙ ap (λ (l : Entries I). l ++ g.behind) (sym is),
        none_both v.drawn w.drawn g.behind (none_end v.drawn t.0 g.behind (subst (NoneWith v.drawn) t.2 f.missed)) g.missed,
      ))
      (λ gt. let t = begins_longer w.seen v.seen g.behind f.behind (sym g.seen ∙ f.seen) (omega arith) in
      let is : longer v.seen w.seen ≡ v.seen = ap (λ (b : Bool). cond b w.seen v.seen) (lt-leb _ _ (omega arith)) in (
        f.behind,
        f.seen ∙ ap (λ (l : Entries I). l ++ f.behind) (sym is),
        none_both v.drawn w.drawn f.behind f.missed (none_end w.drawn t.0 f.behind (subst (NoneWith w.drawn) t.2 g.missed)),
      ))

  -- each of two lists that begin the history begins the longer one, and has all its pairs with its tickets
  longer_known : (history : Entries I) (v w : W) → Fits fixed history v → Fits fixed history w → AllKnown (longer v.seen w.seen) (known_by v ∷ known_by w ∷ [])
  longer_known history v w f g = dite (dec_le (length v.seen) (length w.seen))
      (λ le. let t = begins_longer v.seen w.seen f.behind g.behind (sym f.seen ∙ g.seen) le in
      let is : longer v.seen w.seen ≡ w.seen = ap (λ (b : Bool). cond b w.seen v.seen) (le-leb _ _ le) in
      subst (λ (l : Entries I). AllKnown l (known_by v ∷ known_by w ∷ [])) (sym is) (
        ((t.0, t.1), entries_with_seen v.drawn v.seen t.0 w.seen t.1 (none_front v.drawn t.0 g.behind (subst (NoneWith v.drawn) t.2 f.missed))),
        ((([], sym (append-nil w.seen)), refl), tt),
      ))
      (λ gt. let t = begins_longer w.seen v.seen g.behind f.behind (sym g.seen ∙ f.seen) (omega arith) in
      let is : longer v.seen w.seen ≡ v.seen = ap (λ (b : Bool). cond b w.seen v.seen) (lt-leb _ _ (omega arith)) in
      subst (λ (l : Entries I). AllKnown l (known_by v ∷ known_by w ∷ [])) (sym is) (
        (([], sym (append-nil v.seen)), refl),
        (((t.0, t.1), entries_with_seen w.drawn w.seen t.0 v.seen t.1 (none_front w.drawn t.0 f.behind (subst (NoneWith w.drawn) t.2 g.missed))), tt),
      ))

  -- the longer list is the whole history where one of them is
  longer_whole : (history : Entries I) (v w : W) → Fits fixed history v → Fits fixed history w → (v.seen ≡ history) ⊎ (w.seen ≡ history)
      → longer v.seen w.seen ≡ history
  longer_whole history v w f g h =
      let t = longer_fits history v w f g in
      let whole : t.0 ≡ [] = begins_whole (longer v.seen w.seen) history t.0 t.1 (dite (dec_le (length v.seen) (length w.seen))
      (λ le. let is : longer v.seen w.seen ≡ w.seen = ap (λ (b : Bool). cond b w.seen v.seen) (le-leb _ _ le) in
      let longest : length history ≤ length w.seen =
      ⊎_elim (λ (e : v.seen ≡ history). let n = ap length e in omega arith) (λ (e : w.seen ≡ history). let n = ap length e in omega arith) h in
      let n = ap length is in omega arith)
      (λ gt. let is : longer v.seen w.seen ≡ v.seen = ap (λ (b : Bool). cond b w.seen v.seen) (lt-leb _ _ (omega arith)) in
      let longest : length history ≤ length v.seen =
      ⊎_elim (λ (e : v.seen ≡ history). let n = ap length e in omega arith) (λ (e : w.seen ≡ history). let n = ap length e in omega arith) h in
      let n = ap length is in omega arith)) in
      sym (t.1 ∙ (ap (λ (l : Entries I). longer v.seen w.seen ++ l) whole ∙ append-nil (longer v.seen w.seen)))

  pub meets : (id : ℕ) (v : W) (other : ℕ) (w : W) → v.stage ≡ Outside → w.stage ≡ Outside → 0 < v.shares → 0 < w.shares
      → Joins Rule id v other w (joined_view v w) spent_view
  meets id v other w stage stage' pos pos' s r at apart there =
      let both : W = joined_view v w in
      let one : List W = set s.views id both in
      let views : List W = set one other spent_view in
      let was : get_elem? s.views other ≡ some w = sym (set_else s.views id other both apart) ∙ there in
      let here : get_elem? views id ≡ some both = set_else one other id spent_view (λ e. apart (sym e)) ∙ set_there s.views id v both at in
      let fit = r.each id v at in
      let fit' = r.each other w was in
      let t = longer_fits r.history v w fit fit' in
      let live = live_shares v pos fit.live in
      let live' = live_shares w pos' fit'.live in
      let held_v : held_tickets v ≡ [] = ap tickets_at stage in
      let held_w : held_tickets w ≡ [] = ap tickets_at stage' in
      record {
        ticket = r.ticket;
        serving = r.serving;
        history = r.history;
        words = r.words;
        ordered = r.ordered;
        held = counts_same r.serving r.ticket _ _ r.held (λ x.
            let e = sum_joined (λ (u : W). count_of x (held_tickets u)) s.views id v other w both spent_view at there in
            let z : count_of x (held_tickets w) ≡ 0 = ap (count_of x) held_w in omega arith);
        drawn = counts_same 1 r.ticket _ _ r.drawn (λ x. let e = sum_joined (λ (u : W). count_of x u.drawn) s.views id v other w both spent_view at there in
            let z = count_of-append x v.drawn w.drawn in omega arith);
        shares = let e = sum_joined (λ (u : W). u.shares) s.views id v other w both spent_view at there in let sum = r.shares in omega arith;
        turns = let e = sum_joined (λ (u : W). u.turns) s.views id v other w both spent_view at there in let sum = r.turns in omega arith;
        each = each_set (λ _ u. Fits fixed r.history u) one other spent_view
            (λ k u _ e. each_set (λ _ u. Fits fixed r.history u) s.views id both (λ j u _. r.each j u)
            record {
              behind = t.0;
              seen = t.1;
              missed = t.2;
              own = λ x. let z : count_of x (held_tickets v) ≡ 0 = ap (count_of x) held_v in
                  omega arith;
              live = inl (omega arith, live.1);
              joined = longer_known r.history v w fit fit';
              agreed =
                  (refl, (live'.1 ∙ sym live.1, tt));
            } k u e)
            record { behind = r.history; seen = refl; missed = none_of_none r.history; own = λ x. omega arith; live = inr refl; joined = tt; agreed = tt };
        longest = let l = r.longest in dite (ℕ_discrete l.0 id)
            (λ e. let same : l.1 ≡ v = some-injective l.1 v (sym l.2 ∙ (ap (get_elem? s.views) e ∙ at)) in
            (id, both, here, omega arith, longer_whole r.history v w fit fit' (inl (ap (λ (u : W). u.seen) (sym same) ∙ l.4))))
            (λ n. dite (ℕ_discrete l.0 other)
            (λ e. let same : l.1 ≡ w = some-injective l.1 w (sym l.2 ∙ (ap (get_elem? s.views) e ∙ was)) in
            (id, both, here, omega arith, longer_whole r.history v w fit fit' (inr (ap (λ (u : W). u.seen) (sym same) ∙ l.4))))
            (λ m. (l.0, l.1, set_else one other l.0 spent_view m ∙ (set_else s.views id l.0 both n ∙ l.2), l.3, l.4)));
        rising = r.rising;
        added = r.added;
        slot = ⊎_elim (λ h. inl h)
            (λ o. let first = out_set s id v both s.words at (λ t e. inside-outside t (sym e ∙ stage)) o in
            inr (out_set record {
              words =
                  s.words;
              homes = s.homes;
              views = one;
            } other w spent_view s.words there (λ t e. inside-outside t (sym e ∙ stage')) first)) r.slot;
        in_turn = each_set (λ _ u. HasTurn r.serving r.history s.homes u) one other spent_view
            (λ k u _. each_set (λ _ u. HasTurn r.serving r.history s.homes u) s.views id both (λ j u _. r.in_turn j u)
            (λ t z. absurd (inside-outside t (sym z ∙ stage))) k u)
            (λ t z. absurd (inside-outside t (sym z)));
      }
    where
      live_shares : (v : W) → 0 < v.shares → (((0 < v.shares) × (v.fixed ≡ Some fixed)) ⊎ (v ≡ spent_view)) → (0 < v.shares) × (v.fixed ≡ Some fixed)
      live_shares v pos h = ⊎_elim (λ a. a) (λ (e : v ≡ spent_view). let z : v.shares ≡ 0 = ap (λ (u : W). u.shares) e in absurd (omega arith)) h

  pub opens : (y : V) → IsOpening (entries_of y) → fixed_of y ≡ fixed → entries_of y ≡ first
      → Rule (opening (1 ∷ 1 ∷ []) (Some y ∷ []) (opening_view (entries_of y) fixed))
  opens y zeros same first_is = record {
    ticket = 1;
    serving = 1;
    history = entries_of y;
    words = refl;
    ordered = (omega arith, omega arith);
    held = record { inside = λ x l u. absurd (omega arith); below = λ x l. refl; above = λ x l. refl };
    drawn = record { inside = λ x l u. absurd (omega arith); below = λ x l. refl; above = λ x l. refl };
    shares = refl;
    turns = refl;
    each = only (Fits fixed (entries_of y)) record {
      behind = [];
      seen = sym (append-nil (entries_of y));
      missed = All-nil (Lacks []);
      own =
          λ x. omega arith;
      live = inl (omega arith, refl);
      joined = tt;
      agreed = tt;
    };
    longest = (0, opening_view (entries_of y) fixed, refl, omega arith, refl);
    rising = rising_opening 0 1 (entries_of y) zeros;
    added = first_is ∙ sym (append-nil first) ∙ ap (λ (l : Entries I). first ++ l) (sym (none_of_opening (entries_of y) zeros));
    slot = inl (y, refl, refl, same);
    in_turn = only (λ u. HasTurn 1 (entries_of y) (some (Some y) ∷ []) u) (λ t z. absurd (inside-outside t (sym z)));
  }
    where
      only : (P : W → Type 0) → P (opening_view (entries_of y) fixed) → (k : ℕ) (u : W) → get_elem? (opening_view (entries_of y) fixed ∷ []) k ≡ some u → P u
      only P h zero u e = subst P (some-injective _ _ e) h
      only P h (suc k) u e = absurd (some-ne-none u (sym e))

  -- a pass with all shares drew every ticket
  drew_all : (s : St) (r : Rule s) (id : ℕ) (v : W) → get_elem? s.views id ≡ some v → v.shares ≡ 65 → (x : ℕ) → 1 ≤ x → x < r.ticket → 0 < count_of x v.drawn
  drew_all s r id v at all x low high =
      let once = r.drawn.inside x low high in
      let t = sum_some (λ (z : W). count_of x z.drawn) s.views (omega arith) in
      let k : ℕ = t.0 in
      let u : W = t.1 in
      let pos = t.3 in
      dite (ℕ_discrete k id)
      (λ e. let same : u ≡ v = some-injective u v (sym t.2 ∙ (ap (get_elem? s.views) e ∙ at)) in subst (λ (z : W). 0 < count_of x z.drawn) same pos)
      (λ e. ⊎_elim (λ (live : (0 < u.shares) × (u.fixed ≡ Some fixed)). let p = live.0 in let two = sum_two (λ (z : W). z.shares) s.views k id u v e t.2 at in
      let sum = r.shares in absurd (omega arith))
      (λ (gone : u ≡ spent_view). let z : count_of x u.drawn ≡ 0 = ap (λ (y : W). count_of x y.drawn) gone in absurd (omega arith)) (r.each k u t.2).live)

  closes : (s : St) (r : Rule s) (id : ℕ) (v : W) → get_elem? s.views id ≡ some v → v.stage ≡ Outside → v.shares ≡ 65 → (y : V)
      × (get_elem? s.homes 0 ≡ some (some (Some y))) × Closes entries_of fixed_of first v y
  closes s r id v at stage all =
      let fit = r.each id v at in
      let whole = whole_seen s r id v at all in
      let ord = r.ordered in
      let low = ord.0 in
      let high = ord.1 in
      let below : AllBelow r.ticket v.seen =
      subst (AllBelow r.ticket) (sym whole) (below_more r.serving r.ticket r.history high (rising_below 0 r.serving r.history low r.rising)) in
      let none_of : count_of 0 v.drawn ≡ 0 =
      (let most = sum_at (λ (u : W). count_of 0 u.drawn) s.views id v at in let z = r.drawn.below 0 (omega arith) in omega arith) in
      let most = λ (x : ℕ). sum_at (λ (u : W). count_of x u.drawn) s.views id v at in
      let drew : OnceBetween 1 r.ticket (λ x. count_of x v.drawn) = record {
        inside = λ x l u. let a = drew_all s r id v at all x l u in let b = most x in let c = r.drawn.inside x l u in omega arith;
        below = λ x l. let b = most x in let c = r.drawn.below x l in omega arith;
        above = λ x l. let b = most x in let c = r.drawn.above x l in omega arith;
      } in
      let live = ⊎_elim (λ (a : (0 < v.shares) × (v.fixed ≡ Some fixed)). a) (λ (e : v ≡ spent_view). let z : v.shares ≡ 0 = ap (λ (u : W). u.shares) e in
      absurd (omega arith)) fit.live in
      ⊎_elim
      (λ (home : IsHome entries_of fixed_of fixed r.history s). let same : entries_of home.0 ≡ v.seen = home.2 ∙ sym whole in (
        home.0,
        ap (λ hs. get_elem? hs 0) home.1,
        record {
          entries = same;
          added = home.2 ∙ r.added
              ∙ ap (λ (l : Entries I). first ++ l) (ap turn_entries (sym whole)
              ∙ entries_with_all v.drawn r.ticket v.seen below none_of (drew_all s r id v at all));
          mine = ap turn_entries same ∙ entries_with_all v.drawn r.ticket v.seen below none_of (drew_all s r id v at all);
          drew = (r.ticket, drew, subst (IsRising 0 r.ticket) (sym whole) (rising_under 0 r.serving r.ticket r.history high r.rising));
          fixed = live.1 ∙ ap (λ (f : F). Some f) (sym home.3);
        },
      ))
      (λ (there : IsOut entries_of fixed_of s). let u : W = there.1 in
      let live' = live_inside u there.2 there.4 (r.each there.0 u there.3).live in
      let p = live'.0 in
      let two = sum_two (λ (z : W). z.shares) s.views there.0 id u v (λ e.
      inside-outside there.2 (sym there.4
      ∙ (ap (λ (z : W). z.stage) (some-injective u v (sym there.3 ∙ (ap (get_elem? s.views) e ∙ at))) ∙ stage))) there.3 at in
      let sum = r.shares in absurd (omega arith))
      r.slot

  pub compares : (slots id : ℕ) (m : M) → m.0.stage ≡ Outside → 0 < m.0.shares
      → Allows Rule slots id m 1 (λ n. n) (Compared entries_of fixed_of (step slots 1 0 0 none) m)
  compares slots id m stage pos s r _ at _ =
      let v : W = m.0 in
      let w : W = compared_view v in
      let fit = r.each id v at in
      let words : set s.words 1 (slice_index s.words 1) ≡ s.words = ap (λ ws. set ws 1 (slice_index ws 1)) r.words ∙ sym r.words in
      let most = sum_at (λ (u : W). u.shares) s.views id v at in
      let all = r.shares in (
        w,
        keeps,
        tt,
        record {
          ticket = r.ticket;
          serving = r.serving;
          history = r.history;
          words = words ∙ r.words;
          ordered = r.ordered;
          held = counts_same r.serving r.ticket _ _ r.held (λ x. let e = sum_set (λ (u : W). count_of x (held_tickets u)) s.views id v w at in omega arith);
          drawn = counts_same 1 r.ticket _ _ r.drawn (λ x. let e = sum_set (λ (u : W). count_of x u.drawn) s.views id v w at in omega arith);
          shares = let e = sum_set (λ (u : W). u.shares) s.views id v w at in omega arith;
          turns = let e = sum_set (λ (u : W). u.turns) s.views id v w at in let sum = r.turns in omega arith;
          each = each_set (λ k u. Fits fixed r.history u) s.views id w (λ k u _. r.each k u)
              record {
                behind = fit.behind;
                seen = fit.seen;
                missed = fit.missed;
                own = fit.own;
                live = ⊎_elim (λ l. inl l) (λ (e : v ≡ spent_view).
                    let z : v.shares ≡ 0 = ap (λ (u : W). u.shares) e in absurd (omega arith)) fit.live;
                joined = tt;
                agreed = tt;
              };
          longest = longest_set s.views id v w r.history at r.longest (λ e. e) pos;
          rising = r.rising;
          added = r.added;
          slot =
              ⊎_elim (λ h. inl h) (λ o. inr (out_set s id v w (set s.words 1 (slice_index s.words 1)) at (λ t e. inside-outside t (sym e ∙ stage)) o)) r.slot;
          in_turn = each_set (λ _ u. HasTurn r.serving r.history s.homes u) s.views id w (λ k u _. r.in_turn k u)
              (λ t e. absurd (inside-outside t (sym e ∙ stage)));
        },
        (
          refl,
          fit.joined,
          omega arith,
          λ x. let own = sum_at (λ (u : W). count_of x u.drawn) s.views id v at in
              let most = counted_most 1 r.ticket x (λ x. sum_by (λ (u : W). count_of x u.drawn) s.views) r.drawn in omega arith,
          (r.serving, rising_front 0 r.serving v.seen fit.behind (subst (IsRising 0 r.serving) fit.seen r.rising)),
          fit.agreed,
        ),
      )

  -- the same of what the closed table has in its slot
  pub ends : (id : ℕ) (v : W) (ws : List ℕ) (xs : List (Option V)) (x : Option V) → Final (Seen Rule id v) ws xs → v.stage ≡ Outside → v.shares ≡ 65
      → get_elem? xs 0 ≡ some x → (y : V) × (x ≡ Some y) × Closes entries_of fixed_of first v y
  ends id v ws xs x f stage all there =
      let t = closes f.0 f.1.0 id v f.1.1 stage all in
      (t.0, some-injective x (Some t.0) (sym there ∙ f.4 0 (Some t.0) t.1), t.2)
