-- Whatever happens, the standby has a beginning of the primary's records, with every told one.
use Rattle.std.proofs.Common.{◌≡◌, ℕ, zero, suc, ◌+◌, ◌<◌, ◌≤◌, ◌==◌, nat_lt, max, Bool, true, false, List, [], ◌∷◌, ◌++◌, length, map, take, drop}
use Rattle.std.proofs.Common.{Option, Some, None, refl, sym, ap, subst, ◌∙◌, append_assoc, arith, length-append}
use Rattle.std.specs.List.{slice_get}
use Rattle.std.specs.Prelude.{if◌then◌else◌}
use Rattle.std.proofs.lemmas.Bool.{ltb-true, eqb-true}
use Rattle.std.proofs.Math.Nat.{max-le}
use Rattle.std.proofs.lemmas.List.{take-append-drop, length-map}
use Rattle.cqe_base.specs.History.{AnsweredQuery, History, is_history_of}
use Rattle.cqe_base.specs.Censor.{IsLegal}
use Rattle.cqe_base.specs.Hiding.{LegalHistoriesHide, PrefixesAreLegal}
use Rattle.cqe_base.proofs.Logs.{history-first}
use Rattle.replica.specs.Replica.{Put, Replica, ReplicaEvent, append, offer, deliver, answer, tell, primary_restart, standby_restart}
use Rattle.replica.specs.Replica.{after_offer, after_deliver, after_answer, after_event, empty_replica, after_events, replica_after}
use Rattle.replica.specs.Standby.{KeepsUp, StandbysHide}

module _ {R : Type 0} where
  -- ---- reading a list at a place

  get-front : (xs ys : List R) (i : ℕ) (x : R) → slice_get xs i ≡ Some x → slice_get (xs ++ ys) i ≡ Some x
  get-front [] ys i x e = absurd cc
  get-front (z ∷ xs) ys zero x e = e
  get-front (z ∷ xs) ys (suc i) x e = get-front xs ys i x e

  -- what stands behind a beginning, where it has an element at the place behind
  next-is : (xs ys : List R) (x : R) → slice_get (xs ++ ys) (length xs) ≡ Some x → (rest : List R) × (ys ≡ x ∷ rest)
  next-is [] [] x e = absurd cc
  next-is [] (y ∷ ys) x e = (ys, (let same : y ≡ x = cc in ap (λ z. z ∷ ys) same))
  next-is (z ∷ xs) ys x e = next-is xs ys x e

-- each element of a list has the property
data Each {X : Type 0} (P : X → Type 0) : List X → Type 0 where
  none : Each P []
  more : (x : X) (xs : List X) → P x → Each P xs → Each P (x ∷ xs)

module _ {X : Type 0} {P : X → Type 0} where
  each-at : (xs : List X) → Each P xs → (i : ℕ) (x : X) → slice_get xs i ≡ Some x → P x
  each-at [] none i x e = absurd cc
  each-at (y ∷ xs) (more _ _ p rest) zero x e = subst P (let same : y ≡ x = cc in same) p
  each-at (y ∷ xs) (more _ _ p rest) (suc i) x e = each-at xs rest i x e

each-weaker : {X : Type 0} {P Q : X → Type 0} → ((x : X) → P x → Q x) → (xs : List X) → Each P xs → Each Q xs
each-weaker turn [] none = none
each-weaker turn (x ∷ xs) (more _ _ p rest) = more x xs (turn x p) (each-weaker turn xs rest)

module _ {R : Type 0} where
  -- a packet has the primary's record of its number
  abbrev IsOf : List R → Put R → Type 0
  IsOf primary put = slice_get primary put.number ≡ Some put.content

  -- what each event keeps: of the packets too, since the records of both only grow
  record Keeps (now : Replica R) : Type 0 where
    pub missing : List R
    pub is_beginning : now.primary ≡ now.standby ++ missing
    pub has_told : now.told ≤ length now.standby
    pub puts_are : Each (IsOf now.primary) now.puts
    pub haves_are : Each (λ count. count ≤ length now.standby) now.haves
    pub was_answered : now.answered ≤ length now.standby

  keeps-append : (now : Replica R) (content : R) → Keeps now → Keeps (after_event now (append content))
  keeps-append now content keeps = record {
    missing = keeps.missing ++ content ∷ [];
    is_beginning = ap (λ xs. xs ++ content ∷ []) keeps.is_beginning ∙ append_assoc now.standby keeps.missing (content ∷ []);
    has_told = keeps.has_told;
    puts_are = each-weaker (λ put is. get-front now.primary (content ∷ []) put.number put.content is) now.puts keeps.puts_are;
    haves_are = keeps.haves_are;
    was_answered = keeps.was_answered;
  }

  keeps-offer : (now : Replica R) (number : ℕ) (there : Option R) → slice_get now.primary number ≡ there → Keeps now
      → Keeps (after_offer now number there)
  keeps-offer now number None is keeps = keeps
  keeps-offer now number (Some content) is keeps = record {
    missing = keeps.missing;
    is_beginning = keeps.is_beginning;
    has_told = keeps.has_told;
    puts_are = more (record { number = number; content = content }) now.puts is keeps.puts_are;
    haves_are = keeps.haves_are;
    was_answered = keeps.was_answered;
  }

  -- the standby with other records, and the count of them sent
  abbrev took : Replica R → List R → Replica R
  took now records = record now { standby = records; haves = length records ∷ now.haves }

  -- what came joins the records where its number is their count, and is then the primary's next one
  keeps-take : (now : Replica R) (put : Put R) (next : Bool) → (put.number == length now.standby) ≡ next → IsOf now.primary put → Keeps now
      → Keeps (took now (if next then now.standby ++ put.content ∷ [] else now.standby))
  keeps-take now put false other is keeps = record {
    missing = keeps.missing;
    is_beginning = keeps.is_beginning;
    has_told = keeps.has_told;
    puts_are = keeps.puts_are;
    haves_are = more (length now.standby) now.haves (omega arith) keeps.haves_are;
    was_answered = keeps.was_answered;
  }
  keeps-take now put true same is keeps =
      let place : put.number ≡ length now.standby = eqb-true put.number (length now.standby) same in
      let found : slice_get (now.standby ++ keeps.missing) (length now.standby) ≡ Some put.content =
      ap (λ xs. slice_get xs (length now.standby)) (sym keeps.is_beginning) ∙ ap (slice_get now.primary) (sym place) ∙ is in
      let next : (rest : List R) × (keeps.missing ≡ put.content ∷ rest) = next-is now.standby keeps.missing put.content found in
      let longer : length (now.standby ++ put.content ∷ []) ≡ length now.standby + 1 = length-append now.standby (put.content ∷ []) in
      let told : now.told ≤ length now.standby = keeps.has_told in
      let answered : now.answered ≤ length now.standby = keeps.was_answered in
      record {
        missing = next.0;
        is_beginning = keeps.is_beginning ∙ ap (λ xs. now.standby ++ xs) next.1 ∙ sym (append_assoc now.standby (put.content ∷ []) next.0);
        has_told = omega arith;
        puts_are = keeps.puts_are;
        haves_are = more (length (now.standby ++ put.content ∷ [])) now.haves (omega arith)
            (each-weaker (λ count low. omega arith) now.haves keeps.haves_are);
        was_answered = omega arith;
      }

  keeps-deliver : (now : Replica R) (came : Option (Put R)) (which : ℕ) → slice_get now.puts which ≡ came → Keeps now → Keeps (after_deliver now came)
  keeps-deliver now None which is keeps = keeps
  keeps-deliver now (Some put) which is keeps = keeps-take now put (put.number == length now.standby) refl (each-at now.puts keeps.puts_are which put is) keeps

  keeps-answer : (now : Replica R) (came : Option ℕ) (which : ℕ) → slice_get now.haves which ≡ came → Keeps now → Keeps (after_answer now came)
  keeps-answer now None which is keeps = keeps
  keeps-answer now (Some count) which is keeps = record {
    missing = keeps.missing;
    is_beginning = keeps.is_beginning;
    has_told = keeps.has_told;
    puts_are = keeps.puts_are;
    haves_are = keeps.haves_are;
    was_answered = max-le keeps.was_answered (each-at now.haves keeps.haves_are which count is);
  }

  keeps-tell : (now : Replica R) (number : ℕ) (may : Bool) → nat_lt number now.answered ≡ may → Keeps now
      → Keeps (if may then record now { told = max now.told (number + 1) } else now)
  keeps-tell now number false is keeps = keeps
  keeps-tell now number true is keeps =
      let low : number < now.answered = ltb-true number now.answered is in
      let answered : now.answered ≤ length now.standby = keeps.was_answered in
      record {
        missing = keeps.missing;
        is_beginning = keeps.is_beginning;
        has_told = max-le keeps.has_told (omega arith);
        puts_are = keeps.puts_are;
        haves_are = keeps.haves_are;
        was_answered = keeps.was_answered;
      }

  keeps-restart : (now : Replica R) → Keeps now → Keeps (after_event now primary_restart)
  keeps-restart now keeps = record {
    missing = keeps.missing;
    is_beginning = keeps.is_beginning;
    has_told = keeps.has_told;
    puts_are = keeps.puts_are;
    haves_are = keeps.haves_are;
    was_answered = omega arith;
  }

  keeps-event : (now : Replica R) (event : ReplicaEvent R) → Keeps now → Keeps (after_event now event)
  keeps-event now (append content) keeps = keeps-append now content keeps
  keeps-event now (offer number) keeps = keeps-offer now number (slice_get now.primary number) refl keeps
  keeps-event now (deliver which) keeps = keeps-deliver now (slice_get now.puts which) which refl keeps
  keeps-event now (answer which) keeps = keeps-answer now (slice_get now.haves which) which refl keeps
  keeps-event now (tell number) keeps = keeps-tell now number (nat_lt number now.answered) refl keeps
  keeps-event now primary_restart keeps = keeps-restart now keeps
  keeps-event now standby_restart keeps = keeps

  keeps-events : (now : Replica R) (events : List (ReplicaEvent R)) → Keeps now → Keeps (after_events now events)
  keeps-events now [] keeps = keeps
  keeps-events now (event ∷ events) keeps = keeps-events (after_event now event) events (keeps-event now event keeps)

  keeps-empty : Keeps (empty_replica R)
  keeps-empty = record { missing = []; is_beginning = refl; has_told = omega arith; puts_are = none; haves_are = none; was_answered = omega arith }

  pub standby_keeps_up : (events : List (ReplicaEvent R)) → KeepsUp (replica_after events)
  standby_keeps_up events =
      let keeps : Keeps (replica_after events) = keeps-events (empty_replica R) events keeps-empty in
      record { missing = keeps.missing; is_beginning = keeps.is_beginning; has_told = keeps.has_told }

  -- ---- what the records stand for

  stand-first : (entry_of : R → Option AnsweredQuery) (xs ys : List R) (entries : History) → map entry_of (xs ++ ys) ≡ map Some entries
      → map entry_of xs ≡ map Some (take (length xs) entries)
  stand-first entry_of [] ys entries e = refl
  stand-first entry_of (x ∷ xs) ys [] e = absurd cc
  stand-first entry_of (x ∷ xs) ys (entry ∷ entries) e =
      let one : entry_of x ≡ Some entry = cc in
      let others : map entry_of (xs ++ ys) ≡ map Some entries = cc in
      λ i. one i ∷ stand-first entry_of xs ys entries others i

  pub standby_hides : LegalHistoriesHide → PrefixesAreLegal → StandbysHide R
  standby_hides hide prefix schema world user entries valid of_schema sentences admits legal entry_of events are = record {
    is_beginning = refl;
    stands = stands;
    has_told = told;
    legal = legal_first;
    hides = hide schema world user first valid of_schema sentences_first admits legal_first;
  }
    where
      now : Replica R
      now = replica_after events

      up : KeepsUp now
      up = standby_keeps_up events

      first : History
      first = take (length now.standby) entries

      stands : map entry_of now.standby ≡ map Some first
      stands = stand-first entry_of now.standby up.missing entries (ap (map entry_of) (sym up.is_beginning) ∙ are)

      told : now.told ≤ length first
      told =
          let same : length now.standby ≡ length first = sym (length-map now.standby entry_of) ∙ ap length stands ∙ length-map first Some in
          let low : now.told ≤ length now.standby = up.has_told in
          omega arith

      legal_first : IsLegal schema world user first
      legal_first = prefix schema world user first (drop (length now.standby) entries)
          (subst (IsLegal schema world user) (sym (take-append-drop (length now.standby) entries)) legal)

      sentences_first : is_history_of schema first ≡ true
      sentences_first = history-first schema first (drop (length now.standby) entries)
          (ap (is_history_of schema) (take-append-drop (length now.standby) entries) ∙ sentences)
