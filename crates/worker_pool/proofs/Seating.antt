-- Workers that get their seats, and give them back.
use Rattle.std.proofs.Common.{◌≡◌, ℕ, List, [], ◌∷◌, ◌++◌, length, map, All, sym, ap, ◌∙◌, append_assoc, append-nil, subst, ◌<◌, arith}
use Rattle.std.proofs.Common.{length-append}
use Rattle.std.proofs.lemmas.List.{map-append}
use Rattle.std.proofs.lemmas.List.Elements.{All-push, All-from_recursion, recursion_from_All}
use Rattle.std.specs.List.{AllByRecursion}
use Rattle.worker_pool.specs.declared.worker.Worker.{Worker}
use Rattle.worker_pool.specs.declared.pool.Seated.{Seated}
use Rattle.worker_pool.specs.Drawers.{drawn}
use Rattle.worker_pool.specs.Seats.{draws}

module _ {X : Type 0} where
  -- a list that is read item by item: what was read, and what is left
  pub read_on : (all read left rest : List X) (x : X) → read ++ left ≡ all → left ≡ x ∷ rest → (read ++ x ∷ []) ++ rest ≡ all
  read_on all read left rest x so_far is = append_assoc read (x ∷ []) rest ∙ ap (λ (l : List X). read ++ l) (sym is) ∙ so_far

  pub read_more : (all read left rest : List X) (x : X) → read ++ left ≡ all → left ≡ x ∷ rest → length read < length all
  read_more all read left rest x so_far is = omega (arith, ap length so_far, length-append read left, ap length is)

  pub read_all : (all read left : List X) → read ++ left ≡ all → length left ≡ 0 → read ≡ all
  read_all all read [] so_far none = sym (append-nil read) ∙ so_far
  read_all all read (x ∷ left) so_far none = absurd (omega arith)

  -- what holds of all holds of the next
  pub next_of : (P : X → Type 0) (all read left rest : List X) (x : X) → read ++ left ≡ all → left ≡ x ∷ rest → All P all → P x
  next_of P all read left rest x so_far is each =
      middle read (subst (AllByRecursion P) (sym (ap (λ (l : List X). read ++ l) (sym is) ∙ so_far)) (recursion_from_All P all each))
    where
      middle : (xs : List X) → AllByRecursion P (xs ++ x ∷ rest) → P x
      middle [] h = h.0
      middle (y ∷ xs) h = middle xs h.1

module _ {J O : Type 0} where
  -- one more worker has a seat
  pub seated_more : (all new : List (Seated J O)) (seated : Seated J O) (workers : List (Worker J O)) → new ≡ all ++ seated ∷ []
      → map (λ s. s.worker) all ≡ workers
      → map (λ s. s.worker) new ≡ workers ++ seated.worker ∷ []
  seated_more all new seated workers added so_far =
      ap (λ (l : List (Seated J O)). map (λ s. s.worker) l) added ∙ map-append (λ (s : Seated J O). s.worker) all (seated ∷ [])
      ∙ ap (λ (l : List (Worker J O)). l ++ seated.worker ∷ []) so_far

  -- one more worker is back
  pub back_more : (crew new : List (Worker J O)) (seated : Seated J O) (read : List (Seated J O)) → new ≡ crew ++ seated.worker ∷ []
      → crew ≡ map (λ s. s.worker) read
      → new ≡ map (λ s. s.worker) (read ++ seated ∷ [])
  back_more crew new seated read added so_far =
      added ∙ ap (λ (l : List (Worker J O)). l ++ seated.worker ∷ []) so_far ∙ sym (map-append (λ (s : Seated J O). s.worker) read (seated ∷ []))

  pub each_more : (P : Seated J O → Type 0) (all new : List (Seated J O)) (seated : Seated J O) → new ≡ all ++ seated ∷ [] → All P all → P seated → All P new
  each_more P all new seated added so_far here = subst (All P) (sym added) (All-push P all seated so_far here)

  -- with one more seat come the numbers that were drawn there
  pub draws_more : (all : List (Seated J O)) (seated : Seated J O) → draws (all ++ seated ∷ []) ≡ draws all ++ drawn seated.drawer
  draws_more [] seated = append-nil (drawn seated.drawer)
  draws_more (first ∷ all) seated =
      ap (λ (l : List ℕ). drawn first.drawer ++ l) (draws_more all seated) ∙ sym (append_assoc (drawn first.drawer) (draws all) (drawn seated.drawer))

  -- what holds of all workers holds of those in the seats
  pub in_seats : (P : Worker J O → Type 0) (all : List (Seated J O)) (crew : List (Worker J O)) → map (λ s. s.worker) all ≡ crew → All P crew
      → All (λ s. P s.worker) all
  in_seats P all crew is each =
      All-from_recursion (λ s. P s.worker) all (seat_by_seat all (recursion_from_All P (map (λ s. s.worker) all) (subst (All P) (sym is) each)))
    where
      seat_by_seat : (seats : List (Seated J O)) → AllByRecursion P (map (λ s. s.worker) seats) → AllByRecursion (λ s. P s.worker) seats
      seat_by_seat [] h = tt
      seat_by_seat (seated ∷ seats) h = (h.0, seat_by_seat seats h.1)
