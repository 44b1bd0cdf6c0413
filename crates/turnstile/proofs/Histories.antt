-- Facts about histories.
use Rattle.std.proofs.Common.{◌≡◌, ℕ, ◌+◌, ◌<◌, ◌≤◌, eqb, not, cond, Bool, List, [], ◌∷◌, ◌++◌, length, slice_index_or, All, refl, sym, ap, ◌∙◌, subst, inl}
use Rattle.std.proofs.Common.{inr, ⊎_elim, arith, eq-eqb, ne_eqb, append-nil, length-append}
use Rattle.std.proofs.lemmas.List.Elements.{filter-append, All-nil, All-cons, All-head, All-tail}
use mathlib.Core.Logic.{dite}
use native.Mathlib.Decide.{ℕ_discrete}
use Rattle.turnstile.specs.History.{Entries, count_of, entries_with, turn_entries, NoneWith, IsOpening, IsRising, Interleaves}
use Rattle.turnstile.proofs.Counts.{count_of-append, count_of-else}

module _ {X : Type 0} (P : X → Type 0) where
  all_front : (xs ys : List X) → All P (xs ++ ys) → All P xs
  all_front [] ys h = All-nil P
  all_front (x ∷ xs) ys h = All-cons P x xs (All-head P x (xs ++ ys) h) (all_front xs ys (All-tail P x (xs ++ ys) h))

  pub all_end : (xs ys : List X) → All P (xs ++ ys) → All P ys
  all_end [] ys h = h
  all_end (x ∷ xs) ys h = all_end xs ys (All-tail P x (xs ++ ys) h)

module _ {I : Type 0} where
  -- the pair's ticket is below n
  abbrev pub Below : ℕ → ℕ × I → Type 0
  Below n e = e.0 < n

  -- every ticket is below n
  abbrev pub AllBelow : ℕ → Entries I → Type 0
  AllBelow n entries = All (Below n) entries

  -- the pair has none of these tickets
  abbrev pub Lacks : List ℕ → ℕ × I → Type 0
  Lacks tickets e = count_of e.0 tickets ≡ 0

  pub rising_below : (low n : ℕ) (es : Entries I) → 0 < n → IsRising low n es → AllBelow n es
  rising_below low n [] pos h = All-nil (Below n)
  rising_below low n (e ∷ es) pos h =
      ⊎_elim (λ (t : (e.0 ≡ 0) × IsRising low n es). let z = t.0 in All-cons (Below n) e es (omega arith) (rising_below low n es pos t.1))
      (λ (t : (low < e.0) × (e.0 < n) × IsRising e.0 n es). All-cons (Below n) e es t.1 (rising_below e.0 n es pos t.2)) h

  pub below_front : (n : ℕ) (xs ys : Entries I) → AllBelow n (xs ++ ys) → AllBelow n xs
  below_front n xs ys h = all_front (Below n) xs ys h

  pub below_end : (n : ℕ) (xs ys : Entries I) → AllBelow n (xs ++ ys) → AllBelow n ys
  below_end n xs ys h = all_end (Below n) xs ys h

  pub below_more : (m n : ℕ) (xs : Entries I) → m ≤ n → AllBelow m xs → AllBelow n xs
  below_more m n xs le h k d lt = let l = h k d lt in omega arith

  -- one more pair, with the next ticket
  pub rising_more : (low n : ℕ) (es : Entries I) (x : I) → low < n → IsRising low n es → IsRising low (n + 1) (es ++ (n, x) ∷ [])
  rising_more low n [] x lt h = inr (lt, omega arith, tt)
  rising_more low n (e ∷ es) x lt h = ⊎_elim (λ (t : (e.0 ≡ 0) × IsRising low n es). inl (t.0, rising_more low n es x lt t.1))
      (λ (t : (low < e.0) × (e.0 < n) × IsRising e.0 n es). let u = t.1 in inr (t.0, omega arith, rising_more e.0 n es x t.1 t.2)) h

  pub rising_under : (low m n : ℕ) (es : Entries I) → m ≤ n → IsRising low m es → IsRising low n es
  rising_under low m n [] le h = tt
  rising_under low m n (e ∷ es) le h = ⊎_elim (λ (t : (e.0 ≡ 0) × IsRising low m es). inl (t.0, rising_under low m n es le t.1))
      (λ (t : (low < e.0) × (e.0 < m) × IsRising e.0 m es). let u = t.1 in inr (t.0, omega arith, rising_under e.0 m n es le t.2)) h

  pub rising_on : (low n : ℕ) (es : Entries I) → IsRising low n es → IsRising low (n + 1) es
  rising_on low n [] h = tt
  rising_on low n (e ∷ es) h = ⊎_elim (λ (t : (e.0 ≡ 0) × IsRising low n es). inl (t.0, rising_on low n es t.1))
      (λ (t : (low < e.0) × (e.0 < n) × IsRising e.0 n es). let u = t.1 in inr (t.0, omega arith, rising_on e.0 n es t.2)) h

  pub rising_front : (low n : ℕ) (xs ys : Entries I) → IsRising low n (xs ++ ys) → IsRising low n xs
  rising_front low n [] ys h = tt
  rising_front low n (e ∷ es) ys h = ⊎_elim (λ (t : (e.0 ≡ 0) × IsRising low n (es ++ ys)). inl (t.0, rising_front low n es ys t.1))
      (λ (t : (low < e.0) × (e.0 < n) × IsRising e.0 n (es ++ ys)). inr (t.0, t.1, rising_front e.0 n es ys t.2)) h

  pub rising_opening : (low n : ℕ) (es : Entries I) → IsOpening es → IsRising low n es
  rising_opening low n [] h = tt
  rising_opening low n (e ∷ es) h = inl (All-head (λ x. x.0 ≡ 0) e es h, rising_opening low n es (All-tail (λ x. x.0 ≡ 0) e es h))

  pub none_more : (ts : List ℕ) (n : ℕ) (es : Entries I) → NoneWith ts es → AllBelow n es → NoneWith (ts ++ n ∷ []) es
  none_more ts n es h b k d lt = let l = b k d lt in let z = h k d lt in let x = slice_index_or es k d in
      omega (arith, count_of-append x.0 ts (n ∷ []), count_of-else x.0 n (λ s. omega arith))

  pub none_front : (ts : List ℕ) (xs ys : Entries I) → NoneWith ts (xs ++ ys) → NoneWith ts xs
  none_front ts xs ys h = all_front (Lacks ts) xs ys h

  pub none_end : (ts : List ℕ) (xs ys : Entries I) → NoneWith ts (xs ++ ys) → NoneWith ts ys
  none_end ts xs ys h = all_end (Lacks ts) xs ys h

  pub none_both : (ts us : List ℕ) (es : Entries I) → NoneWith ts es → NoneWith us es → NoneWith (ts ++ us) es
  none_both ts us es h g k d lt = let a = h k d lt in let b = g k d lt in let x = slice_index_or es k d in omega (arith, count_of-append x.0 ts us)

  pub none_of_none : (es : Entries I) → NoneWith [] es
  none_of_none es k d lt = refl

  pub entries_with_none : (ts : List ℕ) (es : Entries I) → NoneWith ts es → entries_with ts es ≡ []
  entries_with_none ts [] h = refl
  entries_with_none ts (e ∷ es) h =
      ap (λ (b : Bool). cond (not b) (e ∷ entries_with ts es) (entries_with ts es)) (eq-eqb (count_of e.0 ts) 0 (All-head (Lacks ts) e es h))
      ∙ entries_with_none ts es (All-tail (Lacks ts) e es h)

  -- what a view has seen has all pairs with its tickets
  pub entries_with_seen : (ts : List ℕ) (xs ys zs : Entries I) → zs ≡ xs ++ ys → NoneWith ts ys → entries_with ts zs ≡ entries_with ts xs
  entries_with_seen ts xs ys zs e h =
      ap (entries_with ts) e
      ∙ (filter-append (λ (x : ℕ × I). not (eqb (count_of x.0 ts) 0)) xs ys
      ∙ (ap (λ (r : Entries I). entries_with ts xs ++ r) (entries_with_none ts ys h) ∙ append-nil (entries_with ts xs)))

  -- of two beginnings of one list, the longer one begins with the shorter
  pub begins_longer : (xs ys us vs : Entries I) → xs ++ us ≡ ys ++ vs → length xs ≤ length ys → (mid : Entries I) × (ys ≡ xs ++ mid) × (us ≡ mid ++ vs)
  begins_longer [] ys us vs e le = (ys, refl, e)
  begins_longer (x ∷ xs) [] us vs e le = absurd (omega arith)
  begins_longer (x ∷ xs) (y ∷ ys) us vs e le =
      let heads : x ≡ y = cc in let tails : xs ++ us ≡ ys ++ vs = cc in let t = begins_longer xs ys us vs tails (omega arith) in
      (t.0, (λ i. sym heads i ∷ t.1 i), t.2)

  -- a list that begins another and is no shorter is the other
  pub begins_whole : (xs ys rest : Entries I) → ys ≡ xs ++ rest → length ys ≤ length xs → rest ≡ []
  begins_whole xs ys [] e le = refl
  begins_whole xs ys (r ∷ rs) e le = absurd (omega (arith, ap length e, length-append xs (r ∷ rs)))

  -- where the tickets are those from 1 to n - 1, the pairs that have them are those that were added later
  pub entries_with_all : (ts : List ℕ) (n : ℕ) (es : Entries I) → AllBelow n es → count_of 0 ts ≡ 0 → ((x : ℕ) → 1 ≤ x → x < n → 0 < count_of x ts)
      → turn_entries es ≡ entries_with ts es
  entries_with_all ts n [] below zero_of all = refl
  entries_with_all ts n (e ∷ es) below zero_of all =
      let rest = entries_with_all ts n es (All-tail (Below n) e es below) zero_of all in
      let l = All-head (Below n) e es below in
      dite (ℕ_discrete e.0 0)
      (λ z. let none_of : count_of e.0 ts ≡ 0 = ap (λ x. count_of x ts) z ∙ zero_of in
      let a : turn_entries (e ∷ es) ≡ turn_entries es = ap (λ (b : Bool). cond (not b) (e ∷ turn_entries es) (turn_entries es)) (eq-eqb e.0 0 z) in
      let b : entries_with ts (e ∷ es) ≡ entries_with ts es =
      ap (λ (b : Bool). cond (not b) (e ∷ entries_with ts es) (entries_with ts es)) (eq-eqb (count_of e.0 ts) 0 none_of) in
      a ∙ (rest ∙ sym b))
      (λ z. let some_of = all e.0 (omega arith) l in
      let a : turn_entries (e ∷ es) ≡ e ∷ turn_entries es = ap (λ (b : Bool). cond (not b) (e ∷ turn_entries es) (turn_entries es)) (ne_eqb e.0 0 z) in
      let b : entries_with ts (e ∷ es) ≡ e ∷ entries_with ts es =
      ap (λ (b : Bool). cond (not b) (e ∷ entries_with ts es) (entries_with ts es)) (ne_eqb (count_of e.0 ts) 0 (λ w. omega arith)) in
      a ∙ (ap (λ (l : Entries I). e ∷ l) rest ∙ sym b))

  -- a turn's pair is among those that turns added
  pub turned_more : (es : Entries I) (n : ℕ) (x : I) → 0 < n → turn_entries (es ++ (n, x) ∷ []) ≡ turn_entries es ++ (n, x) ∷ []
  turned_more es n x pos =
      filter-append (λ (e : ℕ × I). not (eqb e.0 0)) es ((n, x) ∷ [])
      ∙ ap (λ (b : Bool). turn_entries es ++ cond (not b) ((n, x) ∷ []) []) (ne_eqb n 0 (λ z. omega arith))

  -- none is where every ticket is 0
  pub none_of_opening : (es : Entries I) → IsOpening es → turn_entries es ≡ []
  none_of_opening [] zeros = refl
  none_of_opening (e ∷ es) zeros =
      ap (λ (b : Bool). cond (not b) (e ∷ turn_entries es) (turn_entries es)) (eq-eqb e.0 0 (All-head (λ x. x.0 ≡ 0) e es zeros))
      ∙ none_of_opening es (All-tail (λ x. x.0 ≡ 0) e es zeros)

  -- a ticket that no pair has adds none
  pub entries_with_fresh : (ts : List ℕ) (n : ℕ) (es : Entries I) → AllBelow n es → entries_with (ts ++ n ∷ []) es ≡ entries_with ts es
  entries_with_fresh ts n [] below = refl
  entries_with_fresh ts n (e ∷ es) below =
      let l = All-head (Below n) e es below in
      let same : count_of e.0 (ts ++ n ∷ []) ≡ count_of e.0 ts = omega (arith, count_of-append e.0 ts (n ∷ []), count_of-else e.0 n (λ s. omega arith)) in
      ap (λ (k : ℕ). cond (not (eqb k 0)) (e ∷ entries_with (ts ++ n ∷ []) es) (entries_with (ts ++ n ∷ []) es)) same
      ∙ ap (λ (r : Entries I). cond (not (eqb (count_of e.0 ts) 0)) (e ∷ r) r) (entries_with_fresh ts n es (All-tail (Below n) e es below))

  interleaves_at : (xs xs' ys ys' zs zs' : Entries I) → xs ≡ xs' → ys ≡ ys' → zs ≡ zs' → Interleaves xs' ys' zs' → Interleaves xs ys zs
  interleaves_at xs xs' ys ys' zs zs' p q r h = subst (λ (t : Entries I × Entries I × Entries I). Interleaves t.0 t.1 t.2) (λ i. (sym p i, sym q i, sym r i)) h

  pub kept : (ts : List ℕ) (e : ℕ × I) (es : Entries I) → 0 < count_of e.0 ts → entries_with ts (e ∷ es) ≡ e ∷ entries_with ts es
  kept ts e es pos = ap (λ (b : Bool). cond (not b) (e ∷ entries_with ts es) (entries_with ts es)) (ne_eqb (count_of e.0 ts) 0 (λ w. omega arith))

  dropped : (ts : List ℕ) (e : ℕ × I) (es : Entries I) → count_of e.0 ts ≡ 0 → entries_with ts (e ∷ es) ≡ entries_with ts es
  dropped ts e es z = ap (λ (b : Bool). cond (not b) (e ∷ entries_with ts es) (entries_with ts es)) (eq-eqb (count_of e.0 ts) 0 z)

  -- the pairs of two lists of tickets that have none in common are those of the one and those of the other, in their order
  pub entries_with_both : (ts us : List ℕ) (es : Entries I) → ((x : ℕ) → count_of x (ts ++ us) ≤ 1)
      → Interleaves (entries_with ts es) (entries_with us es) (entries_with (ts ++ us) es)
  entries_with_both ts us [] apart = (refl, refl)
  entries_with_both ts us (e ∷ es) apart =
      let rest = entries_with_both ts us es apart in
      let sum = count_of-append e.0 ts us in
      let most = apart e.0 in
      dite (ℕ_discrete (count_of e.0 ts) 0)
      (λ a. dite (ℕ_discrete (count_of e.0 us) 0)
      (λ b. interleaves_at _ _ _ _ _ _ (dropped ts e es a) (dropped us e es b) (dropped (ts ++ us) e es (omega arith)) rest)
      (λ b. interleaves_at _ _ _ _ _ (e ∷ entries_with (ts ++ us) es) (dropped ts e es a) (kept us e es (omega arith)) (kept (ts ++ us) e es (omega arith))
      (inr (entries_with us es, refl, rest))))
      (λ a. interleaves_at _ _ _ _ _ (e ∷ entries_with (ts ++ us) es) (kept ts e es (omega arith)) (dropped us e es (omega arith))
      (kept (ts ++ us) e es (omega arith)) (inl (entries_with ts es, refl, rest)))

  -- and as many
  pub interleaves_length : (xs ys zs : Entries I) → Interleaves xs ys zs → length zs ≡ length xs + length ys
  interleaves_length xs ys [] h = omega (arith, ap length h.0, ap length h.1)
  interleaves_length xs ys (z ∷ zs) h = ⊎_elim
      (λ (t : (rest : Entries I) × (xs ≡ z ∷ rest) × Interleaves rest ys zs). omega (arith, ap length t.1, interleaves_length t.0 ys zs t.2))
      (λ (t : (rest : Entries I) × (ys ≡ z ∷ rest) × Interleaves xs rest zs). omega (arith, ap length t.1, interleaves_length xs t.0 zs t.2)) h
