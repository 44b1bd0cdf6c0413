-- A connection that is served, frame by frame.
use Rattle.std.proofs.Common.{◌≡◌, ◌⊎◌, ◌↔◌, inl, inr, ℕ, suc, ◌+◌, List, [], ◌∷◌, ◌++◌, length, take, None, Result, Err, Ok, refl, sym, ap, subst, ◌∙◌, arith}
use Rattle.std.proofs.Common.{append_assoc, length-append}
use Rattle.log_journal.specs.declared.header.Header.{Header}
use Rattle.standby_core.specs.Copies.{Copy, copy_at, HasCount, HasFailed, FailsAlone}
use Rattle.standby_core.specs.Exchanges.{Takes, more, ServesConnection, HasEnded, IsRefusedFor, RefusedLeaves, IsAnswered, AreLeft, IsTaking, Took}
use Rattle.standby_core.specs.Frames.{Carried, answer_bytes}
use Rattle.standby_core.specs.declared.book.TakeError.{TakeError}
use Rattle.standby_core.specs.declared.book.TakeError.TheVariants as why
use Rattle.standby_core.specs.declared.serve.StandbyEnd.{StandbyEnd}
use Rattle.standby_core.specs.declared.serve.StandbyEnd.TheVariants as end

-- all of a list and some of what stands behind it
pub take_into : {X : Type 0} (xs ys : List X) (n : ℕ) → take (length xs + n) (xs ++ ys) ≡ xs ++ take n ys
take_into [] ys n =
    let none : 0 + n ≡ n = omega arith in
    ap (λ k. take k ys) none
take_into (x ∷ xs) ys n =
    let one : suc (length xs) + n ≡ suc (length xs + n) = omega arith in
    ap (λ k. take k (x ∷ (xs ++ ys))) one ∙ ap (λ l. x ∷ l) (take_into xs ys n)

-- it was refused for this reason
abbrev told : TakeError → Result ℕ TakeError
told why = Err why

abbrev Tells : TakeError → TakeError → Type 0
Tells is why = told is ≡ told why

-- why a record wasn't taken, from what is known of each cause
pub refused_for : (copies : List Copy) (one : Carried) (is : TakeError) → (Tells is why.UnknownName → copy_at copies one.name ≡ None)
    → (Tells is why.Broken ↔ HasFailed copies one.name) → (Tells is why.DiskFault ⊎ Tells is why.Memory → HasCount copies one.name one.number)
    → IsRefusedFor is copies one
refused_for copies one why.UnknownName unknown broken next = unknown refl
refused_for copies one why.DiskFault unknown broken next =
    (λ failed. let clash : Tells why.DiskFault why.Broken = broken.1 failed in absurd cc, next (inl refl))
refused_for copies one why.Broken unknown broken next = broken.0 refl
refused_for copies one why.Memory unknown broken next =
    (λ failed. let clash : Tells why.Memory why.Broken = broken.1 failed in absurd cc, next (inr refl))

-- and what it left
pub refused_leaves : (copies copies' : List Copy) (one : Carried) (is : TakeError) → (Tells is why.UnknownName → copies' ≡ copies)
    → (Tells is why.DiskFault → FailsAlone copies copies' one.name) → (Tells is why.Broken → copies' ≡ copies)
    → (Tells is why.Memory → copies' ≡ copies)
    → RefusedLeaves is copies copies' one
refused_leaves copies copies' one why.UnknownName unknown fault broken memory = unknown refl
refused_leaves copies copies' one why.DiskFault unknown fault broken memory = fault refl
refused_leaves copies copies' one why.Broken unknown fault broken memory = broken refl
refused_leaves copies copies' one why.Memory unknown fault broken memory = memory refl

module _ (header : Header) (bytes : List ℕ) (copies : List Copy) where
  -- the frames so far were taken, and these answers written
  pub record SoFar (left : List ℕ) (now : List Copy) (old new : List ℕ) : Type 0 where
    pub answers : List ℕ
    pub took : Takes header bytes copies answers left now
    pub written : new ≡ old ++ answers

  -- one frame more was taken and answered
  pub one_more : (left rest room old mid new : List ℕ) (before after : List Copy) (done : Unit {0}) → SoFar left before old mid → left ≡ room ++ rest
      → Took header room before after mid new (Ok done) → SoFar rest after old new
  one_more left rest room old mid new before after done so_far came took =
      let one = took.0 in
      let frame = took.1 in
      let count = took.2.0 in
      let taken = took.2.1 in
      record {
        answers = so_far.answers ++ answer_bytes count;
        took = subst (λ c. Takes header bytes copies (so_far.answers ++ answer_bytes count) rest c) (sym taken.left)
            (more so_far.answers left rest before one count so_far.took frame.proper (came ∙ ap (λ l. l ++ rest) frame.is) taken.whole
            (subst (λ c. HasCount c one.name count) taken.left taken.counted));
        written = took.2.2 ∙ ap (λ l. l ++ answer_bytes count) so_far.written ∙ append_assoc old so_far.answers (answer_bytes count);
      }

  -- what is promised of an end
  abbrev pub Ends : List Copy → List ℕ → List ℕ → StandbyEnd → Type 0
  Ends after old new ended = (served : ServesConnection header bytes copies after ended) × IsAnswered ended served.answers old new

  -- ---- the ends between two frames, and before one was taken

  ends_between : (left old new : List ℕ) (now : List Copy) (ended : StandbyEnd) → SoFar left now old new → HasEnded header left now ended
      → AreLeft header left ended now now
      → ((answers : List ℕ) → new ≡ old ++ answers → IsAnswered ended answers old new) → Ends now old new ended
  ends_between left old new now ended so_far cause same answered = (
    record { answers = so_far.answers; left = left; copies_left = now; took = so_far.took; ended = cause; are_left = same },
    answered so_far.answers so_far.written,
  )

  pub ends_input : (left old new : List ℕ) (now : List Copy) → SoFar left now old new → left ≡ [] → Ends now old new end.InputEnd
  ends_input left old new now so_far none = ends_between left old new now end.InputEnd so_far none refl (λ answers is. is)

  pub ends_bad : (left old new : List ℕ) (now : List Copy) → SoFar left now old new → HasEnded header left now end.BadFrame → Ends now old new end.BadFrame
  ends_bad left old new now so_far bad = ends_between left old new now end.BadFrame so_far bad refl (λ answers is. is)

  pub ends_other : (left old new : List ℕ) (now : List Copy) → SoFar left now old new → HasEnded header left now end.OtherHeader
      → Ends now old new end.OtherHeader
  ends_other left old new now so_far other = ends_between left old new now end.OtherHeader so_far other refl (λ answers is. is)

  pub ends_fault : (left old new : List ℕ) (now : List Copy) → SoFar left now old new → Ends now old new end.ReadFault
  ends_fault left old new now so_far = ends_between left old new now end.ReadFault so_far tt refl (λ answers is. is)

  -- ---- the ends at a frame

  pub ends_taking : (left rest room old mid new : List ℕ) (before after : List Copy) (ended : StandbyEnd) → IsTaking ended → SoFar left before old mid
      → left ≡ room ++ rest → Took header room before after mid new (Err ended) → Ends after old new ended
  ends_taking left rest room old mid new before after (end.Take why) at so_far came took = (
    record {
      answers = so_far.answers;
      left = left;
      copies_left = before;
      took = so_far.took;
      ended = (took.0, rest, took.1.proper, came ∙ ap (λ l. l ++ rest) took.1.is, took.2.0);
      are_left = (took.0, rest, took.1.proper, came ∙ ap (λ l. l ++ rest) took.1.is, took.2.1);
    },
    took.2.2 ∙ so_far.written,
  )
  ends_taking left rest room old mid new before after end.WriteFault at so_far came took =
      let one = took.0 in
      let frame = took.1 in
      let count = took.2.0 in
      let taken = took.2.1 in
      let part = took.2.2 in
      let answers = so_far.answers ++ answer_bytes count in (
        record {
          answers = answers;
          left = rest;
          copies_left = after;
          took = subst (λ c. Takes header bytes copies answers rest c) (sym taken.left)
              (more so_far.answers left rest before one count so_far.took frame.proper (came ∙ ap (λ l. l ++ rest) frame.is) taken.whole
              (subst (λ c. HasCount c one.name count) taken.left taken.counted));
          ended = tt;
          are_left = refl;
        },
        (
          length so_far.answers + part.0,
          omega (arith, length-append so_far.answers (answer_bytes count), part.1),
          part.2 ∙ ap (λ l. l ++ take part.0 (answer_bytes count)) so_far.written ∙ append_assoc old so_far.answers (take part.0 (answer_bytes count))
              ∙ ap (λ l. old ++ l) (sym (take_into so_far.answers (answer_bytes count) part.0)),
        ),
      )
  ends_taking left rest room old mid new before after end.InputEnd at so_far came took = absurd at
  ends_taking left rest room old mid new before after end.BadFrame at so_far came took = absurd at
  ends_taking left rest room old mid new before after end.OtherHeader at so_far came took = absurd at
  ends_taking left rest room old mid new before after end.ReadFault at so_far came took = absurd at
