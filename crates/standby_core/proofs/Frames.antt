-- What came of reading a frame piece by piece.
use Rattle.std.proofs.Common.{◌≡◌, ◌≢◌, ℕ, ◌≤◌, List, [], ◌∷◌, ◌++◌, length, take, drop, refl, sym, ap, subst, ◌∙◌, arith, append_assoc, append-nil}
use Rattle.std.proofs.Common.{length-append, length-take, take-append-drop}
use Rattle.std.proofs.lemmas.List.{take-append-le, drop-append-le, take_all}
use Rattle.log_journal.specs.declared.header.Header.{Header}
use Rattle.standby_core.specs.Frames.{frame_bytes, agree, IsOther, IsBad, EndsWithinFrame, Shows, Reads, end_behind}
use Rattle.standby_core.specs.declared.frame.FrameOutcome.TheVariants.{Whole, InputEnd, BadFrame, ReadFault}
use Rattle.standby_core.specs.declared.frame.Judged.TheVariants.{Short, Bad}
use Rattle.standby_core.proofs.Agreeing.{agree-longer}

-- a list that isn't empty ends a frame badly
pub ends_empty : (bytes : List ℕ) → length bytes ≡ 0 → end_behind bytes ≡ end_behind []
ends_empty [] none = refl
ends_empty (byte ∷ bytes) none = absurd (omega (arith, none))

pub ends_inside : (bytes : List ℕ) → length bytes ≢ 0 → end_behind bytes ≡ end_behind (0 ∷ [])
ends_inside [] some = absurd (some refl)
ends_inside (byte ∷ bytes) some = refl

pub never_whole : (bytes : List ℕ) → end_behind bytes ≡ Whole → ⊥
never_whole [] is = let clash : InputEnd ≡ Whole = is in absurd cc
never_whole (byte ∷ bytes) is = let clash : BadFrame ≡ Whole = is in absurd cc

pub never_fault : (bytes : List ℕ) → end_behind bytes ≡ ReadFault → ⊥
never_fault [] is = let clash : InputEnd ≡ ReadFault = is in absurd cc
never_fault (byte ∷ bytes) is = let clash : BadFrame ≡ ReadFault = is in absurd cc

-- where no byte was taken the room is the same
pub same_room : (room room' : List ℕ) → length room' ≡ length room → take (length room) room' ≡ room → room' ≡ room
same_room room room' size front = sym (take_all (length room) room' (omega (arith, size))) ∙ front

module _ (header : Header) where
  -- nothing is within every frame
  pub none_within : EndsWithinFrame header []
  none_within one rest more proper is = omega arith

  -- a piece that is no more than what is needed
  pub more_within : (room room' : List ℕ) (need : ℕ) → Shows header room (Short need) → take (length room) room' ≡ room → length room' ≤ need
      → EndsWithinFrame header room'
  more_within room room' need shows front size one rest more proper is =
      let split : room ++ (drop (length room) room' ++ rest) ≡ room' ++ rest =
      sym (append_assoc room (drop (length room) room') rest)
      ∙ ap (λ l. l ++ rest) (ap (λ l. l ++ drop (length room) room') (sym front) ∙ take-append-drop (length room) room') in
      let most = shows.2 one (drop (length room) room' ++ rest) more proper (split ∙ is) in
      omega (arith, most, size)

  module _ (room before left : List ℕ) (is : before ≡ room ++ left) where
    pub bad_read : Shows header room Bad → IsBad header before
    bad_read shows = record {
      some = λ none. shows.0 (front_none room left (sym is ∙ none));
      no_frame = λ one rest proper came. shows.1 one left rest proper (sym is ∙ came);
      same_header = λ other. shows.2 left (subst (IsOther header) is other);
    }
      where
        front_none : (xs ys : List ℕ) → xs ++ ys ≡ [] → xs ≡ []
        front_none [] ys none = refl
        front_none (x ∷ xs) ys none = absurd cc

    pub other_read : IsOther header room → IsOther header before
    other_read other =
        let size = ap length other.marked in
        let long : 8 ≤ length room = omega (arith, size, length-take 8 room) in
        record {
          marked = ap (λ l. take 8 l) is ∙ take-append-le 8 room left long ∙ other.marked;
          differs = ap (λ l. agree (drop 8 l) (header.policy ++ header.facts)) is
              ∙ ap (λ l. agree l (header.policy ++ header.facts)) (drop-append-le 8 room left long)
              ∙ agree-longer (drop 8 room) (header.policy ++ header.facts) left other.differs;
        }

    -- the input ends where more is needed
    pub end_read : (need : ℕ) (after : List ℕ) (outcome : _) → Shows header room (Short need) → left ≡ [] → outcome ≡ end_behind room
        → Reads outcome header before after room
    end_read need after outcome shows none ends =
        subst (λ o. Reads o header before after room) (sym ends) (by room refl shows (is ∙ ap (λ l. room ++ l) none ∙ append-nil room))
      where
        by : (now : List ℕ) → room ≡ now → Shows header now (Short need) → before ≡ now → Reads (end_behind now) header before after room
        by [] same short whole = whole
        by (byte ∷ more) same short whole = record {
          some = λ empty. let clash : byte ∷ more ≡ [] = sym whole ∙ empty in absurd cc;
          no_frame = λ one rest proper came.
              let goes : (byte ∷ more) ++ [] ≡ frame_bytes header one ++ rest = append-nil (byte ∷ more) ∙ sym whole ∙ came in
              let most = short.2 one [] rest proper goes in
              omega (arith, most, short.0, ap length (sym whole ∙ came), length-append (frame_bytes header one) rest);
          same_header = λ other. short.3 (subst (IsOther header) whole other);
        }
