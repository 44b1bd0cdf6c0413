-- What a disk's calls do to the bytes that it reads, and what a crash may leave: the disk model.
use Rattle.std.specs.Prelude.{◌≡◌, ◌⊎◌, ℕ, ◌+◌, ◌-◌, ◌≤◌, min, List, ◌++◌, length, take, drop}

-- new is old with these bytes written over it from this place on.
abbrev pub Holds : List ℕ → ℕ → List ℕ → List ℕ → Type 0
Holds old at bytes new = new ≡ take at old ++ bytes ++ drop (at + length bytes) old

-- A piece was filled with the n bytes from this place on, fewer than the piece has only where the
-- disk ends.
pub record Fills (disk : List ℕ) (at n : ℕ) (old new : List ℕ) : Type 0 where
  pub count : n ≡ min (length old) (length disk - at)
  pub piece : new ≡ take n (drop at disk) ++ drop n old

-- A crash after a write of n bytes: up to the old end no byte outside of the range has changed, and
-- none is lost. The range, and what lies past the old end, may hold any bytes.
pub record Torn (at n : ℕ) (old new : List ℕ) : Type 0 where
  pub before : take at (take (length old) new) ≡ take at old
  pub after : drop (at + n) (take (length old) new) ≡ drop (at + n) old
  pub no_shorter : length old ≤ length new

-- Each new image is an old image after a step.
abbrev pub Follows : (List ℕ → List ℕ → Type 0) → (List ℕ → Type 0) → (List ℕ → Type 0) → Type 0
Follows step old new = (c : List ℕ) → new c → (d : List ℕ) × old d × step d c

-- A crash leaves these bytes and nothing else.
abbrev pub Only : List ℕ → (List ℕ → Type 0) → Type 0
Only bytes image = (c : List ℕ) → image c → c ≡ bytes

-- Time goes on: the images at the moments since t are those since t as the call began, and those at
-- the moments of the call.
pub record Elapses (before now : ℕ) (past since : ℕ → List ℕ → Type 0) : Type 0 where
  pub later : before ≤ now
  pub nothing_else : (t : ℕ) (c : List ℕ) → t ≤ before → since t c → past t c ⊎ since before c
  pub keeps : (t : ℕ) (c : List ℕ) → t ≤ before → past t c → since t c
  pub adds : (t : ℕ) (c : List ℕ) → t ≤ before → since before c → since t c

-- A disk was told of no record more. What it heard is said by the number and the kind and text.
abbrev pub HearsNoMore : (ℕ → ℕ × List ℕ → Type 0) → (ℕ → ℕ × List ℕ → Type 0) → Type 0
HearsNoMore old new = (number : ℕ) (one : ℕ × List ℕ) → new number one → old number one

-- It was told of this record with this number at most.
abbrev pub HearsAtMost : ℕ → ℕ × List ℕ → (ℕ → ℕ × List ℕ → Type 0) → (ℕ → ℕ × List ℕ → Type 0)
    → Type 0
HearsAtMost told record' old new = (number : ℕ) (one : ℕ × List ℕ) → new number one
    → old number one ⊎ ((number ≡ told) × (one ≡ record'))

-- It was told of none.
abbrev pub HeardNothing : (ℕ → ℕ × List ℕ → Type 0) → Type 0
HeardNothing heard = (number : ℕ) (one : ℕ × List ℕ) → heard number one → ⊥
