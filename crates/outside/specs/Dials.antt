-- What dials exchange with a standby.
use Rattle.std.specs.Prelude.{◌≡◌, ◌⊎◌, ◌∷◌, ◌++◌, [], ℕ, List, Option, Some, None, Result, Ok, Err}
use Rattle.std.specs.Prelude.{bytes_eq, if◌then◌else◌}
use Rattle.std.specs.List.{sum_by}

-- An exchange: the address that was called, the frame that was given, the number that the answer
-- had to be above, and the number that was answered, if one was.
pub record Exchange : Type 0 where
  pub address : List ℕ
  pub frame : List ℕ
  pub above : ℕ
  pub answer : Option ℕ

-- the number that was answered
abbrev pub answer_of : {E : Type 0} → Result ℕ E → Option ℕ
answer_of (Ok count) = Some count
answer_of (Err why) = None

-- the exchange that a call was
abbrev pub exchange_of : {E : Type 0} → List ℕ → List ℕ → ℕ → Result ℕ E → Exchange
exchange_of address frame above result =
    record { address = address; frame = frame; above = above; answer = answer_of result }

-- this exchange came behind those before
abbrev pub IsNext : Exchange → List Exchange → List Exchange → Type 0
IsNext one old new = new ≡ old ++ one ∷ []

-- it did, or no further one came
abbrev pub MayBeNext : Exchange → List Exchange → List Exchange → Type 0
MayBeNext one old new = (new ≡ old) ⊎ IsNext one old new

-- the faults of one of several dials that count for a name: all where it is its own, and else none
abbrev pub faults_for : {X : Type 0} → (X → List ℕ) → (X → ℕ) → List ℕ → X → ℕ
faults_for own faults name dial = if bytes_eq name (own dial) then faults dial else 0

-- the faults of several dials that count for a name
abbrev pub faults_under : {X : Type 0} → (X → List ℕ) → (X → ℕ) → List X → List ℕ → ℕ
faults_under own faults dials name = sum_by (faults_for own faults name) dials
