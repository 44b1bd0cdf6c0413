-- A primary that keeps records and a standby that copies them, whatever becomes of their packets.
use Rattle.std.specs.Prelude.{◌≡◌, ℕ, ◌+◌, ◌==◌, nat_lt, max, List, [], ◌∷◌, ◌++◌, length}
use Rattle.std.specs.Prelude.{Option, Some, None, if◌then◌else◌}
use Rattle.std.specs.List.{slice_get}

-- one record of the primary, with its number from 0
pub record Put (R : Type 0) : Type 0 where
  pub number : ℕ
  pub content : R

-- the primary and its standby
pub record Replica (R : Type 0) : Type 0 where
  -- the primary's records, and the standby's
  pub primary : List R
  pub standby : List R
  -- the greatest count that the primary was answered since it last started
  pub answered : ℕ
  -- so many marks were told, or fewer: those of the records with lower numbers
  pub told : ℕ
  -- all that the primary ever sent, and all counts that the standby ever sent
  pub puts : List (Put R)
  pub haves : List ℕ

-- what happens next; a packet is one that was sent at any time, by its place among all of its kind,
-- so that packets are lost, repeated and turned round
pub data ReplicaEvent (R : Type 0) : Type 0 where
  append : (content : R) → ReplicaEvent R
  offer : (number : ℕ) → ReplicaEvent R
  deliver : (which : ℕ) → ReplicaEvent R
  answer : (which : ℕ) → ReplicaEvent R
  tell : (number : ℕ) → ReplicaEvent R
  primary_restart : ReplicaEvent R
  standby_restart : ReplicaEvent R

-- the standby's records after a record with this number comes: it joins them where it is the next
abbrev pub records_after : {R : Type 0} → List R → ℕ → R → List R
records_after records number content =
    if number == length records then records ++ content ∷ [] else records

-- the primary sends the record with this number, where it has one
abbrev pub after_offer : {R : Type 0} → Replica R → ℕ → Option R → Replica R
after_offer now number None = now
after_offer now number (Some content) =
    record now { puts = record { number = number; content = content } ∷ now.puts }

-- the standby takes what came, and sends the count of its records
abbrev pub after_deliver : {R : Type 0} → Replica R → Option (Put R) → Replica R
after_deliver now None = now
after_deliver now (Some put) =
    let records = records_after now.standby put.number put.content in
    record now { standby = records; haves = length records ∷ now.haves }

-- the primary keeps the greater count
abbrev pub after_answer : {R : Type 0} → Replica R → Option ℕ → Replica R
after_answer now None = now
after_answer now (Some count) = record now { answered = max now.answered count }

-- the pair after an event; a mark is told only where the primary was answered a count above its
-- number
abbrev pub after_event : {R : Type 0} → Replica R → ReplicaEvent R → Replica R
after_event now (append content) = record now { primary = now.primary ++ content ∷ [] }
after_event now (offer number) = after_offer now number (slice_get now.primary number)
after_event now (deliver which) = after_deliver now (slice_get now.puts which)
after_event now (answer which) = after_answer now (slice_get now.haves which)
after_event now (tell number) =
    if nat_lt number now.answered then record now { told = max now.told (number + 1) } else now
after_event now primary_restart = record now { answered = 0 }
after_event now standby_restart = now

-- all begin empty
abbrev pub empty_replica : (R : Type 0) → Replica R
empty_replica R =
    record { primary = []; standby = []; answered = 0; told = 0; puts = []; haves = [] }

-- the pair after events, the first one first
abbrev pub after_events : {R : Type 0} → Replica R → List (ReplicaEvent R) → Replica R
after_events now [] = now
after_events now (event ∷ events) = after_events (after_event now event) events

-- where a pair stands that began empty
abbrev pub replica_after : {R : Type 0} → List (ReplicaEvent R) → Replica R
replica_after {R} events = after_events (empty_replica R) events

-- so many marks are told after these events
abbrev pub told_after : {R : Type 0} → List (ReplicaEvent R) → ℕ
told_after events = (replica_after events).told

-- the standby's records after these events
abbrev pub standby_after : {R : Type 0} → List (ReplicaEvent R) → List R
standby_after events = (replica_after events).standby

-- what the machine does in some short runs, over any records
pub record MachineExamples (R : Type 0) : Type 0 where
  -- a record that was offered, delivered and answered is told
  pub told : (a : R)
      → (standby_after (append a ∷ offer 0 ∷ deliver 0 ∷ answer 0 ∷ tell 0 ∷ []) ≡ a ∷ [])
      × (told_after (append a ∷ offer 0 ∷ deliver 0 ∷ answer 0 ∷ tell 0 ∷ []) ≡ 1)
  -- one whose answer didn't come isn't
  pub unanswered : (a : R) → told_after (append a ∷ offer 0 ∷ deliver 0 ∷ tell 0 ∷ []) ≡ 0
  -- nor one whose answer came before the primary started anew
  pub forgotten : (a : R)
      → told_after (append a ∷ offer 0 ∷ deliver 0 ∷ answer 0 ∷ primary_restart ∷ tell 0 ∷ []) ≡ 0
  -- an old answer serves after that, since the standby loses nothing
  pub old_answer : (a : R)
      → told_after (append a ∷ offer 0 ∷ deliver 0 ∷ primary_restart ∷ answer 0 ∷ tell 0 ∷ []) ≡ 1
  -- a packet that is lost leaves both as they were
  pub lost : (a : R) → standby_after (append a ∷ offer 0 ∷ tell 0 ∷ []) ≡ []
  -- a record that comes before its turn isn't taken, and one that comes late or twice is taken once
  pub early : (a b : R) → standby_after (append a ∷ append b ∷ offer 1 ∷ deliver 0 ∷ []) ≡ []
  pub late : (a b : R)
      → standby_after (append a ∷ append b ∷ offer 0 ∷ offer 1 ∷ deliver 0 ∷ deliver 1 ∷ deliver 0
      ∷ []) ≡ a ∷ b ∷ []
  pub twice : (a : R) → standby_after (append a ∷ offer 0 ∷ deliver 0 ∷ deliver 0 ∷ []) ≡ a ∷ []
