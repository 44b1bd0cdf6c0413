-- What an item does to the seats, and its line.
use Rattle.std.specs.Prelude.{◌≡◌, ℕ, Bool, false, ◌||◌, List, [], ◌∷◌, ◌++◌, take, Option, map}
use Rattle.outside.specs.declared.disk.Disk.{Ghosts as DiskGhosts}
use Rattle.cqe_base.specs.Schema.{DatabaseSchema}
use Rattle.cqe_base.specs.Facts.{FactSet}
use Rattle.cqe_base.specs.Run.{Reply}
use Rattle.batch_engine.specs.Answers.{is_broken_reply}
use Rattle.cqe_base.specs.Transcript.{purpose_of, reply_line, restart_line, line_text}
use Rattle.batch_engine.specs.BatchLines.{BatchItem, asked, restarted}
use Rattle.desk_crew.specs.Crew.{Tells, AreReopened}
use Rattle.desk_crew.specs.Seats.{DeskSeat}
use Rattle.batch_engine.specs.Batch.{IsStretch, StandsBetween}
use Rattle.batch_engine.specs.declared.closed.Stopped.{Stopped}
use Rattle.batch_engine.specs.declared.closed.Stopped.TheVariants.{Write, Memory}
use Rattle.user_desk.specs.declared.standing.DeskError.{DeskError}

-- the bytes of a restart's line
abbrev pub restart_bytes : List ℕ
restart_bytes = line_text restart_line ++ 10 ∷ []

module _ (schema : DatabaseSchema) (world : FactSet) (header : List ℕ) {D : Type 0}
    (Disk : DiskGhosts D) where
  -- what an item does: a call is replied to for the user of its name, and a restart closes and
  -- opens every desk; its line, and whether that says that an append failed
  abbrev pub Carries : {g h : _} → BatchItem → List (DeskSeat D g h) → List (DeskSeat D g h)
      → List ℕ → Bool → Type 0
  Carries (asked ask) old new line is_broken =
      (reply : Option Reply)
      × Tells schema world ask.name (purpose_of ask.caller) ask.text old new reply
      × (line ≡ line_text (reply_line ask.name ask.caller reply) ++ 10 ∷ [])
      × (is_broken ≡ is_broken_reply reply)
  Carries restarted old new line is_broken =
      AreReopened schema world header Disk old new
      × (line ≡ restart_bytes) × (is_broken ≡ false)

  -- these items were carried out with these lines, one after the other
  pub data Runs {g h : _} : List BatchItem → List (DeskSeat D g h) → List ℕ → List (DeskSeat D g h)
      → Bool → Type 0 where
    nothing : (seats : List (DeskSeat D g h)) → Runs [] seats [] seats false
    more : (items : List BatchItem) (old mid new : List (DeskSeat D g h)) (output line : List ℕ)
        (is_broken says_broken : Bool) (item : BatchItem)
        → Runs items old output mid is_broken → Carries item mid new line says_broken
        → Runs (items ++ item ∷ []) old (output ++ line) new (is_broken || says_broken)

  -- all items were carried out and their lines appended, where clauses are told of the output
  pub record RunsAll {g h : _} (wrote : Type 0) (items : List BatchItem)
      (old new : List (DeskSeat D g h)) (is_broken : Bool) (before after : List ℕ) : Type 0 where
    pub output : List ℕ
    pub appended : wrote → after ≡ before ++ output
    pub runs : Runs items old output new is_broken

  -- some first stretches were carried out: the lines of all of them but the last were appended, and
  -- of those of the last maybe only a part
  pub record RunsSome {g h : _} (wrote : Type 0) (items : List BatchItem)
      (old new : List (DeskSeat D g h)) (before after : List ℕ) : Type 0 where
    pub earlier : List BatchItem
    pub stretch : List BatchItem
    pub back : List BatchItem
    pub split : items ≡ (earlier ++ stretch) ++ back
    pub one : IsStretch stretch
    pub between : StandsBetween earlier stretch back
    pub mid : List (DeskSeat D g h)
    pub output : List ℕ
    pub lines : List ℕ
    pub was_broken : Bool
    pub says_broken : Bool
    pub first : Runs earlier old output mid was_broken
    pub last : Runs stretch mid lines new says_broken
    pub appended : wrote → (n : ℕ) × (after ≡ (before ++ output) ++ take n lines)

  -- some first stretches were carried out, and the lines of all of them but the last were appended;
  -- of the last one none was
  abbrev pub RunsTo : {g h : _} → Type 0 → List BatchItem → List (DeskSeat D g h)
      → List (DeskSeat D g h) → List ℕ → List ℕ → Type 0
  RunsTo wrote items old new before after =
      (some : RunsSome wrote items old new before after)
      × ((w : wrote) → (some.appended w).0 ≡ 0)

  -- items stopped at a write, or for want of memory
  abbrev pub RunsUntil : {g h : _} → Stopped → Type 0 → List BatchItem → List (DeskSeat D g h)
      → List (DeskSeat D g h) → List ℕ → List ℕ → Type 0
  RunsUntil Write wrote items old new before after = RunsSome wrote items old new before after
  RunsUntil Memory wrote items old new before after = RunsTo wrote items old new before after

  -- they stopped so, and the disks are back as the seats left them
  abbrev pub IsStopped : {g h : _} → Type 0 → (List (DeskSeat D g h) → Type 0) → List BatchItem
      → List (DeskSeat D g h) → List ℕ → List ℕ → Stopped → Type 0
  IsStopped {g} {h} wrote are_back items old before after why =
      (new : List (DeskSeat D g h)) × RunsUntil why wrote items old new before after × are_back new

  -- all were answered, and the disks are back; with the first refusal of each seat, and whether
  -- some line says that an append failed
  abbrev pub IsAnswered : {g h : _} → Type 0 → (List (DeskSeat D g h) → Type 0) → List BatchItem
      → List (DeskSeat D g h) → List ℕ → List ℕ → List (Option DeskError) → Bool → Type 0
  IsAnswered {g} {h} wrote are_back items old before after refusals is_broken =
      (new : List (DeskSeat D g h)) × RunsAll wrote items old new is_broken before after
      × are_back new × (refusals ≡ map (λ seat. seat.refusal) new)
