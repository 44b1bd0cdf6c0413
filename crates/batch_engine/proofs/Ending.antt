-- A batch from its opening to the disks that are back.
use Rattle.std.proofs.Common.{◌≡◌, ◌⊎◌, ℕ, Bool, false, true, List, [], ◌∷◌, ◌++◌, map, take, refl, sym, ap, subst, ◌∙◌}
use Rattle.std.specs.Prelude.{Option, All, ◌||◌}
use Rattle.std.specs.List.{AllByRecursion}
use Rattle.std.proofs.lemmas.List.Elements.{All-head, All-tail}
use Rattle.script_lines.specs.Scripts.{script_from}
use Rattle.outside.specs.declared.disk.Disk.{Ghosts as DiskGhosts}
use Rattle.cqe_base.specs.Schema.{Text, DatabaseSchema, is_valid_schema, has_duplicate}
use Rattle.cqe_base.specs.Facts.{FactSet}
use Rattle.cqe_base.specs.History.{UserProfile, History, profile_of}
use Rattle.cqe_base.specs.Limits.{KeepsLimits}
use Rattle.cqe_base.specs.Censor.{EmptyHistoryIsLegal}
use Rattle.cqe_base.specs.Headline.{RunsStayLegal, ScriptsHide}
use Rattle.cqe_base.specs.Transcript.{NamedUser, script_opening, TranscriptIsPrivate}
use Rattle.cqe_base.specs.declared.user.User.{User}
use Rattle.user_desk.specs.Causes.{Opens}
use Rattle.batch_engine.specs.BatchLines.{BatchItem, with_line, batch_of}
use Rattle.user_desk.specs.declared.standing.DeskError.{DeskError}
use Rattle.desk_crew.specs.Openings.{OpensNone, OpensWith}
use Rattle.batch_engine.specs.Batch.{AppendsAll, AppendsSome, AppendsTo, unopened}
use Rattle.desk_crew.specs.Crew.{named_user}
use Rattle.desk_crew.specs.Shelved.{Journals, journals_by, AreBack, AreSeatsOf}
use Rattle.batch_engine.specs.Steps.{Runs, nothing, more, RunsAll, RunsSome, RunsTo}
use Rattle.desk_crew.specs.Seats.{DeskSeat}
use Rattle.batch_engine.proofs.Courses.{IsExclusive}
use Rattle.batch_engine.proofs.Seating.{names, AreSeated, AreBegun, begin_all, Chosen, choose}
use Rattle.batch_engine.proofs.Telling.{SoFar, so_far_first, so_far_more, adds_all}
use Rattle.batch_engine.proofs.Closing.{clock_of, bytes_of, count_of, images_of, names_unopened, limits_named, answered_all, answered_some}

-- what is read from a batch without items is the batch of the bytes
pub batch_begins : (start : List BatchItem) (bytes : List ℕ) → start ≡ [] → script_from with_line start bytes ≡ batch_of bytes
unfolding batch_of
batch_begins start bytes is = ap (λ s. script_from with_line s bytes) is

-- The same runs where no output is told: over an output of its own.
module _ (schema : DatabaseSchema) (world : FactSet) (header : List ℕ) {D : Type 0} {g h : _} (Disk : DiskGhosts D)
    (wrote : Type 0) (items : List BatchItem) (old new : List (DeskSeat D g h)) (before after : List ℕ) where
  all_alone : (is_broken : Bool) (all : RunsAll schema world header Disk wrote items old new is_broken before after)
      → RunsAll schema world header Disk (Unit {0}) items old new is_broken [] all.output
  all_alone is_broken all = record { output = all.output; appended = λ w. refl; runs = all.runs }

  pub some_alone : (some : RunsSome schema world header Disk wrote items old new before after)
      → RunsSome schema world header Disk (Unit {0}) items old new [] (some.output ++ take 0 some.lines)
  some_alone some =
      record {
        earlier = some.earlier;
        stretch = some.stretch;
        back = some.back;
        split = some.split;
        one = some.one;
        between = some.between;
        mid = some.mid;
        output = some.output;
        lines = some.lines;
        was_broken = some.was_broken;
        says_broken = some.says_broken;
        first = some.first;
        last = some.last;
        appended = λ w. (0, refl);
      }

  pub to_alone : (to : RunsTo schema world header Disk wrote items old new before after)
      → RunsTo schema world header Disk (Unit {0}) items old new [] (to.0.output ++ take 0 to.0.lines)
  unfolding some_alone
  to_alone to = (some_alone to.0, λ w. refl)

-- what answers items over an output of its own answers them where this was appended
pub told_all : (schema : DatabaseSchema) (world : FactSet) (header : List ℕ) (journals : Journals) (policy : List NamedUser) (items : List BatchItem)
    (output old new : List ℕ)
    (refusals : List (Option DeskError)) (is_broken : Bool) → AppendsAll schema world header journals policy items [] output refusals is_broken
    → new ≡ old ++ output
    → AppendsAll schema world header journals policy items old new refusals is_broken
told_all schema world header journals policy items output old new refusals is_broken all is =
    record { written = all.written; appended = is ∙ ap (λ w. old ++ w) all.appended; answers = all.answers; refused = all.refused; broken = all.broken }

-- a fact of each user
pub all_of : {X : Type 0} (P : X → Type 0) (xs : List X) → All P xs → AllByRecursion P xs
all_of P [] all = tt
all_of P (x ∷ xs) all = (All-head P x xs all, all_of P xs (All-tail P x xs all))

-- What the runs of items from these seats make of the journals once the disks are back: for an output of their own, where all were carried out, and else
-- for the output that they tell of.
pub record Finishes (schema : DatabaseSchema) (world : FactSet) (header : List ℕ) {D : Type 0} {g h : _} (S : Type 0) (Disk : DiskGhosts D)
    (journals : Journals) (policy : List NamedUser) (seats : List (DeskSeat D g h)) (disk' : Text → Option D) (count' : Text → ℕ) : Type 1 where
  pub all : (wrote : Type 0) (items : List BatchItem) (new : List (DeskSeat D g h)) (is_broken : Bool) (before after : List ℕ)
      (refusals : List (Option DeskError))
      (ran : RunsAll schema world header Disk wrote items seats new is_broken before after) → AreBack S Disk disk' count' new
      → refusals ≡ map (λ (x : DeskSeat D g h). x.refusal) new
      → AppendsAll schema world header journals policy items [] ran.output refusals is_broken
  pub some : (wrote : Type 0) → wrote → (items : List BatchItem) (new : List (DeskSeat D g h)) (before after : List ℕ)
      → RunsSome schema world header Disk wrote items seats new before after → AreBack S Disk disk' count' new
      → AppendsSome schema world header journals policy items before after
  pub to : (wrote : Type 0) → wrote → (items : List BatchItem) (new : List (DeskSeat D g h)) (before after : List ℕ)
      → RunsTo schema world header Disk wrote items seats new before after → AreBack S Disk disk' count' new
      → AppendsTo schema world header journals policy items before after

module _ (schema : DatabaseSchema) (world : FactSet) (header directory : List ℕ) {D : Type 0} {g h : _} (S : Type 0) (s : S) (Disk : DiskGhosts D)
    (t : Disk.tells) (read_is_image : (d : D) → Disk.tells → Disk.image d (Disk.reads d))
    (only_now : (d : D) (c : List ℕ) → Disk.image_since d (Disk.moment d) c → Disk.image d c)
    (disk disk' : Text → Option D) (count count' : Text → ℕ)
    (exclusive : (user : UserProfile) → IsExclusive schema world user header)
    (decided : (user : UserProfile) (c : List ℕ) → ((entries : History) × Opens schema world user header entries c) ⊎ OpensNone schema world user header c)
    (empty : EmptyHistoryIsLegal) (runs_legal : RunsStayLegal) (hide : ScriptsHide) (alone : TranscriptIsPrivate) (valid : is_valid_schema schema ≡ true)
    (users : List User) (limits : All (λ u. KeepsLimits schema (profile_of u)) users) (distinct : has_duplicate (map (λ user. user.name) (map named_user users))
    ≡ false)
    (seats : List (DeskSeat D g h)) (seats_are : AreSeatsOf S Disk schema world header directory disk count users seats) where
  -- the users with their opening histories, at their desks behind the opening of all journals
  record Start : Type 0 where
    named : List NamedUser
    of_policy : map unopened named ≡ map named_user users
    openings : AllByRecursion (λ (u : NamedUser). OpensWith schema world u.profile header (bytes_of Disk.reads directory disk u.name) u.opened) named
    differ : has_duplicate (names named) ≡ false
    found : Text → Bool
    opened : Text → Bool
    seated : AreSeated schema world header directory Disk t read_is_image
        (clock_of Disk only_now directory disk) (bytes_of Disk.reads directory disk) (count_of directory count)
        (images_of Disk.image directory disk) (script_opening found opened ∷ []) named seats

  start : Start
  start =
      let begun : AreBegun schema world header directory Disk t read_is_image
      (clock_of Disk only_now directory disk) (bytes_of Disk.reads directory disk) (count_of directory count)
      (images_of Disk.image directory disk) exclusive S s disk count (λ n. refl) (λ n. refl) (λ n c at. at) (λ n. refl) decided users seats =
      begin_all schema world header directory Disk t read_is_image
      (clock_of Disk only_now directory disk) (bytes_of Disk.reads directory disk) (count_of directory count)
      (images_of Disk.image directory disk) exclusive S s disk count (λ n. refl) (λ n. refl) (λ n c at. at) (λ n. refl) decided users seats seats_are in
      let differ : has_duplicate (names begun.begun) ≡ false = ap has_duplicate (sym (names_unopened begun.begun) ∙ ap names begun.of_policy) ∙ distinct in
      let chosen : Chosen schema world header directory Disk t read_is_image
      (clock_of Disk only_now directory disk) (bytes_of Disk.reads directory disk) (count_of directory count)
      (images_of Disk.image directory disk) script_opening (λ name f o. refl) [] begun.begun seats =
      choose schema world header directory Disk t read_is_image
      (clock_of Disk only_now directory disk) (bytes_of Disk.reads directory disk) (count_of directory count)
      (images_of Disk.image directory disk) script_opening (λ name f o. refl) [] begun.begun seats differ begun.choices in
      record {
        named = begun.begun;
        of_policy = begun.of_policy;
        openings = begun.openings;
        differ = differ;
        found = chosen.found;
        opened = chosen.opens;
        seated = chosen.seated;
      }

  so_far_run : (st : Start) (items : List BatchItem) (new : List (DeskSeat D g h)) (output : List ℕ) (is_broken : Bool)
      → Runs schema world header Disk items seats output new is_broken
      → SoFar schema world st.named header directory Disk t read_is_image
      (clock_of Disk only_now directory disk) (bytes_of Disk.reads directory disk) (count_of directory count)
      (images_of Disk.image directory disk) st.found st.opened items output new is_broken
  so_far_run st items new output is_broken (nothing same) =
      so_far_first schema world st.named header directory Disk t read_is_image
      (clock_of Disk only_now directory disk) (bytes_of Disk.reads directory disk) (count_of directory count)
      (images_of Disk.image directory disk) st.found st.opened seats st.seated
  so_far_run st items new output is_broken (more first old mid last before line was says item runs carried) =
      so_far_more schema world st.named header directory Disk t read_is_image
      (clock_of Disk only_now directory disk) (bytes_of Disk.reads directory disk) (count_of directory count)
      (images_of Disk.image directory disk) st.found st.opened exclusive st.differ first before mid last was says item line
      (so_far_run st first mid before was runs) carried

  -- all items were answered
  finish_all : (wrote : Type 0) → wrote → (items : List BatchItem) (new : List (DeskSeat D g h)) (is_broken : Bool) (before after : List ℕ)
      → RunsAll schema world header Disk wrote items seats new is_broken before after
      → AreBack S Disk disk' count' new
      → AppendsAll schema world header (journals_by Disk.reads Disk.image Disk.moment Disk.image_since Disk.tellable directory disk disk' count count')
      (map named_user users)
      items before after
      (map (λ (x : DeskSeat D g h). x.refusal) new) is_broken
  finish_all wrote w items new is_broken before after all back =
      let st = start in
      answered_all schema world st.named header directory S s Disk t read_is_image only_now disk disk' count count' empty runs_legal
      hide alone valid
      (map named_user users) st.of_policy st.differ
      (limits_named schema users st.named st.of_policy limits) st.openings st.found st.opened items before after new is_broken (
        all.output,
        all.appended w,
        so_far_run st items new all.output is_broken all.runs,
      ) back

  -- some first stretches were, of the last one maybe only a part written
  finish_part : (wrote : Type 0) (w : wrote) (items : List BatchItem) (new : List (DeskSeat D g h)) (before after : List ℕ)
      (some : RunsSome schema world header Disk wrote items seats new before after)
      → AreBack S Disk disk' count' new
      → (appends : AppendsSome schema world header
      (journals_by Disk.reads Disk.image Disk.moment Disk.image_since Disk.tellable directory disk disk' count count')
      (map named_user users) items before after) × (appends.part ≡ (some.appended w).0)
  finish_part wrote w items new before after some back =
      let st = start in
      let part = some.appended w in
      let so_far = so_far_run st some.earlier some.mid some.output some.was_broken some.first in
      answered_some schema world st.named header directory S s Disk t read_is_image only_now disk disk' count count' empty runs_legal
      hide alone valid
      (map named_user users) st.of_policy st.differ
      (limits_named schema users st.named st.of_policy limits) st.openings st.found st.opened some.earlier some.stretch some.back items part.0 before
      some.output some.lines after some.mid new some.was_broken (some.was_broken || some.says_broken) so_far
      (adds_all schema world st.named header directory Disk t read_is_image
      (clock_of Disk only_now directory disk) (bytes_of Disk.reads directory disk) (count_of directory count)
      (images_of Disk.image directory disk) st.found st.opened exclusive st.differ some.earlier some.stretch some.output some.lines some.mid new
      some.was_broken some.says_broken so_far some.last) back part.1 some.split some.one some.between

  finish_some : (wrote : Type 0) → wrote → (items : List BatchItem) (new : List (DeskSeat D g h)) (before after : List ℕ)
      → RunsSome schema world header Disk wrote items seats new before after
      → AreBack S Disk disk' count' new
      → AppendsSome schema world header (journals_by Disk.reads Disk.image Disk.moment Disk.image_since Disk.tellable directory disk disk' count count')
      (map named_user users) items before after
  finish_some wrote w items new before after some back = (finish_part wrote w items new before after some back).0

  -- of the last one nothing was written
  finish_to : (wrote : Type 0) → wrote → (items : List BatchItem) (new : List (DeskSeat D g h)) (before after : List ℕ)
      → RunsTo schema world header Disk wrote items seats new before after
      → AreBack S Disk disk' count' new
      → AppendsTo schema world header (journals_by Disk.reads Disk.image Disk.moment Disk.image_since Disk.tellable directory disk disk' count count')
      (map named_user users)
      items before after
  finish_to wrote w items new before after to back =
      let both = finish_part wrote w items new before after to.0 back in
      (both.0, both.1 ∙ to.1 w)

  pub finishes : Finishes schema world header S Disk
      (journals_by Disk.reads Disk.image Disk.moment Disk.image_since Disk.tellable directory disk disk' count count') (map named_user users) seats disk' count'
  finishes = record {
    all = λ wrote items new is_broken before after refusals all back are.
        subst (λ l. AppendsAll schema world header
        (journals_by Disk.reads Disk.image Disk.moment Disk.image_since Disk.tellable directory disk disk' count count')
        (map named_user users) items [] all.output
        l
        is_broken) (sym are)
        (finish_all (Unit {0}) tt items new is_broken [] all.output
        (all_alone schema world header Disk wrote items seats new before after is_broken all) back);
    some = finish_some;
    to = finish_to;
  }
