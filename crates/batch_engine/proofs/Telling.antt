-- The items of a batch, one after the other: what was written, and where its users sit.
use Rattle.std.proofs.Common.{◌≡◌, ℕ, ◌+◌, Bool, false, List, [], ◌∷◌, ◌++◌, length, refl, sym, ap, subst, ◌∙◌, append_assoc, append-nil, length-append}
use Rattle.std.specs.Prelude.{Option, Some, None, ◌||◌}
use Rattle.std.specs.List.{list_any}
use Rattle.outside.specs.declared.disk.Disk.{Ghosts as DiskGhosts}
use Rattle.cqe_base.specs.Schema.{Text, DatabaseSchema, has_duplicate}
use Rattle.cqe_base.specs.Facts.{FactSet}
use Rattle.cqe_base.specs.History.{UserProfile}
use Rattle.cqe_base.specs.Run
use Rattle.cqe_base.specs.Run.{Reply}
use Rattle.cqe_base.specs.Transcript.{NamedUser, ScriptEvent, Caller, script_call, script_restart, Line, reply_line, restart_line, written_after}
use Rattle.cqe_base.specs.Transcript.{lines_after}
use Rattle.cqe_base.specs.Transcript.{transcript, line_text}
use Rattle.batch_engine.specs.BatchLines.{BatchItem, asked, restarted}
use Rattle.batch_engine.specs.Batch.{IsEventOf, AreEventsOf, line_bytes, is_broken_line, with_opening}
use Rattle.std.proofs.Math.Bool.{or-false}
use Rattle.cqe_base.proofs.Lists.{or_assoc}
use Rattle.batch_engine.specs.Answers.{is_broken_reply}
use Rattle.batch_engine.specs.Steps.{Carries, Runs, nothing, more}
use Rattle.desk_crew.specs.Seats.{DeskSeat}
use Rattle.batch_engine.proofs.Events.{any-push}
use Rattle.batch_engine.proofs.Courses.{IsExclusive}
use Rattle.batch_engine.proofs.Along.{Clock}
use Rattle.batch_engine.proofs.Seating.{flat_map-append, names, AreSeated, Next, told_next, Choices, restart_all, Chosen, choose}

events-push : (items : List BatchItem) (events : List ScriptEvent) (item : BatchItem) (event : ScriptEvent) → AreEventsOf items events → IsEventOf item event
    → AreEventsOf (items ++ item ∷ []) (events ++ event ∷ [])
events-push [] [] item event are is = (is, tt)
events-push [] (e ∷ events) item event are is = absurd are
events-push (i ∷ items) [] item event are is = absurd are
events-push (i ∷ items) (e ∷ events) item event are is = (are.0, events-push items events item event are.1 is)

-- a line that says that an append failed
pub broken_told : (name : Text) (caller : Caller) (told : Option Reply) → is_broken_line (reply_line name caller told) ≡ is_broken_reply told
broken_told name caller None = refl
broken_told name caller (Some (Run.marked mark)) = refl
broken_told name caller (Some (Run.no_sentence kind place)) = refl
broken_told name caller (Some Run.history_full) = refl
broken_told name caller (Some Run.too_large) = refl
broken_told name caller (Some Run.user_closed) = refl
broken_told name caller (Some Run.desk_sealed) = refl
broken_told name caller (Some Run.desk_broken) = refl
broken_told name caller (Some Run.no_memory) = refl
broken_told name caller (Some Run.secrets_full) = refl
broken_told name caller (Some Run.unsafe_secret) = refl

module _ (schema : DatabaseSchema) (world : FactSet) (users : List NamedUser) where
  lines-push : (events earlier : List ScriptEvent) (event : ScriptEvent)
      → lines_after schema world users earlier (events ++ event ∷ [])
      ≡ lines_after schema world users earlier events ++ written_after schema world users (earlier ++ events) event
  lines-push [] earlier event =
      append-nil (written_after schema world users earlier event) ∙ ap (λ es. written_after schema world users es event) (sym (append-nil earlier))
  lines-push (e ∷ events) earlier event =
      ap (λ ls. written_after schema world users earlier e ++ ls) (lines-push events (earlier ++ e ∷ []) event)
      ∙ sym (append_assoc (written_after schema world users earlier e) (lines_after schema world users (earlier ++ e ∷ []) events)
      (written_after schema world users ((earlier ++ e ∷ []) ++ events) event))
      ∙ ap (λ es. (written_after schema world users earlier e ++ lines_after schema world users (earlier ++ e ∷ []) events)
      ++ written_after schema world users es event) (append_assoc earlier (e ∷ []) events)

  transcript-push : (events : List ScriptEvent) (event : ScriptEvent)
      → transcript schema world users (events ++ event ∷ []) ≡ transcript schema world users events ++ written_after schema world users events event
  unfolding transcript
  transcript-push events event = lines-push events [] event

  -- the output behind an event that writes this line
  written-push : (events : List ScriptEvent) (event : ScriptEvent) (line : Line) (output : List ℕ) → written_after schema world users events event ≡ line ∷ []
      → output ≡ line_bytes (transcript schema world users events)
      → output ++ (line_text line ++ 10 ∷ []) ≡ line_bytes (transcript schema world users (events ++ event ∷ []))
  written-push events event line output one is =
      ap (λ o. o ++ (line_text line ++ 10 ∷ [])) is
      ∙ ap (λ l. line_bytes (transcript schema world users events) ++ l) (sym (append-nil (line_text line ++ 10 ∷ [])))
      ∙ sym (flat_map-append (λ l. line_text l ++ 10 ∷ []) (transcript schema world users events) (line ∷ []))
      ∙ ap (λ ls. line_bytes (transcript schema world users events ++ ls)) (sym one)
      ∙ ap line_bytes (sym (transcript-push events event))

  broken-push : (events : List ScriptEvent) (event : ScriptEvent) (line : Line) (is_broken : Bool) → written_after schema world users events event ≡ line ∷ []
      → is_broken ≡ list_any is_broken_line (transcript schema world users events)
      → (is_broken || is_broken_line line) ≡ list_any is_broken_line (transcript schema world users (events ++ event ∷ []))
  broken-push events event line is_broken one is =
      ap (λ b. b || is_broken_line line) is ∙ sym (any-push is_broken_line (transcript schema world users events) line)
      ∙ ap (λ ls. list_any is_broken_line (transcript schema world users events ++ ls)) (sym one)
      ∙ ap (λ ls. list_any is_broken_line ls) (sym (transcript-push events event))

  module _ (header directory : List ℕ) {D : Type 0} {g h : _} (Disk : DiskGhosts D) (t : Disk.tells)
      (read_is_image : (d : D) → Disk.tells → Disk.image d (Disk.reads d)) (clock : Clock Disk)
      (bytes : Text → List ℕ) (before : Text → ℕ) (images : Text → List ℕ → Type 0) (found opened : Text → Bool) where
    -- these items were answered with these lines, the users then sit at these desks, and it is known whether some line says that an append failed
    pub record SoFar (items : List BatchItem) (output : List ℕ) (seats : List (DeskSeat D g h)) (is_broken : Bool) : Type 0 where
      pub events : List ScriptEvent
      pub of_items : AreEventsOf items events
      pub lines : output ≡ line_bytes (transcript schema world users (with_opening found opened events))
      pub seated : AreSeated schema world header directory Disk t read_is_image clock bytes before images
          (with_opening found opened events) users seats
      pub broken : is_broken ≡ list_any is_broken_line (transcript schema world users (with_opening found opened events))

    -- what items behind others add: their events, and a line for each of them
    pub record Adds (earlier : List ScriptEvent) (items : List BatchItem) (count : ℕ) (lines : List ℕ) (seats : List (DeskSeat D g h)) (is_broken : Bool) :
        Type 0 where
      pub added : List ScriptEvent
      pub of_items : AreEventsOf items (earlier ++ added)
      pub said : List Line
      pub each : length said ≡ count
      pub lines_are : lines ≡ line_bytes said
      pub transcript_is : transcript schema world users (with_opening found opened (earlier ++ added))
          ≡ transcript schema world users (with_opening found opened earlier) ++ said
      pub seated : AreSeated schema world header directory Disk t read_is_image clock bytes before images
          (with_opening found opened (earlier ++ added)) users seats
      pub broken : is_broken ≡ list_any is_broken_line (transcript schema world users (with_opening found opened (earlier ++ added)))

    -- no item
    pub adds_none : (items : List BatchItem) (output : List ℕ) (seats : List (DeskSeat D g h)) (is_broken : Bool)
        (so_far : SoFar items output seats is_broken) → Adds so_far.events items 0 [] seats is_broken
    adds_none items output seats is_broken so_far =
        let same : so_far.events ++ [] ≡ so_far.events = append-nil so_far.events in
        record {
          added = [];
          of_items = subst (AreEventsOf items) (sym same) so_far.of_items;
          said = [];
          each = refl;
          lines_are = refl;
          transcript_is = ap (λ es. transcript schema world users (with_opening found opened es)) same
              ∙ sym (append-nil (transcript schema world users (with_opening found opened so_far.events)));
          seated = subst (λ es. AreSeated schema world header directory Disk t read_is_image clock bytes before images (with_opening found opened es) users
              seats) (sym same) so_far.seated;
          broken = so_far.broken ∙ ap (λ es. list_any is_broken_line (transcript schema world users (with_opening found opened es))) (sym same);
        }

    -- all of them, with the lines of those before and their own
    pub record Joined (items : List BatchItem) (whole said : List Line) (seats : List (DeskSeat D g h)) (is_broken : Bool) : Type 0 where
      pub so_far : SoFar items (line_bytes (whole ++ said)) seats is_broken
      pub lines : transcript schema world users (with_opening found opened so_far.events) ≡ whole ++ said

    pub joined : (first items : List BatchItem) (output lines : List ℕ) (old new : List (DeskSeat D g h)) (was is_broken : Bool) (count : ℕ)
        (so_far : SoFar first output old was) (adds : Adds so_far.events items count lines new is_broken)
        → Joined items (transcript schema world users (with_opening found opened so_far.events)) adds.said new is_broken
    joined first items output lines old new was is_broken count so_far adds = record {
      so_far = record {
        events = so_far.events ++ adds.added;
        of_items = adds.of_items;
        lines = ap line_bytes (sym adds.transcript_is);
        seated = adds.seated;
        broken = adds.broken;
      };
      lines = adds.transcript_is;
    }

    pub so_far_first : (seats : List (DeskSeat D g h))
        → AreSeated schema world header directory Disk t read_is_image clock bytes before images (with_opening found opened []) users seats
        → SoFar [] [] seats false
    unfolding transcript
    so_far_first seats seated = record { events = []; of_items = tt; lines = refl; seated = seated; broken = refl }

    -- what one more item is in the transcript: its event and its line
    record OneMore (earlier : List ScriptEvent) (item : BatchItem) (line : List ℕ) (seats : List (DeskSeat D g h)) (says_broken : Bool) : Type 0 where
      event : ScriptEvent
      is_event : IsEventOf item event
      said : Line
      one : written_after schema world users (with_opening found opened earlier) event ≡ said ∷ []
      line_is : line ≡ line_text said ++ 10 ∷ []
      says_is : says_broken ≡ is_broken_line said
      seated : AreSeated schema world header directory Disk t read_is_image clock bytes before images
          (with_opening found opened (earlier ++ event ∷ [])) users seats

    module _ (exclusive : (user : UserProfile) → IsExclusive schema world user header) (distinct : has_duplicate (names users) ≡ false) where
      one_more : (events : List ScriptEvent) (old new : List (DeskSeat D g h)) (says_broken : Bool) (item : BatchItem) (line : List ℕ)
          → AreSeated schema world header directory Disk t read_is_image clock bytes before images (with_opening found opened events) users old
          → Carries schema world header Disk item old new line says_broken
          → OneMore events item line new says_broken
      one_more events old new says_broken (asked ask) line seated (told, tells, is, says) =
          let script = with_opening found opened events in
          let next : Next schema world header directory Disk t read_is_image clock bytes before images script ask.name ask.caller ask.text
          users new
          told =
          told_next schema world header directory Disk t read_is_image clock bytes before images script ask.name ask.caller ask.text
          users old new
          told distinct seated tells in
          record {
            event = script_call ask.name ask.caller ask.text next.ending;
            is_event = (refl, refl, refl);
            said = reply_line ask.name ask.caller told;
            one = ap (λ r. reply_line ask.name ask.caller r ∷ []) next.replied;
            line_is = is;
            says_is = says ∙ sym (broken_told ask.name ask.caller told);
            seated = next.seated;
          }
      one_more events old new says_broken restarted line seated (again, is, says) =
          let script = with_opening found opened events in
          let choices : Choices schema world header directory Disk t read_is_image clock bytes before images script users new =
          restart_all schema world header directory Disk t read_is_image clock bytes before images exclusive script users old new seated
          again in
          let chosen : Chosen schema world header directory Disk t read_is_image clock bytes before images script_restart
          (λ name f o. refl) script users new =
          choose schema world header directory Disk t read_is_image clock bytes before images script_restart
          (λ name f o. refl) script users new distinct choices in
          record {
            event = script_restart chosen.found chosen.opens;
            is_event = tt;
            said = restart_line;
            one = refl;
            line_is = is;
            says_is = says;
            seated = chosen.seated;
          }

      module _ (items : List BatchItem) (output : List ℕ) (old new : List (DeskSeat D g h)) (is_broken says_broken : Bool) (item : BatchItem) (line : List ℕ)
          (so_far : SoFar items output old is_broken) (carried : Carries schema world header Disk item old new line says_broken) where
        step : OneMore so_far.events item line new says_broken
        step = one_more so_far.events old new says_broken item line so_far.seated carried

        pub so_far_more : SoFar (items ++ item ∷ []) (output ++ line) new (is_broken || says_broken)
        so_far_more = record {
          events = so_far.events ++ step.event ∷ [];
          of_items = events-push items so_far.events item step.event so_far.of_items step.is_event;
          lines = ap (λ l. output ++ l) step.line_is ∙ written-push (with_opening found opened so_far.events) step.event step.said output step.one so_far.lines;
          seated = step.seated;
          broken = ap (λ b. is_broken || b) step.says_is
              ∙ broken-push (with_opening found opened so_far.events) step.event step.said is_broken step.one so_far.broken;
        }

      -- one more item behind others
      adds_more : (earlier : List ScriptEvent) (items : List BatchItem) (count : ℕ) (lines line : List ℕ) (old new : List (DeskSeat D g h))
          (is_broken says_broken : Bool) (item : BatchItem)
          → Adds earlier items count lines old is_broken → Carries schema world header Disk item old new line says_broken
          → Adds earlier (items ++ item ∷ []) (count + 1) (lines ++ line) new (is_broken || says_broken)
      adds_more earlier items count lines line old new is_broken says_broken item adds carried =
          let events = earlier ++ adds.added in
          let next : OneMore events item line new says_broken = one_more events old new says_broken item line adds.seated carried in
          let same : events ++ next.event ∷ [] ≡ earlier ++ (adds.added ++ next.event ∷ []) = append_assoc earlier adds.added (next.event ∷ []) in
          let script = with_opening found opened events in
          record {
            added = adds.added ++ next.event ∷ [];
            of_items = subst (AreEventsOf (items ++ item ∷ [])) same (events-push items events item next.event adds.of_items next.is_event);
            said = adds.said ++ next.said ∷ [];
            each = length-append adds.said (next.said ∷ []) ∙ ap (λ n. n + 1) adds.each;
            lines_are = ap (λ l. l ++ line) adds.lines_are
                ∙ ap (λ l. line_bytes adds.said ++ l) (next.line_is ∙ sym (append-nil (line_text next.said ++ 10 ∷ [])))
                ∙ sym (flat_map-append (λ l. line_text l ++ 10 ∷ []) adds.said (next.said ∷ []));
            transcript_is = ap (λ es. transcript schema world users (with_opening found opened es)) (sym same)
                ∙ transcript-push script next.event ∙ ap (λ l. transcript schema world users script ++ l) next.one
                ∙ ap (λ l. l ++ next.said ∷ []) adds.transcript_is
                ∙ append_assoc (transcript schema world users (with_opening found opened earlier)) adds.said (next.said ∷ []);
            seated = subst (λ es. AreSeated schema world header directory Disk t read_is_image clock bytes before images
                (with_opening found opened es) users new) same next.seated;
            broken = ap (λ b. is_broken || b) next.says_is ∙ broken-push script next.event next.said is_broken next.one adds.broken
                ∙ ap (λ es. list_any is_broken_line (transcript schema world users (with_opening found opened es))) same;
          }

      -- all of these
      pub adds_all : (first items : List BatchItem) (output lines : List ℕ) (old new : List (DeskSeat D g h)) (was says_broken : Bool)
          (so_far : SoFar first output old was) → Runs schema world header Disk items old lines new says_broken
          → Adds so_far.events (first ++ items) (length items) lines new (was || says_broken)
      adds_all first items output lines old new was says_broken so_far (nothing seats) =
          subst (λ l. Adds so_far.events l 0 [] old (was || false)) (sym (append-nil first))
          (subst (λ b. Adds so_far.events first 0 [] old b) (sym (or-false was)) (adds_none first output old was so_far))
      adds_all first items output lines old new was says_broken so_far (more earlier old' mid new' before_lines line broke says item runs carried) =
          let rest : Adds so_far.events (first ++ earlier) (length earlier) before_lines mid (was || broke) =
          adds_all first earlier output before_lines old mid was broke so_far runs in
          let step : Adds so_far.events ((first ++ earlier) ++ item ∷ []) (length earlier + 1) (before_lines ++ line) new ((was || broke) || says) =
          adds_more so_far.events (first ++ earlier) (length earlier) before_lines line mid new (was || broke) says item rest carried in
          subst (λ l. Adds so_far.events l (length (earlier ++ item ∷ [])) (before_lines ++ line) new (was || (broke || says)))
          (append_assoc first earlier (item ∷ []))
          (subst (λ n. Adds so_far.events ((first ++ earlier) ++ item ∷ []) n (before_lines ++ line) new (was || (broke || says)))
          (sym (length-append earlier (item ∷ [])))
          (subst (λ b. Adds so_far.events ((first ++ earlier) ++ item ∷ []) (length earlier + 1) (before_lines ++ line) new b) (or_assoc was broke says) step))
