-- Any number of calls that follow one another leave one history, and batches among them are one run.
use Rattle.std.proofs.Common.{◌≡◌, ◌⊎◌, inl, inr, ℕ, Bool, true, false, List, [], ◌∷◌, ◌++◌, refl, sym, ap, subst, ◌∙◌, append_assoc, append-nil}
use Rattle.std.specs.Prelude.{Option, Some, IfSome, option_to_list, bytes_eq}
use Rattle.std.specs.List.{list_any}
use Rattle.outside.specs.declared.disk.Disk.{Ghosts as DiskGhosts}
use Rattle.outside.specs.declared.links.Links.{Ghosts as LinksGhosts}
use Rattle.outside.specs.declared.shelf.Shelf.{Ghosts as ShelfGhosts}
use Rattle.outside.specs.declared.stream.Sink.{Ghosts as SinkGhosts}
use Rattle.outside.specs.declared.stream.Source.{Ghosts as SourceGhosts}
use Rattle.cqe_base.specs.Facts.{FactSet}
use Rattle.cqe_base.specs.History.{UserProfile, History}
use Rattle.cqe_base.specs.Run.{UserState, Event, standing_open, opening, after_events, entries_found, replies}
use Rattle.cqe_base.specs.Schema.{Text}
use Rattle.cqe_base.specs.Transcript.{NamedUser, own_events, state_after}
use Rattle.cqe_base.proofs.Limits.{sizes_are_of_schema}
use Rattle.cqe_base.proofs.Lists.{one_found}
use Rattle.user_desk.specs.Causes.{Opens}
use Rattle.user_desk.specs.Joining.{Call, bytes_behind, IsCallOver, AreCallsOver, Span, IsSpanOver}
use Rattle.user_desk.specs.Lives.{Holds, shown}
use Rattle.user_desk.proofs.Deciding.{opens_once}
use Rattle.user_desk.proofs.Joining.{hidden_by, calls_join, after_events-append}
use Rattle.desk_crew.specs.Shelved.{Journals}
use Rattle.batch_engine.specs.Joining.{cut_call_of}
use Rattle.batch_engine.specs.Lives.{is_opened}
use Rattle.batch_engine.proofs.Along.{goes_on}
use Rattle.batch_engine.proofs.Joining.{batches_are_calls, cut_batches_are_calls, later_cuts_are_calls}
use Rattle.command_words.specs.Readings.{FileNames, reading_of}
use Rattle.policy_files.specs.Policies.{PolicyUser, PolicyValue}
use Rattle.cqe_top.specs.Calls.{BeginsWith, EachFollows, GoesOn, OpensOn, HisBatch, HasCome, to_its_end, to_a_stretch, IsTold, by_batch, by_serving}
use Rattle.cqe_top.specs.Calls.{ComesTo, IsCallOf, with_events, unopened_yet, EachStands, LeaveOneHistory, AreCallsOf, AreRunOf}
use Rattle.cqe_top.specs.Calls.{Promised, scene_at, journals_at, AnyCallsJoin, AnsweredBatch, journals_in_batch, AnyBatchesJoin}
use Rattle.cqe_top.specs.Mirrored.{counted_by, has_standby}
use Rattle.cqe_top.specs.Files.{journals_of}
use Rattle.cqe_top.specs.Lives.{IsLeft, LeavesPart, LeavesParts}
use Rattle.cqe_top.specs.Scene.{Scene, input_of, output_of, links_of}
use Rattle.cqe_top.proofs.Lives.{calls_are_parts, IsLeftOpened, batch_left}
use Rattle.cqe_top.specs.Files.{user_named}

-- a history that goes on from one that goes on
pub goes_further : (first next last : History) → GoesOn first next → GoesOn next last → GoesOn first last
goes_further first next last (more, one) (further, two) = (more ++ further, two ∙ ap (λ h. h ++ further) one ∙ append_assoc first more further)

module _ (policy : PolicyValue) (world : FactSet) (header : List ℕ) (user : PolicyUser) where
  abbrev Opened : History → List ℕ → Type 0
  Opened first bytes = OpensOn policy world header user first bytes

  -- what is found of a state goes on from its entries
  found_on : (state : UserState) (found : Bool) → GoesOn state.entries (entries_found policy.schema world user.profile state found)
  found_on state true = (option_to_list state.pending, refl)
  found_on state false = ([], sym (append-nil state.entries))

  held_on : (state : UserState) (bytes : List ℕ) → Holds policy.schema world user.profile header state bytes → Opened state.entries bytes
  held_on state bytes holds = record {
    entries = entries_found policy.schema world user.profile state holds.found;
    goes_on = found_on state holds.found;
    opens = holds.opens;
  }

  -- what opens with entries that go on from others goes on from these
  opened_on : (first next : History) (bytes : List ℕ) → GoesOn first next → Opened next bytes → Opened first bytes
  opened_on first next bytes goes on = record { entries = on.entries; goes_on = goes_further first next on.entries goes on.goes_on; opens = on.opens }

  -- ---- what one call left

  -- of a part of his history
  part_on : (first : History) (bytes : List ℕ) (span : Span) → Opened first bytes → IsSpanOver policy.schema world user.profile header bytes span
      → Opened first span.left
  part_on first bytes span on is =
      let same : on.entries ≡ span.opened = opens_once policy.schema world user.profile header on.entries span.opened bytes on.opens is.opens in
      opened_on first span.entries span.left (goes_further first span.opened span.entries (subst (GoesOn first) same on.goes_on) is.goes_on)
      (held_on (shown span.entries standing_open span.pending) span.left is.holds)

  module _ (journals : Journals) where
    -- all that a call may begin with opens a desk with a history that goes on from these entries
    abbrev BeginsOn : History → Type 0
    BeginsOn first = (bytes : List ℕ) → BeginsWith journals user.name bytes → Opened first bytes

    left_on : (first : History) → BeginsOn first → (left : List ℕ) → LeavesPart journals policy world header user left → Opened first left
    left_on first begins left (inl old) = begins left (inr old)
    left_on first begins left (inr (span, is, over)) =
        subst (Opened first) is (part_on first (journals.bytes user.name) span (begins (journals.bytes user.name) (inl refl)) over)

    -- where all journals are kept, or each user's is left so, his is
    his_part : user_named user.name policy.users ≡ Some user → LeavesParts journals policy world header → (left : List ℕ) → IsLeft journals user.name left
        → LeavesPart journals policy world header user left
    his_part named (inl kept) left (inl at) = inl ((kept user.name).1 left at)
    his_part named (inl kept) left (inr (begun, began, since)) =
        let still : (c : List ℕ) → journals.since user.name begun c → journals.image_before user.name c =
        subst (λ (b : Option ℕ). IfSome b (λ t. (c : List ℕ) → journals.since user.name t c → journals.image_before user.name c)) began (kept user.name).2 in
        inl (still left since)
    his_part named (inr each) left is =
        let his = one_found (λ (u : PolicyUser). (c : List ℕ) → IsLeft journals u.name c → LeavesPart journals policy world header u c)
        (λ (u : PolicyUser). bytes_eq u.name user.name) policy.users user each named in
        his.0 left is

    -- ---- what he was told

    -- a state of one with his profile
    told_in : (profile : UserProfile) → profile ≡ user.profile → (state : UserState) (left : List ℕ) → Holds policy.schema world profile header state left
        → Opened state.entries left
    told_in profile same state left holds = held_on state left (subst (λ p. Holds policy.schema world p header state left) same holds)

    he_has : (batch : HisBatch policy world header user journals) → batch.him.profile ≡ user.profile
    he_has batch = ap (λ (u : NamedUser). u.profile) batch.is_he

    -- his entries behind the events through which a batch had come
    come_on : (left : List ℕ) (batch : HisBatch policy world header user journals) (least : List Event)
        → HasCome policy world header user journals batch least left
        → Opened (after_events policy.schema world batch.him.profile (opening policy.schema world batch.him.profile batch.him.opened) least).entries left
    come_on left batch least (to_its_end held at is) =
        let start = opening policy.schema world batch.him.profile batch.him.opened in
        subst (λ (es : List Event). Opened (after_events policy.schema world batch.him.profile start es).entries left) (sym is)
        (told_in batch.him.profile (he_has batch) (state_after policy.schema world batch.him batch.script) left (batch.serves.stands held left at))
    come_on left batch least (to_a_stretch rest split ends held at) =
        let behind = (batch.serves.closings least rest split ends held).behind left at in
        let start = opening policy.schema world batch.him.profile batch.him.opened in
        let there : UserState = after_events policy.schema world batch.him.profile start least in
        let later : UserState = after_events policy.schema world batch.him.profile start (least ++ behind.more) in
        let goes : GoesOn there.entries later.entries =
        subst (λ (s : UserState). GoesOn there.entries s.entries) (sym (after_events-append policy.schema world batch.him.profile start least behind.more))
        (goes_on policy.schema world batch.him.profile there behind.more) in
        opened_on there.entries later.entries left goes (told_in batch.him.profile (he_has batch) later left behind.holds)

    told_on : (left : List ℕ) (told : History) → IsTold policy world header user journals left told → Opened told left
    told_on left told (by_batch batch least come are) = subst (λ h. Opened h left) (sym are) (come_on left batch least come)
    told_on left told (by_serving one member refusal served is unsealed at are) =
        subst (λ h. Opened h left) (sym are)
        (told_in member.profile (served.profile_is ∙ ap (λ (u : PolicyUser). u.profile) is)
        (shown member.history member.standing member.in_flight) left (served.stands unsealed left at))

  -- ---- any number of calls

  module _ {C : Type 0} (journals : C → Journals)
      (one_on : (one : C) (first : History) → BeginsOn (journals one) first → (left : List ℕ) → IsLeft (journals one) user.name left → Opened first left) where
    -- each follows on what a crash could leave of the one before
    abbrev Follow : C → List C → List ℕ → Type 0
    Follow first later left = EachFollows journals user.name (λ (one : C). IsLeft (journals one) user.name) first later left

    all_on : (first : C) (later : List C) (start : History) (left : List ℕ) → BeginsOn (journals first) start → Follow first later left → Opened start left
    all_on first [] start left begins is = one_on first start begins left is
    all_on first (next ∷ later) start left begins (on, follow) =
        all_on next later start left (λ bytes at. one_on first start begins bytes (on bytes at)) follow

    -- what opens with a history has one history alone
    same_history : (history told : History) (left : List ℕ) → Opens policy.schema world user.profile header history left → Opened told left
        → GoesOn told history
    same_history history told left opens on =
        subst (GoesOn told) (opens_once policy.schema world user.profile header on.entries history left on.opens opens) on.goes_on

    all_stand : (history : History) (left : List ℕ) (first : C) (later : List C) → Opens policy.schema world user.profile header history left
        → Follow first later left → EachStands policy world header user journals history left first later
    all_stand history left first [] opens is = λ told has. same_history history told left opens (told_on (journals first) left told has)
    all_stand history left first (next ∷ later) opens (on, follow) = (
      λ told has. same_history history told left opens (all_on next later told left (λ bytes at. told_on (journals first) bytes told (has bytes at)) follow),
      all_stand history left next later opens follow,
    )

    one_history : (first : C) (later : List C) (start : History) (left : List ℕ) → BeginsOn (journals first) start → Follow first later left
        → LeaveOneHistory policy world header user journals start left first later
    one_history first later start left begins follow =
        let on = all_on first later start left begins follow in
        record {
          on = on;
          stands = all_stand on.entries left first later on.opens follow;
          hidden = hidden_by policy.schema world user.profile on.entries on.opens.legal
              (sizes_are_of_schema policy.schema user.profile on.entries on.opens.sizes);
        }

  -- ---- any number of batches

  -- all that a call may begin with opens a desk
  abbrev BeginsOpen : Journals → Type 0
  BeginsOpen journals = (bytes : List ℕ) → BeginsWith journals user.name bytes → (h : History) × Opens policy.schema world user.profile header h bytes

  no_replies : (opened : History) → [] ≡ replies policy.schema world user.profile opened []
  unfolding replies
  no_replies opened = refl

  module _ (journals : Journals) (batch : HisBatch policy world header user journals) (least : List Event) where
    -- his events in the batch
    abbrev own : List Event
    own = own_events batch.him.name batch.script

    -- with these of them it was a call over what his journal read
    abbrev IsOver : List Event → List ℕ → Type 0
    IsOver events left =
        IsCallOver policy.schema world batch.him.profile header (journals.bytes batch.him.name) (cut_call_of policy.schema world batch.him events left)

    -- what it was to him where it left these bytes, and what it began with
    record Called (left : List ℕ) : Type 0 where
      begun : List ℕ
      began : BeginsWith journals user.name begun
      call : Call
      is : IsCallOf policy world header user journals batch least call
      over : IsCallOver policy.schema world user.profile header begun call
      leaves : call.left ≡ left

    he_is : batch.him.name ≡ user.name
    he_is = ap (λ (u : NamedUser). u.name) batch.is_he

    -- it came at least so far
    called_with : (left : List ℕ) (more further : List Event) → own ≡ (least ++ more) ++ further → IsOver (least ++ more) left → Called left
    called_with left more further split over = record {
      begun = journals.bytes user.name;
      began = inl refl;
      call = cut_call_of policy.schema world batch.him (least ++ more) left;
      is = with_events more further split refl;
      over = subst
          (λ (u : NamedUser). IsCallOver policy.schema world u.profile header (journals.bytes u.name)
          (cut_call_of policy.schema world batch.him (least ++ more) left)) batch.is_he over;
      leaves = refl;
    }

    -- it had ended
    called_whole : (left : List ℕ) (more : List Event) → least ++ more ≡ own → list_any is_opened own ≡ true → journals.image batch.him.name left
        → Called left
    called_whole left more all held at =
        let over = batches_are_calls journals policy.schema world header batch.users batch.script batch.him batch.serves held left at in
        let whole : IsOver own left = record { opens = over.opens; replied = refl; holds = over.holds } in
        called_with left more [] (sym (append-nil (least ++ more) ∙ all)) (subst (λ (es : List Event). IsOver es left) (sym all) whole)

    -- his journal wasn't opened yet
    called_before : (left : List ℕ) → BeginsOpen journals → least ≡ [] → journals.image_before batch.him.name left → Called left
    called_before left opens_all none old =
        let began : BeginsWith journals user.name left = inr (subst (λ n. journals.image_before n left) he_is old) in
        let opens = opens_all left began in
        let call : Call = record { opened = opens.0; events = []; told = []; left = left } in
        record {
          begun = left;
          began = began;
          call = call;
          is = unopened_yet none old refl refl;
          over = record {
            opens = opens.1;
            replied = no_replies opens.0;
            holds = record { found = false; sought = λ no. absurd cc; opens = opens.1 };
          };
          leaves = refl;
        }

    called_amid : (left : List ℕ) → BeginsOpen journals → least ≡ []
        → journals.image_before batch.him.name left ⊎ IsLeftOpened journals policy world header batch.users batch.script batch.him batch.serves left
        → Called left
    called_amid left opens_all none (inl old) = called_before left opens_all none old
    called_amid left opens_all none (inr (held, inl at)) = called_whole left own (ap (λ (es : List Event). es ++ own) none) held at
    called_amid left opens_all none (inr (held, inr since)) =
        let amid = cut_batches_are_calls journals policy.schema world header batch.users batch.script batch.him batch.serves held left since in
        let same : least ++ amid.front ≡ amid.front = ap (λ (es : List Event). es ++ amid.front) none in
        called_with left amid.front amid.rest (amid.split ∙ ap (λ (es : List Event). es ++ amid.rest) (sym same))
        (subst (λ (es : List Event). IsOver es left) (sym same) amid.over)

    called : (left : List ℕ) → BeginsOpen journals → ComesTo policy world header user journals batch least left → Called left
    called left opens_all (inl (to_its_end held at all)) = called_whole left [] (append-nil least ∙ all) held at
    called left opens_all (inl (to_a_stretch rest split ends held at)) =
        let late =
        later_cuts_are_calls journals policy.schema world header batch.users batch.script batch.him batch.serves least rest split ends held left at in
        called_with left late.more late.further
        (split ∙ ap (λ (es : List Event). least ++ es) late.split ∙ sym (append_assoc least late.more late.further)) late.over
    called left opens_all (inr (none, is)) =
        called_amid left opens_all none
        (batch_left journals policy world header batch.users batch.script batch.him batch.serves left (subst (λ n. IsLeft journals n left) (sym he_is) is))

    -- what it left opens a desk
    left_open : (left : List ℕ) → Called left → (h : History) × Opens policy.schema world user.profile header h left
    left_open left one =
        let state = after_events policy.schema world user.profile (opening policy.schema world user.profile one.call.opened) one.call.events in
        subst (λ b. (h : History) × Opens policy.schema world user.profile header h b) one.leaves
        (entries_found policy.schema world user.profile state one.over.holds.found, one.over.holds.opens)

  module _ {C : Type 0} (journals : C → Journals) (batch : (one : C) → HisBatch policy world header user (journals one))
      (least : C → List Event) where
    -- each follows on what the one before left, that came at least so far
    abbrev Come : C → List C → List ℕ → Type 0
    Come first later left =
        EachFollows journals user.name (λ (one : C). ComesTo policy world header user (journals one) (batch one) (least one)) first later left

    abbrev One : C → List ℕ → Type 0
    One one left = Called (journals one) (batch one) (least one) left

    record Chain (left : List ℕ) (first : C) (later : List C) : Type 0 where
      begun : List ℕ
      began : BeginsWith (journals first) user.name begun
      calls : List Call
      are : AreCallsOf policy world header user journals batch least first later calls
      over : AreCallsOver policy.schema world user.profile header begun calls
      leaves : bytes_behind begun calls ≡ left

    chain : (left : List ℕ) (first : C) (later : List C) → BeginsOpen (journals first) → Come first later left → Chain left first later
    chain left first [] opens_all is =
        let one : One first left = called (journals first) (batch first) (least first) left opens_all is in
        record { begun = one.begun; began = one.began; calls = one.call ∷ []; are = one.is; over = (one.over, tt); leaves = one.leaves }
    chain left first (next ∷ later) opens_all (on, follow) =
        let each : (b : List ℕ) → BeginsWith (journals next) user.name b → One first b =
        λ b at. called (journals first) (batch first) (least first) b opens_all (on b at) in
        let rest : Chain left next later =
        chain left next later (λ b at. left_open (journals first) (batch first) (least first) b (each b at)) follow in
        let one : One first rest.begun = each rest.begun rest.began in
        record {
          begun = one.begun;
          began = one.began;
          calls = one.call ∷ rest.calls;
          are = (one.is, rest.are);
          over = (one.over, subst (λ b. AreCallsOver policy.schema world user.profile header b rest.calls) (sym one.leaves) rest.over);
          leaves = ap (λ b. bytes_behind b rest.calls) one.leaves ∙ rest.leaves;
        }

    one_run : (left : List ℕ) (first : C) (later : List C) (opened : History)
        → ((bytes : List ℕ) → BeginsWith (journals first) user.name bytes → Opens policy.schema world user.profile header opened bytes)
        → Come first later left → AreRunOf policy world header user journals batch least opened left first later
    one_run left first later opened begins follow =
        let all : Chain left first later = chain left first later (λ b at. (opened, begins b at)) follow in
        record {
          begun = all.begun;
          began = all.began;
          calls = all.calls;
          are = all.are;
          leaves = all.leaves;
          run = calls_join policy.schema world user.profile header all.begun opened all.calls (begins all.begun all.began) all.over;
        }

module _ {F D S K E L Door Dial In Out : Type 0} (Shelf : ShelfGhosts F D) (Disk : DiskGhosts D) (Source : SourceGhosts S) (Sink : SinkGhosts K)
    (Complaints : SinkGhosts E) (Links : LinksGhosts L Door Dial In Out) (files : FileNames) (policy : PolicyValue) (world : FactSet) (header : List ℕ) where
  -- its journals, of a call of which `top` promised
  abbrev its : Promised Shelf Disk Source Sink Complaints Links files policy world header → Journals
  its call = journals_at Shelf Disk Source Sink Complaints Links files policy world header call

  pub any_calls_join : ((d : D) (c : List ℕ) → Disk.image_since d (Disk.moment d) c → Disk.image d c)
      → AnyCallsJoin Shelf Disk Source Sink Complaints Links files policy world header
  any_calls_join only_now first later user opened left tells named begins follow =
      one_history policy world header user its one_on first later opened left begins follow
    where
      -- no journal looks at what is counted of exchanges
      counted : (s : Scene) (b : Bool) → LeavesParts (journals_of s.shelf files) policy world header
          → LeavesParts (journals_of (counted_by s b).shelf files) policy world header
      counted s false parts = parts
      counted s true parts = parts

      parts : (call : Promised Shelf Disk Source Sink Complaints Links files policy world header) → LeavesParts (its call) policy world header
      parts call =
          counted (scene_at Shelf Disk Source Sink Complaints Links files policy world header call) (has_standby (reading_of call.words))
          (calls_are_parts Shelf Disk call.shelf call.shelf' (input_of Source call.source call.source') (output_of Sink call.sink call.sink')
          (links_of Links call.links call.links') (output_of Complaints call.complaints call.complaints') only_now call.words call.status files policy world
          header call.promise call.uses tells call.said)

      one_on : (call : Promised Shelf Disk Source Sink Complaints Links files policy world header) (start : History)
          → BeginsOn policy world header user (its call) start → (bytes : List ℕ) → IsLeft (its call) user.name bytes
          → Opened policy world header user start bytes
      one_on call start on bytes was =
          left_on policy world header user (its call) start on bytes (his_part policy world header user (its call) named (parts call) bytes was)

module _ {F D : Type 0} (Shelf : ShelfGhosts F D) (Disk : DiskGhosts D) (directory : Text) (policy : PolicyValue) (world : FactSet) (header : List ℕ)
    (user : PolicyUser) where
  pub any_batches_join : AnyBatchesJoin Shelf Disk directory policy world header user
  any_batches_join first later opened left begins follow =
      one_run policy world header user (journals_in_batch Shelf Disk directory policy world header user)
      (λ (one : AnsweredBatch Shelf Disk directory policy world header user). one.his)
      (λ (one : AnsweredBatch Shelf Disk directory policy world header user). one.least) left first later opened begins follow
