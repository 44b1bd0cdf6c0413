-- Batches are calls of which each goes on with what the one before left.
use Rattle.std.proofs.Common.{◌≡◌, ◌⊎◌, inl, inr, ℕ, ◌≤◌, Bool, true, false, List, [], ◌∷◌, ◌++◌, map, refl, sym, ap, subst, ◌∙◌}
use Rattle.std.specs.Prelude.{Option, Some, IfSome, is_some, find, bytes_eq, if◌then◌else◌}
use Rattle.std.specs.List.{list_any, AllByRecursion}
use Rattle.std.specs.Cmp.Lexicographic.{same_text}
use Rattle.cqe_base.specs.Schema.{Text, DatabaseSchema}
use Rattle.cqe_base.specs.Facts.{FactSet}
use Rattle.cqe_base.specs.History.{UserProfile}
use Rattle.cqe_base.specs.Run
use Rattle.cqe_base.specs.Run.{Event, UserState, standing_open, opening, after_events, final_history}
use Rattle.cqe_base.specs.Transcript.{NamedUser, ScriptEvent, own_events, transcript}
use Rattle.cqe_base.proofs.Scripts.{runs_stay_legal}
use Rattle.user_desk.specs.Lives.{Holds, shown}
use Rattle.user_desk.specs.Causes.{Opens}
use Rattle.user_desk.specs.Joining.{Call, IsCallOver, IsSpanOver, AreOneRun}
use Rattle.user_desk.proofs.Joining.{calls_join}
use Rattle.desk_crew.specs.Openings.{OpensWith}
use Rattle.desk_crew.specs.Shelved.{Journals}
use Rattle.batch_engine.specs.Batch.{ServesUser, AnswersBatch, line_bytes, unopened}
use Rattle.batch_engine.specs.BatchLines.{BatchItem}
use Rattle.std.proofs.lemmas.List.Folds.{list_any-append}
use Rattle.std.proofs.lemmas.Bool.{or_left}
use Rattle.batch_engine.specs.Lives.{is_opened}
use Rattle.batch_engine.specs.Joining.{call_of, cut_call_of, cut_span_of, BatchesAreCalls, BatchesAreSpans, IsCutBatch, CutBatchesAreCalls, LaterCutsAreCalls}
use Rattle.batch_engine.specs.Joining.{IsNamed, script_of, IsOpenedTo, IsAnsweredTo, IsCutRun, BatchesJoin, CutBatchesJoin, LateBatchesJoin}
use Rattle.batch_engine.specs.Joining.{SameEventsSameLines}
use Rattle.batch_engine.proofs.Along.{goes_on}

-- what holds a state holds its entries and the one in flight at any standing
held_anyhow : (schema : DatabaseSchema) (world : FactSet) (user : UserProfile) (header c : List ℕ) (state : UserState)
    → Holds schema world user header state c → Holds schema world user header (shown state.entries standing_open state.pending) c
held_anyhow schema world user header c state holds = by holds.found holds.sought holds.opens
  where
    by : (found : Bool) → (found ≡ true → is_some state.pending ≡ true)
        → Opens schema world user header (Run.entries_found schema world user state found) c
        → Holds schema world user header (shown state.entries standing_open state.pending) c
    by true sought opens = record { found = true; sought = sought; opens = opens }
    by false sought opens = record { found = false; sought = sought; opens = opens }

-- what holds of each user holds of one that is found
found_of : (P : NamedUser → Type 0) (name : Text) (users : List NamedUser) (user : NamedUser) → AllByRecursion P users → IsNamed name users user → P user
found_of P name [] user all is = absurd cc
found_of P name (u ∷ users) user all is = by (bytes_eq u.name name) is (found_of P name users user all.1)
  where
    by : (b : Bool) → (if b then Some u else find (λ v. bytes_eq v.name name) users) ≡ Some user → (IsNamed name users user → P user) → P user
    by true here rest = let same : u ≡ user = cc in subst P same all.0
    by false further rest = rest further

-- who is found has the name
found_name : (name : Text) (users : List NamedUser) (user : NamedUser) → IsNamed name users user → user.name ≡ name
found_name name [] user is = absurd cc
found_name name (u ∷ users) user is = by (bytes_eq u.name name) refl is (found_name name users user)
  where
    by : (b : Bool) → bytes_eq u.name name ≡ b → (if b then Some u else find (λ v. bytes_eq v.name name) users) ≡ Some user
        → (IsNamed name users user → user.name ≡ name) → user.name ≡ name
    by true same here rest = let is_user : u ≡ user = cc in ap (λ (v : NamedUser). v.name) (sym is_user) ∙ same_text u.name name (sym same)
    by false other further rest = rest further

-- two lists of the users of one policy have the same profile under a name
same_profile : (name : Text) (users others : List NamedUser) (user other : NamedUser) → map unopened users ≡ map unopened others → IsNamed name users user
    → IsNamed name others other → other.profile ≡ user.profile
same_profile name [] others user other same is is' = absurd cc
same_profile name (u ∷ users) [] user other same is is' = absurd cc
same_profile name (u ∷ users) (o ∷ others) user other same is is' =
    by (bytes_eq u.name name) (bytes_eq o.name name) heads_named is is' (same_profile name users others user other tails)
  where
    heads : unopened u ≡ unopened o
    heads = cc

    tails : map unopened users ≡ map unopened others
    tails = cc

    heads_named : bytes_eq u.name name ≡ bytes_eq o.name name
    heads_named = ap (λ (v : NamedUser). bytes_eq v.name name) heads

    by : (a b : Bool) → a ≡ b → (if a then Some u else find (λ v. bytes_eq v.name name) users) ≡ Some user
        → (if b then Some o else find (λ v. bytes_eq v.name name) others) ≡ Some other
        → (IsNamed name users user → IsNamed name others other → other.profile ≡ user.profile) → other.profile ≡ user.profile
    by true true e here here' rest =
        let one : u ≡ user = cc in
        let two : o ≡ other = cc in
        ap (λ (v : NamedUser). v.profile) (sym two) ∙ ap (λ (v : NamedUser). v.profile) (sym heads) ∙ ap (λ (v : NamedUser). v.profile) one
    by true false e here here' rest = absurd cc
    by false true e here here' rest = absurd cc
    by false false e there there' rest = rest there there'

module _ (schema : DatabaseSchema) (world : FactSet) (header : List ℕ) (journals : Journals) (users : List NamedUser) (script : List ScriptEvent)
    (user : NamedUser) (serves : ServesUser schema world header journals users script user)
    (held : list_any is_opened (own_events user.name script) ≡ true) where
  -- the bytes opened a desk
  opens_at : Opens schema world user.profile header user.opened (journals.bytes user.name)
  opens_at = by serves.opening_is
    where
      by : OpensWith schema world user.profile header (journals.bytes user.name) user.opened
          → Opens schema world user.profile header user.opened (journals.bytes user.name)
      by (inl opens) = opens
      by (inr (none, is)) = let clash : true ≡ false = sym held ∙ serves.refused none in absurd cc

  is_call : (left : List ℕ) → journals.image user.name left
      → IsCallOver schema world user.profile header (journals.bytes user.name) (call_of schema world users script user left)
  is_call left at = record { opens = opens_at; replied = serves.private; holds = serves.stands held left at }

pub batches_are_calls : (journals : Journals) → BatchesAreCalls journals
batches_are_calls journals schema world header users script user serves held left at =
    is_call schema world header journals users script user serves held left at

-- a call over bytes, by the state behind its events, is a part of the history over them
part_of : (schema : DatabaseSchema) (world : FactSet) (header bytes : List ℕ) (user : NamedUser) (events : List Event) (left : List ℕ)
    → Opens schema world user.profile header user.opened bytes
    → Holds schema world user.profile header (after_events schema world user.profile (opening schema world user.profile user.opened) events) left
    → IsSpanOver schema world user.profile header bytes (cut_span_of schema world user events left)
unfolding final_history
part_of schema world header bytes user events left opens holds =
    let start = opening schema world user.profile user.opened in
    record {
      opens = opens;
      goes_on = goes_on schema world user.profile start events;
      legal = runs_stay_legal schema world user.profile user.opened events opens.legal;
      holds = held_anyhow schema world user.profile header left (after_events schema world user.profile start events) holds;
    }

pub batches_are_spans : (journals : Journals) → BatchesAreSpans journals
batches_are_spans journals schema world header users script user serves held left at =
    part_of schema world header (journals.bytes user.name) user (own_events user.name script) left
    (opens_at schema world header journals users script user serves held) (serves.stands held left at)

pub cut_batches_are_calls : (journals : Journals) → CutBatchesAreCalls journals
cut_batches_are_calls journals schema world header users script user serves held left at =
    let amid = serves.moments.behind held left at in
    let opens = opens_at schema world header journals users script user serves held in
    record {
      front = amid.more;
      rest = amid.further;
      split = amid.split;
      over = record { opens = opens; replied = refl; holds = amid.holds };
      part = part_of schema world header (journals.bytes user.name) user amid.more left opens amid.holds;
    }

-- where an opening held in front, one held
held_in : (events front rest : List Event) → events ≡ front ++ rest → list_any is_opened front ≡ true → list_any is_opened events ≡ true
held_in events front rest split held =
    ap (list_any is_opened) split ∙ list_any-append is_opened front rest ∙ or_left (list_any is_opened front) (list_any is_opened rest) held

pub later_cuts_are_calls : (journals : Journals) → LaterCutsAreCalls journals
later_cuts_are_calls journals schema world header users script user serves front rest split ends held left at =
    let behind = (serves.closings front rest split ends held).behind left at in
    let some : list_any is_opened (own_events user.name script) ≡ true = held_in (own_events user.name script) front rest split held in
    record {
      more = behind.more;
      further = behind.further;
      split = behind.split;
      over = record { opens = opens_at schema world header journals users script user serves some; replied = refl; holds = behind.holds };
    }

-- a batch that was answered, to the user of a name
module _ (schema : DatabaseSchema) (world : FactSet) (header : List ℕ) (policy : List NamedUser) (journals : Journals) (items : List BatchItem)
    (written : List ℕ) (answers : AnswersBatch schema world header journals policy items written) (name : Text) (user : NamedUser)
    (is : IsOpenedTo schema world header policy journals answers name user) where
  abbrev script : List ScriptEvent
  script = script_of schema world header policy journals answers

  serves_him : ServesUser schema world header journals answers.users script user
  serves_him = found_of (ServesUser schema world header journals answers.users script) name answers.users user answers.each_user is.named

  named_so : user.name ≡ name
  named_so = found_name name answers.users user is.named

  opens_his : Opens schema world user.profile header user.opened (journals.bytes name)
  opens_his = subst (λ n. Opens schema world user.profile header user.opened (journals.bytes n)) named_so
      (opens_at schema world header journals answers.users script user serves_him is.held)

  -- it is a call over what his journal read
  call_over : (left : List ℕ) → journals.image name left
      → IsCallOver schema world user.profile header (journals.bytes name) (call_of schema world answers.users script user left)
  call_over left at = subst (λ n. IsCallOver schema world user.profile header (journals.bytes n) (call_of schema world answers.users script user left)) named_so
      (is_call schema world header journals answers.users script user serves_him is.held left (subst (λ n. journals.image n left) (sym named_so) at))

  -- since the call began a crash could leave what it could before, or left it behind the opening
  along : (begun : ℕ) (left : List ℕ) → journals.began name ≡ Some begun → journals.since name begun left
      → journals.image_before name left ⊎ journals.since user.name serves_him.moments.opening left
  along begun left began at = by (known.1 left at)
    where
      Since : Option ℕ → Type 0
      Since start = IfSome start (λ t. (t ≤ serves_him.moments.opening)
          × ((c : List ℕ) → journals.since name t c → journals.image_before name c ⊎ journals.since name serves_him.moments.opening c))

      known : Since (Some begun)
      known = subst Since began (subst (λ n. IfSome (journals.began n) (λ t. (t ≤ serves_him.moments.opening)
          × ((c : List ℕ) → journals.since n t c → journals.image_before n c ⊎ journals.since n serves_him.moments.opening c))) named_so
          serves_him.moments.before)

      by : journals.image_before name left ⊎ journals.since name serves_him.moments.opening left
          → journals.image_before name left ⊎ journals.since user.name serves_him.moments.opening left
      by (inl old) = inl old
      by (inr since) = inr (subst (λ n. journals.since n serves_him.moments.opening left) (sym named_so) since)

  -- it is a call with some first of his events, where a crash cut it
  cut_at : (left : List ℕ) → journals.since user.name serves_him.moments.opening left → IsCutBatch journals schema world header script user left
  cut_at left at = cut_batches_are_calls journals schema world header answers.users script user serves_him is.held left at

-- two batches that were answered over the journals of one policy
module _ (schema : DatabaseSchema) (world : FactSet) (header : List ℕ) (policy : List NamedUser) (journals journals' : Journals)
    (items items' : List BatchItem) (written written' : List ℕ) (one : AnswersBatch schema world header journals policy items written)
    (two : AnswersBatch schema world header journals' policy items' written') (name : Text) (left : List ℕ) (first second : NamedUser) (call' : Call)
    (is : IsOpenedTo schema world header policy journals one name first)
    (is' : IsAnsweredTo schema world header policy journals' two name left second call') where
  -- the second is a call over what his journal read as it began
  second_over : IsCallOver schema world first.profile header (journals'.bytes name) call'
  second_over =
      let profile : second.profile ≡ first.profile =
      same_profile name one.users two.users first second (one.of_policy ∙ sym two.of_policy) is.named is'.opened.named in
      subst (λ (k : Call). IsCallOver schema world first.profile header (journals'.bytes name) k) (sym is'.call_is)
      (subst (λ p. IsCallOver schema world p header (journals'.bytes name)
      (call_of schema world two.users (script_of schema world header policy journals' two) second left)) profile
      (call_over schema world header policy journals' items' written' two name second is'.opened left is'.leaves))

  -- so both are one run, where the first left what it began with
  run_of : (call : Call) → call.left ≡ journals'.bytes name → IsCallOver schema world first.profile header (journals.bytes name) call
      → AreOneRun schema world first.profile header (journals.bytes name) first.opened (call ∷ call' ∷ [])
  run_of call leaves over =
      calls_join schema world first.profile header (journals.bytes name) first.opened (call ∷ call' ∷ [])
      (opens_his schema world header policy journals items written one name first is)
      (over, (subst (λ b. IsCallOver schema world first.profile header b call') (sym leaves) second_over, tt))

  cut_run : journals.image_before name (journals'.bytes name)
      ⊎ journals.since first.name (serves_him schema world header policy journals items written one name first is).moments.opening (journals'.bytes name)
      → journals.image_before name (journals'.bytes name) ⊎ IsCutRun schema world header policy journals one name (journals'.bytes name) first call'
  cut_run (inl old) = inl old
  cut_run (inr since) =
      let cut = cut_at schema world header policy journals items written one name first is (journals'.bytes name) since in
      inr (record {
        front = cut.front;
        rest = cut.rest;
        split = cut.split;
        run = run_of (cut_call_of schema world first cut.front (journals'.bytes name)) refl
            (subst (λ n. IsCallOver schema world first.profile header (journals.bytes n) (cut_call_of schema world first cut.front (journals'.bytes name)))
            (named_so schema world header policy journals items written one name first is) cut.over);
      })

pub batches_join : (schema : DatabaseSchema) (world : FactSet) (header : List ℕ) (policy : List NamedUser) (journals journals' : Journals)
    → BatchesJoin schema world header policy journals journals'
batches_join schema world header policy journals journals' items items' written written' one two name left first second call call' is is' =
    run_of schema world header policy journals journals' items items' written written' one two name left first second call' is.opened is' call
    (ap (λ (k : Call). k.left) is.call_is)
    (subst (λ (k : Call). IsCallOver schema world first.profile header (journals.bytes name) k) (sym is.call_is)
    (call_over schema world header policy journals items written one name first is.opened (journals'.bytes name) is.leaves))

pub cut_batches_join : (schema : DatabaseSchema) (world : FactSet) (header : List ℕ) (policy : List NamedUser) (journals journals' : Journals)
    → CutBatchesJoin schema world header policy journals journals'
cut_batches_join schema world header policy journals journals' items items' written written' one two name left first second call' cut is' =
    cut_run schema world header policy journals journals' items items' written written' one two name left first second call' cut.opened is'
    (along schema world header policy journals items written one name first cut.opened cut.begun (journals'.bytes name) cut.began cut.leaves)

pub late_batches_join : (schema : DatabaseSchema) (world : FactSet) (header : List ℕ) (policy : List NamedUser) (journals journals' : Journals)
    → LateBatchesJoin schema world header policy journals journals'
late_batches_join schema world header policy journals journals' items items' written written' one two name left first second front rest call' late is' =
    let its = script_of schema world header policy journals one in
    let is : IsOpenedTo schema world header policy journals one name first =
    record { named = late.named; held = held_in (own_events first.name its) front rest late.split late.held } in
    let same : first.name ≡ name = named_so schema world header policy journals items written one name first is in
    let closing = (late.serves.closings front rest late.split late.ends late.held).closing in
    let cut = later_cuts_are_calls journals schema world header one.users its first late.serves front rest late.split late.ends late.held
    (journals'.bytes name) (subst (λ n. journals.since n closing (journals'.bytes name)) (sym same) late.leaves) in
    record {
      more = cut.more;
      further = cut.further;
      split = cut.split;
      run = run_of schema world header policy journals journals' items items' written written' one two name left first second call' is is'
          (cut_call_of schema world first (front ++ cut.more) (journals'.bytes name)) refl
          (subst (λ n. IsCallOver schema world first.profile header (journals.bytes n)
          (cut_call_of schema world first (front ++ cut.more) (journals'.bytes name))) same cut.over);
    }

-- the same events have the same lines
pub same_events : (schema : DatabaseSchema) (world : FactSet) (header : List ℕ) (policy : List NamedUser) (journals journals' : Journals)
    → SameEventsSameLines schema world header policy journals journals'
same_events schema world header policy journals journals' items items' written written' one two users events =
    two.lines ∙ (λ i. line_bytes (transcript schema world (users i) (events i))) ∙ sym one.lines
