-- Lives of the program that follow one another are one run.
use Rattle.std.proofs.Common.{◌≡◌, ℕ, Bool, true, false, List, [], ◌∷◌, ◌++◌, refl, sym, ap, subst, ◌∙◌, append_assoc}
use Rattle.cqe_base.specs.Schema.{DatabaseSchema}
use Rattle.cqe_base.specs.Facts.{FactSet}
use Rattle.cqe_base.specs.History.{UserProfile, History, is_history_of}
use Rattle.cqe_base.specs.Censor.{IsLegal}
use Rattle.cqe_base.specs.Run.{UserState, Event, restart, opening, after_event, after_events, entries_found, replies_to_event, replies_from, replies}
use Rattle.cqe_base.specs.Run.{final_history}
use Rattle.cqe_base.proofs.Logs.{history-first}
use Rattle.cqe_base.proofs.Limits.{sizes_are_of_schema}
use Rattle.cqe_base.proofs.Scripts.{runs_stay_legal, runs_stay_of_schema}
use Rattle.cqe_base.proofs.Confidential.{legal_histories_hide}
use Rattle.user_desk.specs.Causes.{Opens}
use Rattle.user_desk.specs.Joining.{Life, joined, entries_left, replies_in, entries_behind, LivesReplyAsOne, LivesEndAsOne, StaysHidden, LivesStayHidden}
use Rattle.user_desk.specs.Joining.{Call, all_told, bytes_behind, IsCallOver, AreCallsOver, IsLifeOf, AreLivesOf, AreOneRun, CallsJoin}
use Rattle.user_desk.specs.Joining.{Span, last_entries, IsSpanOver, AreSpansOver, SpansJoin}
use Rattle.std.specs.List.{AllByRecursion}
use Rattle.std.proofs.Common.{append-nil}
use Rattle.std.specs.Prelude.{is_some, option_to_list}
use Rattle.user_desk.specs.Lives.{Holds, shown}
use Rattle.cqe_base.specs.Run.{standing_open}
use Rattle.user_desk.proofs.Deciding.{opens_once}

module _ (schema : DatabaseSchema) (world : FactSet) (user : UserProfile) where
  -- events behind others
  pub after_events-append : (state : UserState) (first rest : List Event)
      → after_events schema world user state (first ++ rest) ≡ after_events schema world user (after_events schema world user state first) rest
  after_events-append state [] rest = refl
  after_events-append state (event ∷ first) rest = after_events-append (after_event schema world user state event) first rest

  pub replies_from-append : (state : UserState) (first rest : List Event)
      → replies_from schema world user state (first ++ rest)
      ≡ replies_from schema world user state first ++ replies_from schema world user (after_events schema world user state first) rest
  replies_from-append state [] rest = refl
  replies_from-append state (event ∷ first) rest =
      ap (λ rs. replies_to_event schema world user state event ++ rs) (replies_from-append (after_event schema world user state event) first rest)
      ∙ sym (append_assoc (replies_to_event schema world user state event) (replies_from schema world user (after_event schema world user state event) first)
      (replies_from schema world user (after_events schema world user (after_event schema world user state event) first) rest))

  -- an opening that holds begins a run with what it found
  opens_anew : (state : UserState) (found : Bool)
      → after_event schema world user state (restart found true) ≡ opening schema world user (entries_found schema world user state found)
  opens_anew state found = refl

  reply_as_one : (opened : History) (lives : List Life)
      → replies_in schema world user opened lives ≡ replies_from schema world user (opening schema world user opened) (joined lives)
  unfolding replies
  reply_as_one opened [] = refl
  reply_as_one opened (life ∷ lives) =
      ap (λ rs. replies_from schema world user (opening schema world user opened) life.events ++ rs)
      (reply_as_one (entries_left schema world user opened life) lives)
      ∙ sym (replies_from-append (opening schema world user opened) life.events (restart life.found true ∷ joined lives))

  end_as_one : (opened : History) (lives : List Life)
      → entries_behind schema world user opened lives ≡ (after_events schema world user (opening schema world user opened) (joined lives)).entries
  end_as_one opened [] = refl
  end_as_one opened (life ∷ lives) =
      end_as_one (entries_left schema world user opened life) lives
      ∙ ap (λ (s : UserState). s.entries)
      (sym (after_events-append (opening schema world user opened) life.events (restart life.found true ∷ joined lives)))

  -- a legal history of the schema hides
  pub hidden_by : (entries : History) → IsLegal schema world user entries → is_history_of schema entries ≡ true → StaysHidden schema world user entries
  hidden_by entries legal sentences = record {
    legal = legal;
    sentences = sentences;
    hides = λ valid of admits. legal_histories_hide schema world user entries valid of sentences admits legal;
  }

  pub stays_hidden : (opened : History) (events : List Event) → IsLegal schema world user opened → is_history_of schema opened ≡ true
      → StaysHidden schema world user (final_history schema world user opened events)
  stays_hidden opened events legal sentences =
      hidden_by (final_history schema world user opened events) (runs_stay_legal schema world user opened events legal)
      (runs_stay_of_schema schema world user opened events sentences)

pub lives_reply_as_one : LivesReplyAsOne
unfolding replies
lives_reply_as_one schema world user opened lives = reply_as_one schema world user opened lives

pub lives_end_as_one : LivesEndAsOne
unfolding final_history
lives_end_as_one schema world user opened lives = end_as_one schema world user opened lives

pub lives_stay_hidden : LivesStayHidden
lives_stay_hidden schema world user opened lives legal sentences =
    subst (StaysHidden schema world user) (sym (lives_end_as_one schema world user opened lives))
    (stays_hidden schema world user opened (joined lives) legal sentences)

module _ (schema : DatabaseSchema) (world : FactSet) (user : UserProfile) (header : List ℕ) where
  -- the lives of calls, what they told, and what the last of them left
  record Lived (bytes : List ℕ) (opened : History) (calls : List Call) : Type 0 where
    lives : List Life
    are : AreLivesOf schema world user header opened calls lives
    told : all_told calls ≡ replies_in schema world user opened lives
    left : Opens schema world user header (entries_behind schema world user opened lives) (bytes_behind bytes calls)

  -- a call that began with this history
  life_is : (bytes : List ℕ) (opened : History) (call : Call) (same : call.opened ≡ opened) (is : IsCallOver schema world user header bytes call)
      → IsLifeOf schema world user header opened call (record { events = call.events; found = is.holds.found })
  life_is bytes opened call same is = record {
    began = same;
    events = refl;
    sought = subst (λ (h : History). is.holds.found ≡ true → is_some (after_events schema world user (opening schema world user h) call.events).pending ≡ true)
        same is.holds.sought;
    left = subst (λ (h : History). Opens schema world user header
        (entries_left schema world user h (record { events = call.events; found = is.holds.found })) call.left) same is.holds.opens;
  }

  lives_of : (bytes : List ℕ) (opened : History) (calls : List Call) → Opens schema world user header opened bytes
      → AreCallsOver schema world user header bytes calls → Lived bytes opened calls
  lives_of bytes opened [] opens over = record { lives = []; are = tt; told = refl; left = opens }
  lives_of bytes opened (call ∷ calls) opens (is, over) =
      let same : call.opened ≡ opened = opens_once schema world user header call.opened opened bytes is.opens opens in
      let life : Life = record { events = call.events; found = is.holds.found } in
      let one : IsLifeOf schema world user header opened call life = life_is bytes opened call same is in
      let rest : Lived call.left (entries_left schema world user opened life) calls =
      lives_of call.left (entries_left schema world user opened life) calls one.left over in
      record {
        lives = life ∷ rest.lives;
        are = (one, rest.are);
        told = ap (λ rs. call.told ++ rs) rest.told
            ∙ ap (λ rs. rs ++ replies_in schema world user (entries_left schema world user opened life) rest.lives)
            (is.replied ∙ ap (λ (h : History). replies schema world user h call.events) same);
        left = rest.left;
      }

  join_calls : (bytes : List ℕ) (opened : History) (calls : List Call) → Opens schema world user header opened bytes
      → AreCallsOver schema world user header bytes calls → AreOneRun schema world user header bytes opened calls
  join_calls bytes opened calls opens over =
      let lived : Lived bytes opened calls = lives_of bytes opened calls opens over in
      record {
        lives = lived.lives;
        are = lived.are;
        replied = lived.told ∙ lives_reply_as_one schema world user opened lived.lives;
        ends = subst (λ (h : History). Opens schema world user header h (bytes_behind bytes calls)) (lives_end_as_one schema world user opened lived.lives)
            lived.left;
        hidden = stays_hidden schema world user opened (joined lived.lives) opens.legal (sizes_are_of_schema schema user opened opens.sizes);
      }

pub calls_join : CallsJoin
calls_join schema world user header bytes opened calls opens over = join_calls schema world user header bytes opened calls opens over

module _ (schema : DatabaseSchema) (world : FactSet) (user : UserProfile) (header : List ℕ) where
  -- one history begins with another
  abbrev Begins : History → History → Type 0
  Begins first last = (more : History) × (last ≡ first ++ more)

  begins_itself : (h : History) → Begins h h
  begins_itself h = ([], sym (append-nil h))

  begins_then : (a b c : History) → Begins a b → Begins b c → Begins a c
  begins_then a b c (m, one) (n, two) = (m ++ n, two ∙ ap (λ h. h ++ n) one ∙ append_assoc a m n)

  -- what is found begins with the entries
  found_begins : (span : Span) (found : Bool) → Begins span.entries (entries_found schema world user (shown span.entries standing_open span.pending) found)
  found_begins span true = (option_to_list span.pending, refl)
  found_begins span false = begins_itself span.entries

  -- a call began with these entries, so it ended with more
  span_begins : (bytes : List ℕ) (opened : History) (span : Span) → Opens schema world user header opened bytes → IsSpanOver schema world user header bytes span
      → Begins opened span.entries
  span_begins bytes opened span opens is =
      let same : span.opened ≡ opened = opens_once schema world user header span.opened opened bytes is.opens opens in
      (is.goes_on.0, is.goes_on.1 ∙ ap (λ (h : History). h ++ is.goes_on.0) same)

  -- the last history begins with the first
  last_begins : (bytes : List ℕ) (opened : History) (spans : List Span) → Opens schema world user header opened bytes
      → AreSpansOver schema world user header bytes spans → Begins opened (last_entries opened spans)
  last_begins bytes opened [] opens over = begins_itself opened
  last_begins bytes opened (span ∷ []) opens (is, over) = span_begins bytes opened span opens is
  last_begins bytes opened (span ∷ (next ∷ spans)) opens (is, over) =
      let found = entries_found schema world user (shown span.entries standing_open span.pending) is.holds.found in
      begins_then opened span.entries (last_entries next.entries spans) (span_begins bytes opened span opens is)
      (begins_then span.entries found (last_entries next.entries spans) (found_begins span is.holds.found)
      (last_begins span.left found (next ∷ spans) is.holds.opens over))

  -- what the last call ended with begins with what each ended with
  abbrev EachBegins : History → List Span → Type 0
  EachBegins last spans = AllByRecursion (λ span. (more : History) × (last ≡ span.entries ++ more)) spans

  rest_begins : (span : Span) (spans : List Span) → AreSpansOver schema world user header span.left spans
      → Holds schema world user header (shown span.entries standing_open span.pending) span.left → Begins span.entries (last_entries span.entries spans)
  rest_begins span [] over holds = begins_itself span.entries
  rest_begins span (next ∷ spans) over holds =
      let found = entries_found schema world user (shown span.entries standing_open span.pending) holds.found in
      begins_then span.entries found (last_entries next.entries spans) (found_begins span holds.found)
      (last_begins span.left found (next ∷ spans) holds.opens over)

  each_begins : (bytes : List ℕ) (opened : History) (spans : List Span) → AreSpansOver schema world user header bytes spans
      → EachBegins (last_entries opened spans) spans
  each_begins bytes opened [] over = tt
  each_begins bytes opened (span ∷ spans) (is, over) = (rest_begins span spans over is.holds, each_begins span.left span.entries spans over)

  last_legal : (bytes : List ℕ) (opened : History) (spans : List Span) → IsLegal schema world user opened → AreSpansOver schema world user header bytes spans
      → IsLegal schema world user (last_entries opened spans)
  last_legal bytes opened [] legal over = legal
  last_legal bytes opened (span ∷ spans) legal (is, over) = last_legal span.left span.entries spans is.legal over

  -- what a call left is of the schema, so the entries with which it ended are
  found_sentences : (span : Span) (found : Bool)
      → is_history_of schema (entries_found schema world user (shown span.entries standing_open span.pending) found) ≡ true
      → is_history_of schema span.entries ≡ true
  found_sentences span true sentences = history-first schema span.entries (option_to_list span.pending) sentences
  found_sentences span false sentences = sentences

  last_sentences : (bytes : List ℕ) (opened : History) (spans : List Span) → is_history_of schema opened ≡ true
      → AreSpansOver schema world user header bytes spans → is_history_of schema (last_entries opened spans) ≡ true
  last_sentences bytes opened [] sentences over = sentences
  last_sentences bytes opened (span ∷ spans) sentences (is, over) =
      last_sentences span.left span.entries spans
      (found_sentences span is.holds.found (sizes_are_of_schema schema user
      (entries_found schema world user (shown span.entries standing_open span.pending) is.holds.found) is.holds.opens.sizes)) over

pub spans_join : SpansJoin
spans_join schema world user header bytes opened spans opens over = record {
  each = each_begins schema world user header bytes opened spans over;
  hidden = hidden_by schema world user (last_entries opened spans) (last_legal schema world user header bytes opened spans opens.legal over)
      (last_sentences schema world user header bytes opened spans (sizes_are_of_schema schema user opened opens.sizes) over);
}
