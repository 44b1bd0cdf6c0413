-- Replies ask by ask.
use Rattle.std.proofs.Common.{◌≡◌, inl, inr, ℕ, suc, Bool, true, false, List, [], ◌∷◌, ◌++◌, length, refl, sym, ap, ◌∙◌, append_assoc, append-nil, arith}
use Rattle.std.specs.Prelude.{Option, None, Result, Ok, Err, option_to_list, if◌then◌else◌}
use Rattle.std.specs.List.{AllByRecursion}
use Rattle.std.proofs.lemmas.Grind.{common_steps}
use Rattle.cqe_base.specs.declared.user.Purpose.TheVariants.{Asking}
use Rattle.cqe_base.specs.Schema.{Text, DatabaseSchema, is_valid_schema}
use Rattle.cqe_base.specs.Facts.{FactSet}
use Rattle.cqe_base.specs.Formula.{Formula}
use Rattle.cqe_base.specs.Reading.{Refusal, reading}
use Rattle.cqe_base.specs.History.{UserProfile, AnsweredQuery, History, is_user_of}
use Rattle.cqe_base.specs.Censor.{admitted, EmptyHistoryIsLegal}
use Rattle.cqe_base.specs.Headline.{RunsStayLegal, RunsStayOfSchema}
use Rattle.cqe_base.specs.Hiding.{LegalHistoriesHide}
use Rattle.cqe_base.specs.Run.{Reply, Standing, standing_open, standing_closed, user_closed, Ending, want, kept, Event, call, UserState, opening, after_event}
use Rattle.cqe_base.specs.Run.{after_events, replies_from, replies_to_event, reply_to_call, replies, final_history, entry_added}
use Rattle.cqe_base.specs.Transcript.{reply_text}
use Rattle.cqe_base.proofs.Runs.{after_events-push}
use Rattle.user_log.specs.Asked.{IsAsked, wanted, answered}
use Rattle.case_engine.specs.Answering.{IsTold}
use Rattle.case_engine.specs.Case.{ask_events, IsKeptOrWant, reply_lines, AnswersCase}

-- ---- lists

ask_events-push : (asks : List Text) (endings : List Ending) (text : Text) (ending : Ending) → length endings ≡ length asks
    → ask_events (asks ++ text ∷ []) (endings ++ ending ∷ []) ≡ ask_events asks endings ++ call Asking text ending ∷ []
ask_events-push [] [] text ending same = refl
ask_events-push [] (e ∷ endings) text ending same = absurd (omega arith)
ask_events-push (t ∷ asks) [] text ending same = absurd (omega arith)
ask_events-push (t ∷ asks) (e ∷ endings) text ending same = ap (λ events. call Asking t e ∷ events) (ask_events-push asks endings text ending (omega arith))

all_push : (endings : List Ending) (ending : Ending) → AllByRecursion IsKeptOrWant endings → IsKeptOrWant ending
    → AllByRecursion IsKeptOrWant (endings ++ ending ∷ [])
all_push [] ending all here = (here, tt)
all_push (e ∷ endings) ending all here = (all.0, all_push endings ending all.1 here)

lines-append : (first second : List Reply) → reply_lines (first ++ second) ≡ reply_lines first ++ reply_lines second
lines-append first second = grind (arith, common_steps)

pub one_line : (earlier : List Reply) (told : Reply) → reply_lines earlier ++ (reply_text told ++ 10 ∷ []) ≡ reply_lines (earlier ++ told ∷ [])
one_line earlier told = sym (lines-append earlier (told ∷ []) ∙ ap (λ l. reply_lines earlier ++ l) (append-nil (reply_text told ++ 10 ∷ [])))

module _ (schema : DatabaseSchema) (world : FactSet) (user : UserProfile) where
  -- one reply for each ask
  pub replies_count : (state : UserState) (asks : List Text) (endings : List Ending) → length endings ≡ length asks
      → length (replies_from schema world user state (ask_events asks endings)) ≡ length asks
  replies_count state [] endings same = refl
  replies_count state (text ∷ asks) [] same = absurd (omega arith)
  replies_count state (text ∷ asks) (ending ∷ endings) same =
      ap suc (replies_count (after_event schema world user state (call Asking text ending)) asks endings (omega (arith, same)))

  replies_from-push : (state : UserState) (events : List Event) (event : Event)
      → replies_from schema world user state (events ++ event ∷ [])
      ≡ replies_from schema world user state events ++ replies_to_event schema world user (after_events schema world user state events) event
  replies_from-push state [] event = append-nil (replies_to_event schema world user state event)
  replies_from-push state (e ∷ events) event =
      ap (λ later. replies_to_event schema world user state e ++ later) (replies_from-push (after_event schema world user state e) events event)
      ∙ sym (append_assoc (replies_to_event schema world user state e) (replies_from schema world user (after_event schema world user state e) events)
      (replies_to_event schema world user (after_events schema world user (after_event schema world user state e) events) event))

  -- ---- the run so far

  abbrev pub standing_by : Bool → Standing
  standing_by true = standing_open
  standing_by false = standing_closed

  abbrev pub state_with : Bool → History → UserState
  state_with is_open history = record { entries = history; standing = standing_by is_open; broken = false; pending = None }

  -- these asks were answered with these lines, and the user then has this history
  pub record SoFar (is_open : Bool) (asks : List Text) (output : List ℕ) (history : History) : Type 0 where
    pub endings : List Ending
    pub one_each : length endings ≡ length asks
    pub kept_or_want : AllByRecursion IsKeptOrWant endings
    pub lines : output ≡ reply_lines (replies_from schema world user (opening schema world user []) (ask_events asks endings))
    pub state : after_events schema world user (opening schema world user []) (ask_events asks endings) ≡ state_with is_open history

  pub standing_is : (is_open : Bool) → is_open ≡ admitted schema world user
      → (if admitted schema world user then standing_open else standing_closed) ≡ standing_by is_open
  standing_is true e = ap (λ b. if b then standing_open else standing_closed) (sym e)
  standing_is false e = ap (λ b. if b then standing_open else standing_closed) (sym e)

  pub so_far_empty : (is_open : Bool) → is_open ≡ admitted schema world user → SoFar is_open [] [] []
  so_far_empty is_open e = record {
    endings = [];
    one_each = refl;
    kept_or_want = tt;
    lines = refl;
    state = ap (λ s. record { entries = []; standing = s; broken = false; pending = None }) (standing_is is_open e);
  }

  -- one more ask with this ending, its reply and the state behind it
  pushed : (is_open : Bool) (asks : List Text) (output : List ℕ) (history new : History) (text : Text) (told : Reply) (ending : Ending)
      → SoFar is_open asks output history → IsKeptOrWant ending
      → replies_to_event schema world user (state_with is_open history) (call Asking text ending) ≡ told ∷ []
      → after_event schema world user (state_with is_open history) (call Asking text ending) ≡ state_with is_open new
      → SoFar is_open (asks ++ text ∷ []) (output ++ (reply_text told ++ 10 ∷ [])) new
  pushed is_open asks output history new text told ending so_far here replied next =
      let start = opening schema world user [] in
      let before = ask_events asks so_far.endings in
      let events = ask_events-push asks so_far.endings text ending so_far.one_each in
      record {
        endings = so_far.endings ++ ending ∷ [];
        one_each = let was = so_far.one_each in grind (arith, common_steps, was);
        kept_or_want = all_push so_far.endings ending so_far.kept_or_want here;
        lines =
            ap (λ o. o ++ (reply_text told ++ 10 ∷ [])) so_far.lines
            ∙ one_line (replies_from schema world user start before) told
            ∙ sym (ap (λ r. reply_lines (replies_from schema world user start before ++ r))
            (ap (λ s. replies_to_event schema world user s (call Asking text ending)) so_far.state ∙ replied))
            ∙ sym (ap reply_lines (ap (replies_from schema world user start) events ∙ replies_from-push start before (call Asking text ending)));
        state =
            ap (after_events schema world user start) events ∙ after_events-push schema world user start before (call Asking text ending)
            ∙ ap (λ s. after_event schema world user s (call Asking text ending)) so_far.state ∙ next;
      }

  same_entries : (history : History) (added : Option AnsweredQuery) → added ≡ None → history ++ option_to_list added ≡ history
  same_entries history added none = ap (λ a. history ++ option_to_list a) none ∙ append-nil history

  -- that a user isn't admitted adds no entry
  no_entry : (text : Text) (read : Result Formula Refusal) → entry_added text read user_closed ≡ None
  no_entry text (Ok query) = refl
  no_entry text (Err refusal) = refl

  -- what one ask's ending makes of the reply, and of the state behind it
  pub record OneAsk (is_open : Bool) (history new : History) (text : Text) (told : Reply) : Type 0 where
    pub ending : Ending
    pub kept_or_want : IsKeptOrWant ending
    pub replied : reply_to_call schema world user (state_with is_open history) Asking text ending ≡ told
    pub next : after_event schema world user (state_with is_open history) (call Asking text ending) ≡ state_with is_open new

  -- a user who is admitted is told what his log answers
  one_open : (history new : History) (text : Text) (told : Reply) → IsAsked schema world user history new Asking text told → OneAsk true history new text told
  one_open history new text told (wanted same) = record { ending = want; kept_or_want = inr refl; replied = refl; next = ap (state_with true) (sym same) }
  one_open history new text told (answered is added) = record {
    ending = kept;
    kept_or_want = inl refl;
    replied = sym is;
    next = ap (state_with true) (sym (added ∙ ap (λ t. history ++ option_to_list (entry_added text (reading schema text) t)) is));
  }

  -- one who isn't is told so
  one_closed : (history new : History) (text : Text) (told : Reply) → (told ≡ user_closed) × (new ≡ history) → OneAsk false history new text told
  one_closed history new text told (is, same) = record {
    ending = kept;
    kept_or_want = inl refl;
    replied = sym is;
    next = ap (state_with false) (same_entries history (entry_added text (reading schema text) user_closed) (no_entry text (reading schema text)) ∙ sym same);
  }

  pub one_ask : (is_open : Bool) (history new : History) (text : Text) (told : Reply) → IsTold is_open schema world user history new text told
      → OneAsk is_open history new text told
  one_ask true = one_open
  one_ask false = one_closed

  pub told_next : (is_open : Bool) (asks : List Text) (output : List ℕ) (history new : History) (text : Text) (told : Reply) → SoFar is_open asks output history
      → IsTold is_open schema world user history new text told → SoFar is_open (asks ++ text ∷ []) (output ++ (reply_text told ++ 10 ∷ [])) new
  told_next is_open asks output history new text told so_far here =
      let one : OneAsk is_open history new text told = one_ask is_open history new text told here in
      pushed is_open asks output history new text told one.ending so_far one.kept_or_want (ap (λ t. t ∷ []) one.replied) one.next

  -- ---- the end of the run

  pub answers_asks : (is_open : Bool) (asks : List Text) (output : List ℕ) (history : History) → SoFar is_open asks output history → EmptyHistoryIsLegal
      → RunsStayLegal → RunsStayOfSchema → LegalHistoriesHide → is_valid_schema schema ≡ true → is_user_of schema user ≡ true
      → AnswersCase schema world user asks output
  unfolding replies
  answers_asks is_open asks output history so_far empty runs of_schema hide valid is_user =
      let legal = runs schema world user [] (ask_events asks so_far.endings) (empty schema world user) in
      record {
        endings = so_far.endings;
        one_each = so_far.one_each;
        kept_or_want = so_far.kept_or_want;
        lines = so_far.lines;
        legal = legal;
        hides = λ is_admitted. hide schema world user (final_history schema world user [] (ask_events asks so_far.endings)) valid is_user
            (of_schema schema world user [] (ask_events asks so_far.endings) refl) is_admitted legal;
      }
