-- The asks of a script, one after the other, and what was written.
use Rattle.std.proofs.Common.{◌≡◌, ◌<◌, ◌≤◌, ℕ, ◌+◌, Bool, true, false, get_or, List, [], ◌∷◌, ◌++◌, length, take, drop, map, refl, sym, ap, subst, ◌∙◌}
use Rattle.std.proofs.Common.{append_assoc, append-nil, arith}
use Rattle.std.specs.Prelude.{String, string_bytes, nat_le}
use Rattle.std.specs.List.{list_all}
use Rattle.std.proofs.lemmas.List.Folds.{list_all-map, list_all_at}
use Rattle.std.specs.declared.alloc.Global.{Global}
use Rattle.std.proofs.lemmas.List.{take-append-drop, take_more, map-append}
use Rattle.cqe_base.specs.Schema.{Text, DatabaseSchema, is_valid_schema}
use Rattle.cqe_base.specs.Facts.{FactSet}
use Rattle.cqe_base.specs.History.{UserProfile, History, is_user_of}
use Rattle.cqe_base.specs.Censor.{admitted, EmptyHistoryIsLegal}
use Rattle.cqe_base.specs.Headline.{RunsStayLegal, RunsStayOfSchema}
use Rattle.cqe_base.specs.Hiding.{LegalHistoriesHide}
use Rattle.cqe_base.specs.Run.{Reply, opening, replies_from}
use Rattle.cqe_base.specs.Transcript.{reply_text}
use Rattle.case_engine.specs.Answering.{IsTold}
use Rattle.case_engine.specs.Sound.{is_short}
use Rattle.case_engine.specs.Case.{AnswersCase, ask_events, reply_lines}
use Rattle.case_engine.specs.Written.{AppendsReplies, AppendsFirstReplies}
use Rattle.case_engine.proofs.Replying.{SoFar, so_far_empty, one_line, replies_count, told_next, answers_asks}

module _ (schema : DatabaseSchema) (world : FactSet) (user : UserProfile) (is_open : Bool) where
  -- these asks were answered with what was appended to the old output, and the user then has this history
  abbrev pub Told : List Text → List ℕ → List ℕ → History → Type 0
  Told asks old new history = (output : List ℕ) × (new ≡ old ++ output) × SoFar schema world user is_open asks output history

  pub told_nothing : (asks : List (String Global)) (old : List ℕ) (history : History) → is_open ≡ admitted schema world user → history ≡ []
      → Told (map string_bytes (take 0 asks)) old old history
  told_nothing asks old history e none =
      ([], sym (append-nil old), subst (λ h. SoFar schema world user is_open [] [] h) (sym none) (so_far_empty schema world user is_open e))

  -- with one more ask
  more : (asks : List (String Global)) (i : ℕ) (text : String Global) (output line : List ℕ) (history new : History) (told : Reply)
      → SoFar schema world user is_open (map string_bytes (take i asks)) output history → take (i + 1) asks ≡ take i asks ++ text ∷ []
      → line ≡ reply_text told ++ 10 ∷ [] → IsTold is_open schema world user history new (string_bytes text) told
      → SoFar schema world user is_open (map string_bytes (take (i + 1) asks)) (output ++ line) new
  more asks i text output line history new told so_far next is here =
      subst (λ a. SoFar schema world user is_open a (output ++ line) new) (sym (ap (map string_bytes) next ∙ map-append string_bytes (take i asks) (text ∷ [])))
      (subst (λ l. SoFar schema world user is_open (map string_bytes (take i asks) ++ string_bytes text ∷ []) (output ++ l) new) (sym is)
      (told_next schema world user is_open (map string_bytes (take i asks)) output history new (string_bytes text) told so_far here))

  pub told_more : (asks : List (String Global)) (i : ℕ) (text : String Global) (old before after line : List ℕ) (history new : History) (told : Reply)
      → Told (map string_bytes (take i asks)) old before history → take (i + 1) asks ≡ take i asks ++ text ∷ [] → after ≡ before ++ line
      → line ≡ reply_text told ++ 10 ∷ [] → IsTold is_open schema world user history new (string_bytes text) told
      → Told (map string_bytes (take (i + 1) asks)) old after new
  told_more asks i text old before after line history new told (output, written, so_far) next appended is here =
      (output ++ line, appended ∙ ap (λ w. w ++ line) written ∙ append_assoc old output line, more asks i text output line history new told so_far next is here)

  module _ (empty : EmptyHistoryIsLegal) (runs : RunsStayLegal) (of_schema : RunsStayOfSchema) (hide : LegalHistoriesHide)
      (valid : is_valid_schema schema ≡ true)
      (is_user : is_user_of schema user ≡ true) where
    -- at the end
    pub told_all : (asks : List Text) (old new : List ℕ) (history : History) → Told asks old new history → AppendsReplies schema world user asks old new
    told_all asks old new history (output, written, so_far) = record {
      written = output;
      appended = written;
      answers = answers_asks schema world user is_open asks output history so_far empty runs of_schema hide valid is_user;
    }

    -- where the sink failed in the middle of a line
    pub told_some : (asks : List (String Global)) (i n : ℕ) (text : String Global) (old before after line : List ℕ) (history new : History) (told : Reply)
        → Told (map string_bytes (take i asks)) old before history → take (i + 1) asks ≡ take i asks ++ text ∷ [] → after ≡ before ++ take n line
        → line ≡ reply_text told ++ 10 ∷ [] → IsTold is_open schema world user history new (string_bytes text) told
        → AppendsFirstReplies schema world user (map string_bytes asks) old after
    told_some asks i n text old before after line history new told (output, written, so_far) next appended is here =
        let front : map string_bytes (take (i + 1) asks) ≡ map string_bytes (take i asks) ++ string_bytes text ∷ [] =
        ap (map string_bytes) next ∙ map-append string_bytes (take i asks) (text ∷ []) in
        let start = opening schema world user [] in
        let whole = replies_from schema world user start (ask_events (map string_bytes (take i asks)) so_far.endings) in
        record {
          first = map string_bytes (take i asks);
          next = string_bytes text;
          back = map string_bytes (drop (i + 1) asks);
          split =
              sym (ap (map string_bytes) (take-append-drop (i + 1) asks)) ∙ map-append string_bytes (take (i + 1) asks) (drop (i + 1) asks)
              ∙ ap (λ f. f ++ map string_bytes (drop (i + 1) asks)) front;
          whole = whole;
          one_each = replies_count schema world user start (map string_bytes (take i asks)) so_far.endings so_far.one_each;
          told = told;
          part = n;
          appended =
              appended ∙ ap (λ w. w ++ take n line) written ∙ append_assoc old output (take n line)
              ∙ ap (λ o. old ++ (o ++ take n line)) so_far.lines ∙ ap (λ l. old ++ (reply_lines whole ++ take n l)) is;
          answers = subst (λ a. AnswersCase schema world user a (reply_lines (whole ++ told ∷ []))) front
              (subst (AnswersCase schema world user (map string_bytes (take (i + 1) asks)))
              (ap (λ o. o ++ line) so_far.lines ∙ ap (λ l. reply_lines whole ++ l) is
              ∙ one_line whole told)
              (answers_asks schema world user is_open (map string_bytes (take (i + 1) asks)) (output ++ line) new
              (more asks i text output line history new told so_far next is here) empty runs of_schema hide valid is_user));
        }

-- an ask of a script is short
pub short_item : (asks items : List (String Global)) (i : ℕ) (text : String Global) → items ≡ asks → i < length items → text ≡ get_or items i text
    → list_all is_short (map string_bytes asks) ≡ true → length (string_bytes text) ≤ 4096
short_item asks items i text same low is all = at (is_short (string_bytes (get_or items i text))) refl
  where
    tests : list_all (λ t. is_short (string_bytes t)) items ≡ true
    tests = sym (list_all-map is_short string_bytes items) ∙ ap (λ l. list_all is_short (map string_bytes l)) same ∙ all

    at : (b : Bool) → is_short (string_bytes (get_or items i text)) ≡ b → length (string_bytes text) ≤ 4096
    at true e = let here : nat_le (length (string_bytes text)) 4096 ≡ true = ap (λ t. is_short (string_bytes t)) is ∙ e in grind (arith, here)
    at false e = let clash : true ≡ false = sym tests ∙ list_all_at (λ t. is_short (string_bytes t)) items i text low e in absurd cc

-- the asks so far with one more
pub next_item : (asks items : List (String Global)) (i : ℕ) (text : String Global) → items ≡ asks → i < length items → text ≡ get_or items i text
    → take (i + 1) asks ≡ take i asks ++ text ∷ []
next_item asks items i text same low is =
    subst (λ xs. take (i + 1) xs ≡ take i xs ++ text ∷ []) same (take_more items i text low ∙ ap (λ t. take i items ++ t ∷ []) (sym is))

-- what is told at a log is told in its schema, world and user
pub told_there : (is_open : Bool) (schema schema' : DatabaseSchema) (world world' : FactSet) (user user' : UserProfile) (history new : History)
    (text text' : Text) (told : Reply) → schema ≡ schema' → world ≡ world' → user ≡ user' → text ≡ text'
    → IsTold is_open schema world user history new text told → IsTold is_open schema' world' user' history new text' told
told_there is_open schema schema' world world' user user' history new text text' told a b c d here =
    subst (λ s. IsTold is_open s world' user' history new text' told) a (subst (λ w. IsTold is_open schema w user' history new text' told) b
    (subst (λ u. IsTold is_open schema world u history new text' told) c (subst (λ t. IsTold is_open schema world user history new t told) d here)))
