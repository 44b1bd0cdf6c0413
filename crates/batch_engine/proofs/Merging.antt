-- The asks of a stretch, each user's one after the other, put together in the order of the script.
use Rattle.std.proofs.Common.{◌≡◌, ℕ, suc, ◌+◌, ◌<◌, true, false, List, [], ◌∷◌, ◌++◌, length, map, refl, sym, ap, subst, ◌∙◌, arith}
use Rattle.std.specs.Prelude.{Option, Some, None, is_some, bytes_eq, if◌then◌else◌, ◌||◌}
use Rattle.std.specs.List.{list_any, flat_map, AllByRecursion}
use Rattle.std.specs.List.Sorted.{IsPermutation}
use Rattle.std.specs.Cmp.Lexicographic.{same_text}
use Rattle.std.proofs.lemmas.List.Elements.{All-from_recursion}
use Rattle.std.proofs.lemmas.List.Sorted.{IsPermutation-refl, IsPermutation-sym, IsPermutation-trans, IsPermutation-cons, IsPermutation-middle}
use Rattle.std.proofs.lemmas.List.Sorted.{IsPermutation-append_right}
use Rattle.outside.specs.declared.disk.Disk.{Ghosts as DiskGhosts}
use Rattle.cqe_base.specs.Schema.{Text, DatabaseSchema, has_duplicate}
use Rattle.cqe_base.specs.Facts.{FactSet}
use Rattle.cqe_base.specs.Run.{Reply}
use Rattle.cqe_base.specs.Transcript.{purpose_of}
use Rattle.cqe_base.specs.declared.user.User.{User}
use Rattle.cqe_base.proofs.Lists.{other_text}
use Rattle.cqe_base.proofs.Truths.{or_first, or_second}
use Rattle.desk_crew.specs.Crew.{seat_name, is_named, IsToldAt, Tells, nobody, here, further}
use Rattle.desk_crew.specs.Seats.{DeskSeat}
use Rattle.std.specs.Prelude.{string_bytes}
use Rattle.batch_engine.specs.Answers.{OwnRun, done, his, of_another, TellsEach, no_ask, next_ask, answer_to, answers_from, strangers_from, output_bytes}
use Rattle.batch_engine.specs.Answers.{says_broken}
use Rattle.batch_engine.specs.BatchLines.{NamedAsk, asked}
use Rattle.batch_engine.specs.Ordered.{AreNumbered}
use Rattle.batch_engine.specs.Steps.{Runs, nothing, more}
use Rattle.batch_engine.specs.declared.answer.Answer.{Answer}
use Rattle.batch_engine.proofs.Running.{runs_then}

-- all of these lists, one after the other
abbrev pub all_of : List (List Answer) → List Answer
all_of owns = flat_map (λ own. own) owns

-- the answer that one user gave, if one did
abbrev taken : ℕ → NamedAsk → Option Reply → List Answer
taken number ask None = []
taken number ask (Some reply) = answer_to number ask (Some reply) ∷ []

-- an answer in front of one list goes in front of the list behind another
front_on : (own rests owns : List Answer) (number : ℕ) (ask : NamedAsk) (reply : Option Reply) → IsPermutation (taken number ask reply ++ rests) owns
    → IsPermutation (taken number ask reply ++ (own ++ rests)) (own ++ owns)
front_on own rests owns number ask None moved = IsPermutation-append_right own rests owns moved
front_on own rests owns number ask (Some reply) moved =
    IsPermutation-trans _ _ _ (IsPermutation-sym _ _ (IsPermutation-middle own (answer_to number ask (Some reply)) rests))
    (IsPermutation-append_right own (answer_to number ask (Some reply) ∷ rests) owns moved)

-- one more answer at its place
add_answer : (number : ℕ) (ask : NamedAsk) (asks : List NamedAsk) (names : List Text) (reply : Option Reply) (answers rests owns : List Answer)
    → list_any (λ name. bytes_eq name ask.name) names ≡ is_some reply
    → IsPermutation answers (strangers_from (number + 1) asks names ++ rests) → IsPermutation (taken number ask reply ++ rests) owns
    → IsPermutation (answer_to number ask reply ∷ answers) (strangers_from number (ask ∷ asks) names ++ owns)
add_answer number ask asks names None answers rests owns known so_far moved =
    let strange = strangers_from (number + 1) asks names in
    subst (λ b. IsPermutation (answer_to number ask None ∷ answers) ((if b then strange else answer_to number ask None ∷ strange) ++ owns)) (sym known)
    (IsPermutation-cons (answer_to number ask None) answers (strange ++ owns)
    (IsPermutation-trans _ _ _ so_far (IsPermutation-append_right strange rests owns moved)))
add_answer number ask asks names (Some reply) answers rests owns known so_far moved =
    let strange = strangers_from (number + 1) asks names in
    let one = answer_to number ask (Some reply) in
    subst (λ b. IsPermutation (one ∷ answers) ((if b then strange else answer_to number ask None ∷ strange) ++ owns)) (sym known)
    (IsPermutation-trans _ _ _ (IsPermutation-cons one answers (strange ++ rests) so_far)
    (IsPermutation-trans _ _ _ (IsPermutation-sym _ _ (IsPermutation-middle strange one rests))
    (IsPermutation-append_right strange (one ∷ rests) owns moved)))

module _ (schema : DatabaseSchema) (world : FactSet) {D : Type 0} {g h : _} where
  -- the users' runs, side by side
  abbrev pub OwnRuns : ℕ → List NamedAsk → List (DeskSeat D g h) → List (DeskSeat D g h) → List (List Answer) → Type 0
  OwnRuns number asks [] [] [] = Unit {0}
  OwnRuns number asks (old ∷ olds) (new ∷ news) (own ∷ owns) = OwnRun schema world number asks old new own × OwnRuns number asks olds news owns
  OwnRuns number asks olds news owns = ⊥

  -- the names of the users stay
  kept_name : (number : ℕ) (asks : List NamedAsk) (old new : DeskSeat D g h) (own : List Answer) → OwnRun schema world number asks old new own
      → seat_name new ≡ seat_name old
  kept_name number asks old new own (done n seat) = refl
  kept_name number asks old new own (his n a rest old' mid new' reply answers named told run) =
      kept_name (number + 1) rest mid new answers run ∙ ap (λ (u : User). string_bytes u.name) told.user_is
  kept_name number asks old new own (of_another n a rest old' new' answers differs run) = kept_name (number + 1) rest old new answers run

  pub kept_names : (number : ℕ) (asks : List NamedAsk) (olds news : List (DeskSeat D g h)) (owns : List (List Answer))
      → OwnRuns number asks olds news owns → map seat_name news ≡ map seat_name olds
  kept_names number asks [] [] [] runs = refl
  kept_names number asks [] [] (own ∷ owns) runs = absurd runs
  kept_names number asks [] (new ∷ news) owns runs = absurd runs
  kept_names number asks (old ∷ olds) [] owns runs = absurd runs
  kept_names number asks (old ∷ olds) (new ∷ news) [] runs = absurd runs
  kept_names number asks (old ∷ olds) (new ∷ news) (own ∷ owns) runs =
      ap (λ n. n ∷ map seat_name news) (kept_name number asks old new own runs.0)
      ∙ ap (λ ns. seat_name old ∷ ns) (kept_names number asks olds news owns runs.1)

  -- each ask has one answer
  pub as_many : (number : ℕ) (asks : List NamedAsk) (old new : List (DeskSeat D g h)) (replies : List (Option Reply))
      → TellsEach schema world asks old new replies → length (answers_from number asks replies) ≡ length asks
  as_many number asks old new replies (no_ask seats) = refl
  as_many number asks old new replies (next_ask ask rest old' mid new' reply others tells each) = ap suc (as_many (number + 1) rest mid new others each)

  -- an ask that none of these users made changes nothing of them
  passed_one : (number : ℕ) (ask : NamedAsk) (asks : List NamedAsk) (old new : DeskSeat D g h) (own : List Answer) → is_named ask.name old ≡ false
      → OwnRun schema world number (ask ∷ asks) old new own → OwnRun schema world (number + 1) asks old new own
  passed_one number ask asks old new own other (his n a rest old' mid new' reply answers named told run) =
      let e : true ≡ false = sym named ∙ other in absurd cc
  passed_one number ask asks old new own other (of_another n a rest old' new' answers differs run) = run

  passed : (number : ℕ) (ask : NamedAsk) (asks : List NamedAsk) (olds news : List (DeskSeat D g h)) (owns : List (List Answer))
      → list_any (λ name. bytes_eq name ask.name) (map seat_name olds) ≡ false → OwnRuns number (ask ∷ asks) olds news owns
      → OwnRuns (number + 1) asks olds news owns
  passed number ask asks [] [] [] none runs = tt
  passed number ask asks [] [] (own ∷ owns) none runs = absurd runs
  passed number ask asks [] (new ∷ news) owns none runs = absurd runs
  passed number ask asks (old ∷ olds) [] owns none runs = absurd runs
  passed number ask asks (old ∷ olds) (new ∷ news) [] none runs = absurd runs
  passed number ask asks (old ∷ olds) (new ∷ news) (own ∷ owns) none runs = (
    passed_one number ask asks old new own (or_first _ _ none) runs.0,
    passed number ask asks olds news owns (or_second _ _ none) runs.1,
  )

  -- of users with names of their own, the others aren't named so
  others_unnamed : (name : Text) (old : DeskSeat D g h) (names : List Text) → is_named name old ≡ true → list_any (bytes_eq (seat_name old)) names ≡ false
      → list_any (λ n. bytes_eq n name) names ≡ false
  others_unnamed name old [] named none = refl
  others_unnamed name old (n ∷ names) named none =
      let same : seat_name old ≡ name = same_text (seat_name old) name (sym named) in
      let head : bytes_eq n name ≡ false = other_text name n (ap (λ m. bytes_eq m n) (sym same) ∙ or_first _ _ none) in
      ap (λ b. b || list_any (λ m. bytes_eq m name) names) head ∙ others_unnamed name old names named (or_second _ _ none)

  -- one ask at all seats: that of its user, if he is there
  record OneAsk (number : ℕ) (ask : NamedAsk) (asks : List NamedAsk) (olds news : List (DeskSeat D g h)) (owns : List (List Answer)) : Type 0 where
    mids : List (DeskSeat D g h)
    rests : List (List Answer)
    reply : Option Reply
    tells : Tells schema world ask.name (purpose_of ask.caller) ask.text olds mids reply
    runs : OwnRuns (number + 1) asks mids news rests
    known : list_any (λ name. bytes_eq name ask.name) (map seat_name olds) ≡ is_some reply
    names : map seat_name mids ≡ map seat_name olds
    moved : IsPermutation (taken number ask reply ++ all_of rests) (all_of owns)

  told_first : (number : ℕ) (ask : NamedAsk) (asks : List NamedAsk) (old new : DeskSeat D g h) (own : List Answer) (olds news : List (DeskSeat D g h))
      (owns : List (List Answer)) → has_duplicate (map seat_name (old ∷ olds)) ≡ false → OwnRun schema world number (ask ∷ asks) old new own
      → OwnRuns number (ask ∷ asks) olds news owns → (is_named ask.name old ≡ false → OneAsk number ask asks olds news owns)
      → OneAsk number ask asks (old ∷ olds) (new ∷ news) (own ∷ owns)
  told_first number ask asks old new own olds news owns distinct (his n a rest old' mid new' reply answers named told run) runs others =
      let none : list_any (λ name. bytes_eq name ask.name) (map seat_name olds) ≡ false =
      others_unnamed ask.name old (map seat_name olds) named (or_first _ _ distinct) in
      record {
        mids = mid ∷ olds;
        rests = answers ∷ owns;
        reply = Some reply;
        tells = here named told;
        runs = (run, passed number ask asks olds news owns none runs);
        known = ap (λ b. b || list_any (λ name. bytes_eq name ask.name) (map seat_name olds)) named;
        names = ap (λ (u : User). string_bytes u.name ∷ map seat_name olds) told.user_is;
        moved = IsPermutation-refl (answer_to number ask (Some reply) ∷ (answers ++ all_of owns));
      }
  told_first number ask asks old new own olds news owns distinct (of_another n a rest old' new' answers differs run) runs others =
      let one : OneAsk number ask asks olds news owns = others differs in
      record {
        mids = old ∷ one.mids;
        rests = own ∷ one.rests;
        reply = one.reply;
        tells = further differs one.tells;
        runs = (run, one.runs);
        known = ap (λ b. b || list_any (λ name. bytes_eq name ask.name) (map seat_name olds)) differs ∙ one.known;
        names = ap (λ ns. seat_name old ∷ ns) one.names;
        moved = front_on own (all_of one.rests) (all_of owns) number ask one.reply one.moved;
      }

  one_ask : (number : ℕ) (ask : NamedAsk) (asks : List NamedAsk) (olds news : List (DeskSeat D g h)) (owns : List (List Answer))
      → has_duplicate (map seat_name olds) ≡ false → OwnRuns number (ask ∷ asks) olds news owns → OneAsk number ask asks olds news owns
  one_ask number ask asks [] [] [] distinct runs =
      record { mids = []; rests = []; reply = None; tells = nobody; runs = tt; known = refl; names = refl; moved = IsPermutation-refl [] }
  one_ask number ask asks [] [] (own ∷ owns) distinct runs = absurd runs
  one_ask number ask asks [] (new ∷ news) owns distinct runs = absurd runs
  one_ask number ask asks (old ∷ olds) [] owns distinct runs = absurd runs
  one_ask number ask asks (old ∷ olds) (new ∷ news) [] distinct runs = absurd runs
  one_ask number ask asks (old ∷ olds) (new ∷ news) (own ∷ owns) distinct runs =
      told_first number ask asks old new own olds news owns distinct runs.0 runs.1
      (λ differs. one_ask number ask asks olds news owns (or_second _ _ distinct) runs.1)

  -- without asks nothing was done
  idle_one : (number : ℕ) (old new : DeskSeat D g h) (own : List Answer) → OwnRun schema world number [] old new own → (new ≡ old) × (own ≡ [])
  idle_one number old new own (done n seat) = (refl, refl)

  idle : (number : ℕ) (olds news : List (DeskSeat D g h)) (owns : List (List Answer)) → OwnRuns number [] olds news owns → (news ≡ olds) × (all_of owns ≡ [])
  idle number [] [] [] runs = (refl, refl)
  idle number [] [] (own ∷ owns) runs = absurd runs
  idle number [] (new ∷ news) owns runs = absurd runs
  idle number (old ∷ olds) [] owns runs = absurd runs
  idle number (old ∷ olds) (new ∷ news) [] runs = absurd runs
  idle number (old ∷ olds) (new ∷ news) (own ∷ owns) runs =
      let one = idle_one number old new own runs.0 in
      let rest = idle number olds news owns runs.1 in
      (λ i. one.0 i ∷ rest.0 i, ap (λ l. l ++ all_of owns) one.1 ∙ rest.1)

  -- the answers of all users and those to strangers are the answers to all asks, in some order
  pub record Merged (number : ℕ) (asks : List NamedAsk) (olds news : List (DeskSeat D g h)) (owns : List (List Answer)) : Type 0 where
    pub replies : List (Option Reply)
    pub each : TellsEach schema world asks olds news replies
    pub moved : IsPermutation (answers_from number asks replies) (strangers_from number asks (map seat_name olds) ++ all_of owns)

  pub merged : (asks : List NamedAsk) (number : ℕ) (olds news : List (DeskSeat D g h)) (owns : List (List Answer))
      → has_duplicate (map seat_name olds) ≡ false → OwnRuns number asks olds news owns → Merged number asks olds news owns
  merged [] number olds news owns distinct runs =
      let none = idle number olds news owns runs in
      record {
        replies = [];
        each = subst (λ l. TellsEach schema world [] olds l []) (sym none.0) (no_ask olds);
        moved = subst (IsPermutation []) (sym none.1) (IsPermutation-refl []);
      }
  merged (ask ∷ asks) number olds news owns distinct runs =
      let one : OneAsk number ask asks olds news owns = one_ask number ask asks olds news owns distinct runs in
      let rest : Merged (number + 1) asks one.mids news one.rests =
      merged asks (number + 1) one.mids news one.rests (ap has_duplicate one.names ∙ distinct) one.runs in
      record {
        replies = one.reply ∷ rest.replies;
        each = next_ask ask asks olds one.mids news one.reply rest.replies one.tells rest.each;
        moved = add_answer number ask asks (map seat_name olds) one.reply (answers_from (number + 1) asks rest.replies) (all_of one.rests) (all_of owns)
            one.known
            (subst (λ ns. IsPermutation (answers_from (number + 1) asks rest.replies) (strangers_from (number + 1) asks ns ++ all_of one.rests)) one.names
            rest.moved) one.moved;
      }

  -- ---- one more ask at the end of a user's run

  pub own_more : (number : ℕ) (asks : List NamedAsk) (ask : NamedAsk) (old mid new : DeskSeat D g h) (reply : Reply) (answers : List Answer)
      → OwnRun schema world number asks old mid answers → is_named ask.name mid ≡ true → IsToldAt schema world (purpose_of ask.caller) ask.text reply mid
      new
      → OwnRun schema world number (asks ++ ask ∷ []) old new (answers ++ answer_to (number + length asks) ask (Some reply) ∷ [])
  own_more number asks ask old mid new reply answers (done n seat) named told =
      let same : number ≡ number + 0 = omega arith in
      subst (λ k. OwnRun schema world number (ask ∷ []) old new (answer_to k ask (Some reply) ∷ [])) same
      (his number ask [] old new new reply [] named told (done (number + 1) new))
  own_more number asks ask old mid new reply answers (his n a rest old' middle mid' first own is first_told run) named told =
      let same : (number + 1) + length rest ≡ number + length (a ∷ rest) = omega arith in
      his number a (rest ++ ask ∷ []) old middle new first _ is first_told
      (subst (λ k. OwnRun schema world (number + 1) (rest ++ ask ∷ []) middle new (own ++ answer_to k ask (Some reply) ∷ [])) same
      (own_more (number + 1) rest ask middle mid new reply own run named told))
  own_more number asks ask old mid new reply answers (of_another n a rest old' mid' own differs run) named told =
      let same : (number + 1) + length rest ≡ number + length (a ∷ rest) = omega arith in
      of_another number a (rest ++ ask ∷ []) old new _ differs
      (subst (λ k. OwnRun schema world (number + 1) (rest ++ ask ∷ []) old new (own ++ answer_to k ask (Some reply) ∷ [])) same
      (own_more (number + 1) rest ask old mid new reply own run named told))

  pub own_passed : (number : ℕ) (asks : List NamedAsk) (ask : NamedAsk) (old new : DeskSeat D g h) (answers : List Answer)
      → OwnRun schema world number asks old new answers → is_named ask.name new ≡ false
      → OwnRun schema world number (asks ++ ask ∷ []) old new answers
  own_passed number asks ask old new answers (done n seat) differs = of_another number ask [] old new [] differs (done (number + 1) new)
  own_passed number asks ask old new answers (his n a rest old' mid new' reply own is told run) differs =
      his number a (rest ++ ask ∷ []) old mid new reply own is told (own_passed (number + 1) rest ask mid new own run differs)
  own_passed number asks ask old new answers (of_another n a rest old' new' own is run) differs =
      of_another number a (rest ++ ask ∷ []) old new own is (own_passed (number + 1) rest ask old new own run differs)

  -- ---- asks that were answered are carried out

  module _ (header : List ℕ) (Disk : DiskGhosts D) where
    pub told_runs : (number : ℕ) (asks : List NamedAsk) (old new : List (DeskSeat D g h)) (replies : List (Option Reply))
        → TellsEach schema world asks old new replies
        → Runs schema world header Disk (map asked asks) old (output_bytes (answers_from number asks replies)) new
        (says_broken (answers_from number asks replies))
    told_runs number asks old new replies (no_ask seats) = nothing old
    told_runs number asks old new replies (next_ask ask rest old' mid new' reply others tells each) =
        let one = answer_to number ask reply in
        runs_then schema world header Disk (asked ask ∷ []) (map asked rest) old mid new one.line
        (output_bytes (answers_from (number + 1) rest others)) one.is_broken (says_broken (answers_from (number + 1) rest others))
        (more [] old old mid [] one.line false one.is_broken (asked ask) (nothing old) (reply, tells, refl, refl))
        (told_runs (number + 1) rest mid new others each)

-- ---- numbers

answers_above : (n number : ℕ) (asks : List NamedAsk) (replies : List (Option Reply)) → n < number
    → AllByRecursion (λ (a : Answer). n < a.number) (answers_from number asks replies)
answers_above n number [] replies low = tt
answers_above n number (ask ∷ asks) [] low = tt
answers_above n number (ask ∷ asks) (reply ∷ replies) low = (low, answers_above n (number + 1) asks replies (omega (arith, low)))

pub answers_numbered : (number : ℕ) (asks : List NamedAsk) (replies : List (Option Reply)) → AreNumbered (answers_from number asks replies)
answers_numbered number [] replies = tt
answers_numbered number (ask ∷ asks) [] = tt
answers_numbered number (ask ∷ asks) (reply ∷ replies) = (
  All-from_recursion (λ (a : Answer). number < a.number) (answers_from (number + 1) asks replies)
      (answers_above number (number + 1) asks replies (omega arith)),
  answers_numbered (number + 1) asks replies,
)
