-- A session, from one line to the next and to its end.
use Rattle.std.proofs.Common.{◌≡◌, ◌⊎◌, inl, inr, ℕ, ◌≤◌, ◌<◌, ◌+◌, true, false, List, [], ◌∷◌, ◌++◌, length, take, refl, sym, ap, ◌∙◌, subst, append_assoc}
use Rattle.std.proofs.Common.{arith}
use Rattle.std.specs.Prelude.{◌≢◌, Option, None, Result, Ok, Err, OnOk, OnErr, IfSome, codes}
use Rattle.std.specs.List.{AllByRecursion}
use Rattle.std.proofs.lemmas.List.{append-nil, length-append}
use Rattle.outside.specs.Streams.{AppendsPart}
use Rattle.cqe_base.specs.Schema.{Text}
use Rattle.cqe_base.specs.Run.{Reply}
use Rattle.cqe_base.specs.declared.user.User.{User}
use Rattle.turnstile.specs.declared.pass.Pass.{Pass}
use Rattle.turnstile.specs.Passes.{turns}
use Rattle.desk_counter.specs.declared.item.TurnItem.{TurnItem}
use Rattle.desk_counter.specs.declared.item.Fixed.{Fixed}
use Rattle.line_protocol.specs.Reads.{TakesLine, BeginsTooLong}
use Rattle.line_protocol.specs.Replies.{text_of}
use Rattle.line_protocol.specs.Requests.{request_of}
use Rattle.line_protocol.specs.declared.reply.Reply.TheVariants.{Code}
use Rattle.session_core.specs.Heard.{HeardLine, heard, overlong, is_quit}
use Rattle.session_core.specs.Talks.{Answers, one_line, Talks, silent, unknown, written_lines}
use Rattle.session_core.specs.Desks.{AsksOf, schemas_of}
use Rattle.session_core.specs.Members.{AreDesksOf}
use Rattle.session_core.specs.Sessions.{Session, Spoken, Hears, Counts, Writes}
use Rattle.session_core.specs.declared.session.Ended.{Ended}
use Rattle.session_core.specs.declared.session.Ended.TheVariants.{Quit, InputEnd, TooLong, TooMany, ReadFault, WriteFault}
use Rattle.session_core.proofs.Talking.{talks_more, talks_few, written_more, written_one}
use Rattle.session_core.proofs.Hearing.{HeardSoFar, heard_none, heard_more, hears_quit, hears_cut, hears_fault, hears_many, hears_end, hears_long}
use Rattle.session_core.proofs.Hearing.{hears_long_cut}
use Rattle.session_core.proofs.Passing.{answers_then, of_turns, of_length}

-- a part of one line
pub cut_one : (before after : List ℕ) (text : Text) → AppendsPart before after (text ++ codes "\n") → Writes WriteFault before after (text ∷ [])
cut_one before after text part =
    (take part.0 (text ++ codes "\n"), record { front = []; last = text; split = refl; part = (part.0, part.1, refl) }, part.2)

-- lines were appended, and then a part of others
pub cut_behind : (before middle after : List ℕ) (texts said : List Text) → middle ≡ before ++ written_lines texts → Writes WriteFault middle after said
    → Writes WriteFault before after (texts ++ said)
cut_behind before middle after texts said is (written, cut, new) =
    let line = cut.last ++ codes "\n" in (
      written_lines texts ++ written,
      record {
        front = texts ++ cut.front;
        last = cut.last;
        split = ap (λ l. texts ++ l) cut.split ∙ sym (append_assoc texts cut.front (cut.last ∷ []));
        part = (
          cut.part.0,
          cut.part.1,
          ap (λ l. written_lines texts ++ l) cut.part.2 ∙ sym (append_assoc (written_lines texts) (written_lines cut.front) (take cut.part.0 line))
              ∙ ap (λ l. l ++ take cut.part.0 line) (sym (written_more texts cut.front)),
        );
      },
      new ∙ ap (λ m. m ++ written) is ∙ append_assoc before (written_lines texts) written,
    )

-- no end comes behind more lines than the greatest number
pub counts_few : (ended : Ended) (count : ℕ) → Counts ended count → count ≤ 100000
counts_few Quit count few = few
counts_few InputEnd count few = omega (arith, few)
counts_few TooLong count few = few
counts_few TooMany count few = omega (arith, few)
counts_few ReadFault count few = omega (arith, few)
counts_few WriteFault count few = few

module _ {D : Type 0} (S K : Type 0) (users : List User) (fixeds : List (Fixed D)) (bytes : List ℕ) (old : List (Pass TurnItem (Fixed D))) (before : List ℕ)
  where
    -- So many lines were answered, and the session goes on.
    pub record SoFar (left : List ℕ) (now : List (Pass TurnItem (Fixed D))) (after : List ℕ) (who : Option ℕ) (count : ℕ) : Type 0 where
      pub own : AreDesksOf users fixeds
      pub lines : List HeardLine
      pub asks : List (Text × Reply)
      pub texts : List Text
      pub talks : Talks users (schemas_of fixeds) None lines who asks texts true
      pub desks : AsksOf who fixeds old now asks
      pub hears : S → HeardSoFar bytes left lines
      pub writes : K → after ≡ before ++ written_lines texts
      pub many : length lines ≡ count

    pub nothing_yet : AreDesksOf users fixeds → (left : List ℕ) → left ≡ bytes → SoFar left old before None 0
    nothing_yet own left is = record {
      own = own;
      lines = [];
      asks = [];
      texts = [];
      talks = silent;
      desks = (refl, refl);
      hears = λ s. subst (λ l. HeardSoFar bytes l []) (sym is) (heard_none bytes);
      writes = λ k. sym (append-nil before);
      many = refl;
    }

    module _ (left : List ℕ) (now : List (Pass TurnItem (Fixed D))) (after : List ℕ) (who : Option ℕ) (count : ℕ) (so_far : SoFar left now after who count)
      where
        -- each pass has turns for the asks of one more line
        pub turns_left : count < 100000 → AllByRecursion (λ pass. 67108864 ≤ turns pass) old → AllByRecursion (λ pass. 512 ≤ turns pass) now
        turns_left few all =
            of_turns who fixeds old now so_far.asks 67108864 512 (omega (arith, few, so_far.many, talks_few users (schemas_of fixeds) so_far.talks))
            so_far.desks all

        ended_here : (ended : Ended) → Counts ended (length so_far.lines) → (S → Hears ended bytes so_far.lines) → (K → Writes ended before after so_far.texts)
            → Session S K users fixeds ended bytes old now before after
        ended_here ended counted hears writes =
            record {
              own = so_far.own;
              lines = so_far.lines;
              who = who;
              asks = so_far.asks;
              texts = so_far.texts;
              to_end = true;
              talks = so_far.talks;
              desks = so_far.desks;
              whole = λ _. refl;
              counted = counted;
              hears = hears;
              writes = writes;
            }

        -- the input is over
        pub ends_input : count < 100000 → (S → left ≡ []) → Session S K users fixeds InputEnd bytes old now before after
        ends_input few none =
            ended_here InputEnd (omega (arith, few, so_far.many)) (λ s.
            hears_end bytes left so_far.lines (so_far.hears s) (omega (arith, few, so_far.many)) (none s)) so_far.writes

        -- the source failed
        pub ends_read : count < 100000 → Session S K users fixeds ReadFault bytes old now before after
        ends_read few =
            ended_here ReadFault (omega (arith, few, so_far.many)) (λ s. hears_fault bytes left so_far.lines (so_far.hears s) (omega (arith, few, so_far.many)))
            so_far.writes

        -- the greatest number of lines was answered
        pub ends_many : 100000 ≤ count → count ≤ 100000 → Session S K users fixeds TooMany bytes old now before after
        ends_many far few =
            let many : length so_far.lines ≡ 100000 = omega (arith, far, few, so_far.many) in
            ended_here TooMany many (λ s. hears_many bytes left so_far.lines (so_far.hears s) many) so_far.writes

        -- a line was too long, and it was replied to or the sink failed
        module _ (afterwards : List ℕ) (within : IfSome who (λ place. place < length fixeds)) (many : length old ≡ length fixeds) (few : count < 100000)
            (begins : S → BeginsTooLong left) where
          long_talks : Talks users (schemas_of fixeds) None (so_far.lines ++ overlong ∷ []) who so_far.asks (so_far.texts ++ text_of (Code 26) ∷ []) true
          long_talks =
              subst (λ a. Talks users (schemas_of fixeds) None (so_far.lines ++ overlong ∷ []) who a (so_far.texts ++ text_of (Code 26) ∷ []) true)
              (append-nil so_far.asks) (talks_more users (schemas_of fixeds) overlong so_far.talks (one_line unknown))

          long_few : length (so_far.lines ++ overlong ∷ []) ≤ 100000
          long_few = let one_more = length-append so_far.lines (overlong ∷ []) in omega (arith, few, so_far.many, one_more)

          long_here : (ended : Ended) → Counts ended (length (so_far.lines ++ overlong ∷ [])) → (S → Hears ended bytes (so_far.lines ++ overlong ∷ []))
              → (K → Writes ended before afterwards (so_far.texts ++ text_of (Code 26) ∷ [])) → Session S K users fixeds ended bytes old now before afterwards
          long_here ended counted hears writes =
              record {
                own = so_far.own;
                lines = so_far.lines ++ overlong ∷ [];
                who = who;
                asks = so_far.asks;
                texts = so_far.texts ++ text_of (Code 26) ∷ [];
                to_end = true;
                talks = long_talks;
                desks = so_far.desks;
                whole = λ _. refl;
                counted = counted;
                hears = hears;
                writes = writes;
              }

          pub ends_long : (ended : Ended) → (ended ≡ TooLong) ⊎ (ended ≡ WriteFault)
              → (ended ≡ TooLong → K → afterwards ≡ after ++ (text_of (Code 26) ++ codes "\n"))
              → (ended ≡ WriteFault → K → AppendsPart after afterwards (text_of (Code 26) ++ codes "\n"))
              → Session S K users fixeds ended bytes old now before afterwards
          ends_long ended (inl is) whole part = subst (λ e. Session S K users fixeds e bytes old now before afterwards) (sym is)
              (long_here TooLong long_few (λ s. hears_long bytes left so_far.lines (so_far.hears s) (omega (arith, few, so_far.many)) (begins s))
              (λ k. whole is k ∙ ap (λ m. m ++ (text_of (Code 26) ++ codes "\n")) (so_far.writes k)
              ∙ append_assoc before (written_lines so_far.texts) (text_of (Code 26) ++ codes "\n")
              ∙ ap (λ l. before ++ (written_lines so_far.texts ++ l)) (sym (written_one (text_of (Code 26))))
              ∙ ap (λ l. before ++ l) (sym (written_more so_far.texts (text_of (Code 26) ∷ [])))))
          ends_long ended (inr is) whole part = subst (λ e. Session S K users fixeds e bytes old now before afterwards) (sym is)
              (long_here WriteFault long_few (λ s. hears_long_cut bytes left so_far.lines (so_far.hears s) (omega (arith, few, so_far.many)) (begins s))
              (λ k. cut_behind before after afterwards so_far.texts (text_of (Code 26) ∷ []) (so_far.writes k)
              (cut_one after afterwards (text_of (Code 26)) (part is k))))

        -- a line was taken and answered, or the sink failed
        module _ {T E : Type 0} (wrote : Result T E) (rest line : List ℕ) (next : Option ℕ) (then_now : List (Pass TurnItem (Fixed D))) (afterwards : List ℕ)
            (as_many : length users ≡ length fixeds) (many : length old ≡ length fixeds) (few : count < 100000) (takes : S → TakesLine left rest line)
            (spoken : Spoken K (Answers users (schemas_of fixeds) who (request_of line) next) (AsksOf who fixeds now then_now) wrote after afterwards) where
          more_desks : AsksOf next fixeds old then_now (so_far.asks ++ spoken.asked)
          more_desks = answers_then users (schemas_of fixeds) fixeds old now then_now so_far.asks as_many
              (of_length who fixeds old now so_far.asks so_far.desks ∙ many) so_far.desks spoken.said spoken.used

          more_talks : Talks users (schemas_of fixeds) None (so_far.lines ++ heard line ∷ []) next (so_far.asks ++ spoken.asked) (so_far.texts ++ spoken.texts)
              spoken.to_end
          more_talks = talks_more users (schemas_of fixeds) (heard line) so_far.talks spoken.said

          more_few : length (so_far.lines ++ heard line ∷ []) ≤ 100000
          more_few = let one_more = length-append so_far.lines (heard line ∷ []) in omega (arith, few, so_far.many, one_more)

          more_here : (ended : Ended) → (ended ≢ WriteFault → spoken.to_end ≡ true) → Counts ended (length (so_far.lines ++ heard line ∷ []))
              → (S → Hears ended bytes (so_far.lines ++ heard line ∷ [])) → (K → Writes ended before afterwards (so_far.texts ++ spoken.texts))
              → Session S K users fixeds ended bytes old then_now before afterwards
          more_here ended whole counted hears writes =
              record {
                own = so_far.own;
                lines = so_far.lines ++ heard line ∷ [];
                who = next;
                asks = so_far.asks ++ spoken.asked;
                texts = so_far.texts ++ spoken.texts;
                to_end = spoken.to_end;
                talks = more_talks;
                desks = more_desks;
                whole = whole;
                counted = counted;
                hears = hears;
                writes = writes;
              }

          -- all its lines were written
          module _ (value : T) (is : wrote ≡ Ok value) where
            all_said : spoken.to_end ≡ true
            all_said = subst (λ w. OnOk w (spoken.to_end ≡ true)) is spoken.whole

            more_writes : K → afterwards ≡ before ++ written_lines (so_far.texts ++ spoken.texts)
            more_writes k =
                subst (λ w. OnOk w (afterwards ≡ after ++ written_lines spoken.texts)) is (spoken.all k)
                ∙ ap (λ m. m ++ written_lines spoken.texts) (so_far.writes k) ∙ append_assoc before (written_lines so_far.texts) (written_lines spoken.texts)
                ∙ ap (λ l. before ++ l) (sym (written_more so_far.texts spoken.texts))

            -- and the session goes on
            pub goes_on_more : is_quit (request_of line) ≡ false → SoFar rest then_now afterwards next (count + 1)
            goes_on_more on = record {
              own = so_far.own;
              lines = so_far.lines ++ heard line ∷ [];
              asks = so_far.asks ++ spoken.asked;
              texts = so_far.texts ++ spoken.texts;
              talks = subst
                  (λ e. Talks users (schemas_of fixeds) None (so_far.lines ++ heard line ∷ []) next (so_far.asks ++ spoken.asked)
                  (so_far.texts ++ spoken.texts) e) all_said more_talks;
              desks = more_desks;
              hears = λ s. heard_more bytes left rest line so_far.lines (so_far.hears s) (takes s) on;
              writes = more_writes;
              many = length-append so_far.lines (heard line ∷ []) ∙ ap (λ n. n + 1) so_far.many;
            }

            -- or it was to quit
            pub ends_quit : is_quit (request_of line) ≡ true → Session S K users fixeds Quit bytes old then_now before afterwards
            ends_quit quit =
                more_here Quit (λ _. all_said) more_few
                (λ s. hears_quit bytes left rest line so_far.lines (so_far.hears s) (takes s) (omega (arith, few, so_far.many)) quit) more_writes

          -- or the sink failed
          pub ends_cut : (error : E) → wrote ≡ Err error → Session S K users fixeds WriteFault bytes old then_now before afterwards
          ends_cut error is =
              more_here WriteFault (λ other. absurd (other refl)) more_few
              (λ s. hears_cut bytes left rest line so_far.lines (so_far.hears s) (takes s) (omega (arith, few, so_far.many)))
              (λ k. cut_behind before after afterwards so_far.texts spoken.texts (so_far.writes k)
              (subst (λ w. OnErr w (Writes WriteFault after afterwards spoken.texts)) is (spoken.part k)))
