-- Lists, from one instance to the next, and lines that are said.
use Rattle.std.proofs.Common.{◌≡◌, ℕ, zero, suc, ◌≤◌, ◌<◌, ◌+◌, Bool, true, false, List, [], ◌∷◌, ◌++◌, map, length, drop, get_or, refl, sym, ap}
use Rattle.std.proofs.Common.{◌∙◌, subst, append_assoc, arith}
use Rattle.std.specs.Prelude.{Option, Some, Result, Ok, Err, OnOk, OnErr, slice_get, codes}
use Rattle.std.specs.List.{AllByRecursion}
use Rattle.std.proofs.lemmas.List.{append-nil, length-append}
use Rattle.outside.specs.Streams.{AppendsPart}
use Rattle.outside.proofs.Streams.{part_appended}
use Rattle.cqe_base.specs.Schema.{DatabaseSchema, Text}
use Rattle.cqe_base.specs.Run.{Reply}
use Rattle.cqe_base.specs.Truth.{constant_at}
use Rattle.cqe_base.specs.Canonical.{constant_name}
use Rattle.cqe_base.specs.declared.user.User.{User}
use Rattle.turnstile.specs.declared.pass.Pass.{Pass}
use Rattle.turnstile.specs.Passes.{turns}
use Rattle.desk_counter.specs.declared.item.TurnItem.{TurnItem}
use Rattle.desk_counter.specs.declared.item.Fixed.{Fixed}
use Rattle.desk_counter.specs.declared.ticketed_desk.TicketedDesk.{TicketedDesk}
use Rattle.desk_counter.specs.declared.counter.CounterOf.{CounterOf}
use Rattle.desk_counter.specs.Counters.{kept_by}
use Rattle.open_queries.specs.Instances.{OpenQuery, instances, chosen}
use Rattle.line_protocol.specs.Replies.{text_of, spaced}
use Rattle.line_protocol.specs.Requests.{LineRequest, list_for}
use Rattle.line_protocol.specs.declared.reply.Reply.TheVariants.{Done}
use Rattle.session_core.specs.Lists.{SaysInstance, SaysInstances, done, broken_off, next, names_of}
use Rattle.session_core.specs.Talks.{Answers, written_lines}
use Rattle.session_core.specs.Desks.{AsksAt, AsksOf, schemas_of}
use Rattle.session_core.specs.Asked.{IsListBy, IsInstanceSaid}
use Rattle.session_core.specs.Sessions.{Spoken, Writes}
use Rattle.session_core.specs.declared.session.Ended.TheVariants.{WriteFault}
use Rattle.session_core.proofs.Talking.{instance_few, written_more, written_one}
use Rattle.session_core.proofs.Passing.{at_nothing, at_then, at_turns}
use Rattle.session_core.proofs.Serving.{cut_one, cut_behind}

-- ---- what holds of a result

pub on_ok : {T E P Q : Type 0} (r : Result T E) → (P → Q) → OnOk r P → OnOk r Q
on_ok (Ok x) f p = f p
on_ok (Err e) f p = tt

pub on_err : {T E P Q : Type 0} (r : Result T E) → (P → Q) → OnErr r P → OnErr r Q
on_err (Ok x) f p = tt
on_err (Err e) f p = f p

ok_always : {T E P : Type 0} (r : Result T E) → P → OnOk r P
ok_always (Ok x) p = p
ok_always (Err e) p = tt

-- ---- lines that are said

module _ {T E : Type 0} (K : Type 0) {Says : List (Text × Reply) → List Text → Bool → Type 0} {Uses : List (Text × Reply) → Type 0}
    (wrote : Result T E) (before after : List ℕ) where
  -- one line
  pub one_spoken : (asked : List (Text × Reply)) (text : Text) → Says asked (text ∷ []) true → Uses asked
      → (K → OnOk wrote (after ≡ before ++ (text ++ codes "\n"))) → (K → OnErr wrote (AppendsPart before after (text ++ codes "\n")))
      → Spoken K Says Uses wrote before after
  one_spoken asked text said used all part = record {
    asked = asked;
    texts = text ∷ [];
    to_end = true;
    said = said;
    used = used;
    whole = ok_always wrote refl;
    all = λ k. on_ok wrote (λ is. is ∙ ap (λ l. before ++ l) (sym (written_one text))) (all k);
    part = λ k. on_err wrote (cut_one before after text) (part k);
  }

  -- the same lines, in other words
  pub spoken_as : {Says' : List (Text × Reply) → List Text → Bool → Type 0} {Uses' : List (Text × Reply) → Type 0}
      → ((asked : List (Text × Reply)) (texts : List Text) (to_end : Bool) → Says asked texts to_end → Says' asked texts to_end)
      → ((asked : List (Text × Reply)) → Uses asked → Uses' asked) → Spoken K Says Uses wrote before after → Spoken K Says' Uses' wrote before after
  spoken_as says uses spoken = record {
    asked = spoken.asked;
    texts = spoken.texts;
    to_end = spoken.to_end;
    said = says spoken.asked spoken.texts spoken.to_end spoken.said;
    used = uses spoken.asked spoken.used;
    whole = spoken.whole;
    all = spoken.all;
    part = spoken.part;
  }

-- ---- the list of who is logged in

module _ {D : Type 0} (users : List User) (fixeds : List (Fixed D)) (who : Option ℕ) (request : LineRequest) (after : Option ℕ) (place count : ℕ) (text : Text)
    (old mid new : List (Pass TurnItem (Fixed D))) (is : IsListBy who request after place count text old mid) where
  pub list_answers : (asked : List (Text × Reply)) (texts : List Text) (to_end : Bool)
      → Answers users (schemas_of fixeds) (Some place) (list_for count text) (Some place) asked texts to_end
      → Answers users (schemas_of fixeds) who request after asked texts to_end
  list_answers asked texts to_end answers =
      subst (λ w. Answers users (schemas_of fixeds) w request after asked texts to_end) (sym is.who_is)
      (subst (λ r. Answers users (schemas_of fixeds) (Some place) r after asked texts to_end) (sym is.request_is)
      (subst (λ n. Answers users (schemas_of fixeds) (Some place) (list_for count text) n asked texts to_end) (sym is.next_is) answers))

  pub list_used : (asked : List (Text × Reply)) → AsksAt place fixeds mid new asked → AsksOf who fixeds old new asked
  list_used asked used =
      subst (λ w. AsksOf w fixeds old new asked) (sym is.who_is) (subst (λ ps. AsksAt place fixeds ps new asked) is.same used)

-- the schema of the desk at a place
pub schema_at : {D : Type 0} {g h : _} (counters : List (CounterOf (TicketedDesk D g) TurnItem (Fixed D) h)) (place : ℕ)
    (counter : CounterOf (TicketedDesk D g) TurnItem (Fixed D) h) (schema : DatabaseSchema) → place < length counters
    → counter ≡ get_or counters place counter → schema ≡ (kept_by counter).schema → slice_get (schemas_of (map kept_by counters)) place ≡ Some schema
schema_at [] place counter schema low is of = absurd (omega (arith, low))
schema_at (d ∷ counters) zero counter schema low is of = ap Some (sym (of ∙ ap (λ e. (kept_by e).schema) is))
schema_at (d ∷ counters) (suc place) counter schema low is of = schema_at counters place counter schema (omega (arith, low)) is of

-- ---- from one instance to the next

module _ (schema : DatabaseSchema) (query : OpenQuery) where
  -- lines before those from an instance on
  abbrev Front : ℕ → List (Text × Reply) → List Text → Type 0
  Front number asks texts =
      (asks' : List (Text × Reply)) (texts' : List Text) (to_end : Bool)
      → SaysInstances schema query number asks' texts' to_end → SaysInstances schema query 0 (asks ++ asks') (texts ++ texts') to_end

  front_more : (number : ℕ) (asks asked : List (Text × Reply)) (texts : List Text) (text : Text) → Front number asks texts
      → SaysInstance schema query number asked text → Front (number + 1) (asks ++ asked) (texts ++ text ∷ [])
  front_more number asks asked texts text front said asks' texts' to_end more =
      let one : suc number ≡ number + 1 = omega arith in
      subst (λ a. SaysInstances schema query 0 a ((texts ++ text ∷ []) ++ texts') to_end) (sym (append_assoc asks asked asks'))
      (subst (λ t. SaysInstances schema query 0 (asks ++ (asked ++ asks')) t to_end) (sym (append_assoc texts (text ∷ []) texts'))
      (front (asked ++ asks') (text ∷ texts') to_end
      (next said (subst (λ n. SaysInstances schema query n asks' texts' to_end) (sym one) more))))

  module _ {D : Type 0} (K : Type 0) (place : ℕ) (fixeds : List (Fixed D)) (old : List (Pass TurnItem (Fixed D))) (before : List ℕ) where
    -- The instances below this number were asked, and their lines were written.
    pub record SoFarAsked (now : List (Pass TurnItem (Fixed D))) (after : List ℕ) (number : ℕ) : Type 0 where
      pub asks : List (Text × Reply)
      pub texts : List Text
      pub front : Front number asks texts
      pub used : AsksAt place fixeds old now asks
      pub few : length asks ≤ number
      pub writes : K → after ≡ before ++ written_lines texts

    pub none_asked : place < length fixeds → length old ≡ length fixeds → SoFarAsked old before 0
    none_asked low many = record {
      asks = [];
      texts = [];
      front = λ asks' texts' to_end says. says;
      used = at_nothing place fixeds old low many;
      few = omega arith;
      writes = λ k. sym (append-nil before);
    }

    module _ (now : List (Pass TurnItem (Fixed D))) (after : List ℕ) (number : ℕ) (so_far : SoFarAsked now after number) where
      -- the pass has turns for one more
      pub turns_for_one : number < 256 → AllByRecursion (λ pass. 512 ≤ turns pass) old → AllByRecursion (λ pass. 2 ≤ turns pass) now
      turns_for_one low all = at_turns 512 2 (omega (arith, low, so_far.few)) so_far.used all

      module _ {T E : Type 0} (then_now : List (Pass TurnItem (Fixed D))) (afterwards : List ℕ) where
        -- one more was asked
        pub one_asked : (value : T) → IsInstanceSaid {T = T} {E = E} K schema query number place fixeds (Ok value) now then_now after afterwards
            → SoFarAsked then_now afterwards (number + 1)
        one_asked value said = record {
          asks = so_far.asks ++ said.asked;
          texts = so_far.texts ++ said.text ∷ [];
          front = front_more number so_far.asks said.asked so_far.texts said.text so_far.front said.said;
          used = at_then so_far.used said.used;
          few = let both = length-append so_far.asks said.asked in omega (arith, both, so_far.few, instance_few schema query said.said);
          writes = λ k.
              said.all k ∙ ap (λ m. m ++ (said.text ++ codes "\n")) (so_far.writes k)
              ∙ append_assoc before (written_lines so_far.texts) (said.text ++ codes "\n")
              ∙ ap (λ l. before ++ (written_lines so_far.texts ++ l)) (sym (written_one said.text))
              ∙ ap (λ l. before ++ l) (sym (written_more so_far.texts (said.text ∷ [])));
        }

        -- or its line was cut
        pub cut_asked : {V : Type 0} (error failed : E) → number < instances schema query
            → IsInstanceSaid {T = T} {E = E} K schema query number place fixeds (Err error) now then_now after afterwards
            → Spoken {T = V} {E = E} K (SaysInstances schema query 0) (AsksAt place fixeds old then_now) (Err failed) before afterwards
        cut_asked error failed low said = record {
          asked = so_far.asks ++ said.asked;
          texts = so_far.texts ++ said.text ∷ [];
          to_end = false;
          said = so_far.front said.asked (said.text ∷ []) false (broken_off low said.said);
          used = at_then so_far.used said.used;
          whole = tt;
          all = λ k. tt;
          part = λ k. cut_behind before after afterwards so_far.texts (said.text ∷ []) (so_far.writes k) (cut_one after afterwards said.text (said.part k));
        }

      -- all were asked, and the last line was written or cut
      pub all_asked : {T E : Type 0} (wrote : Result T E) (afterwards : List ℕ) (count : ℕ) → number ≡ count → count ≡ instances schema query
          → (K → OnOk wrote (afterwards ≡ after ++ (text_of (Done count) ++ codes "\n")))
          → (K → OnErr wrote (AppendsPart after afterwards (text_of (Done count) ++ codes "\n")))
          → Spoken K (SaysInstances schema query 0) (AsksAt place fixeds old now) wrote before afterwards
      all_asked wrote afterwards count is of all part =
          let text = text_of (Done count) in
          let last : SaysInstances schema query number [] (text ∷ []) true =
          subst (λ n. SaysInstances schema query n [] (text ∷ []) true) (sym is)
          (subst (λ n. SaysInstances schema query n [] (text_of (Done n) ∷ []) true) (sym of) done) in
          record {
            asked = so_far.asks ++ [];
            texts = so_far.texts ++ text ∷ [];
            to_end = true;
            said = so_far.front [] (text ∷ []) true last;
            used = subst (λ a. AsksAt place fixeds old now a) (sym (append-nil so_far.asks)) so_far.used;
            whole = ok_always wrote refl;
            all = λ k. on_ok wrote (λ new.
                new ∙ ap (λ m. m ++ (text ++ codes "\n")) (so_far.writes k) ∙ append_assoc before (written_lines so_far.texts) (text ++ codes "\n")
                ∙ ap (λ l. before ++ (written_lines so_far.texts ++ l)) (sym (written_one text))
                ∙ ap (λ l. before ++ l) (sym (written_more so_far.texts (text ∷ [])))) (all k);
            part = λ k. on_err wrote (λ cut.
                cut_behind before after afterwards so_far.texts (text ∷ []) (so_far.writes k) (cut_one after afterwards text cut)) (part k);
          }

-- ---- names, and what stands behind them

module _ (names text old mid new : List ℕ) where
  -- both were written
  pub both_written : mid ≡ old ++ names → new ≡ mid ++ (text ++ codes "\n") → new ≡ old ++ ((names ++ text) ++ codes "\n")
  both_written first second =
      second ∙ ap (λ m. m ++ (text ++ codes "\n")) first ∙ append_assoc old names (text ++ codes "\n")
      ∙ ap (λ l. old ++ l) (sym (append_assoc names text (codes "\n")))

  both_parts : names ++ ((text ++ codes "\n") ++ []) ≡ (names ++ text) ++ codes "\n"
  both_parts = ap (λ l. names ++ l) (append-nil (text ++ codes "\n")) ∙ sym (append_assoc names text (codes "\n"))

  -- the second was cut
  pub second_cut : mid ≡ old ++ names → AppendsPart mid new (text ++ codes "\n") → AppendsPart old new ((names ++ text) ++ codes "\n")
  second_cut first part =
      subst (AppendsPart old new) both_parts
      (part_appended (λ (l : List ℕ). l) (names ∷ (text ++ codes "\n") ∷ []) 1 (text ++ codes "\n") old mid new (omega arith) refl
      (first ∙ ap (λ l. old ++ l) (sym (append-nil names))) part)

  -- the first was
  pub first_cut : AppendsPart old new names → AppendsPart old new ((names ++ text) ++ codes "\n")
  first_cut part =
      subst (AppendsPart old new) both_parts
      (part_appended (λ (l : List ℕ). l) (names ∷ (text ++ codes "\n") ∷ []) 0 names old old new (omega arith) refl (sym (append-nil old)) part)

-- ---- the names of constants, one after the other

next_chosen : (domains indices : List ℕ) (k d i : ℕ) → k < length domains → k < length indices → d ≡ get_or domains k d → i ≡ get_or indices k i
    → chosen (drop k domains) (drop k indices) ≡ constant_at d i ∷ chosen (drop (suc k) domains) (drop (suc k) indices)
next_chosen [] indices k d i low low' is is' = absurd (omega (arith, low))
next_chosen (x ∷ domains) [] k d i low low' is is' = absurd (omega (arith, low'))
next_chosen (x ∷ domains) (y ∷ indices) zero d i low low' is is' =
    ap (λ a. constant_at a y ∷ chosen domains indices) (sym is) ∙ ap (λ b. constant_at d b ∷ chosen domains indices) (sym is')
next_chosen (x ∷ domains) (y ∷ indices) (suc k) d i low low' is is' =
    next_chosen domains indices k d i (omega (arith, low)) (omega (arith, low')) is is'

module _ {X : Type 0} (schema : DatabaseSchema) (domains indices : List ℕ) (yielded : List X) (x : X) (d i : ℕ) (low : length yielded < length domains)
    (low' : length yielded < length indices) (is : d ≡ get_or domains (length yielded) d) (is' : i ≡ get_or indices (length yielded) i) where
  abbrev rest_from : ℕ → Text
  rest_from k = names_of schema (chosen (drop k domains) (drop k indices))

  -- the names that are left begin with the next
  names_next : rest_from (length yielded) ≡ spaced (constant_name schema (constant_at d i)) ++ rest_from (length (yielded ++ x ∷ []))
  names_next =
      let one : suc (length yielded) ≡ length (yielded ++ x ∷ []) = omega (arith, length-append yielded (x ∷ [])) in
      ap (names_of schema) (next_chosen domains indices (length yielded) d i low low' is is')
      ∙ ap (λ k. spaced (constant_name schema (constant_at d i)) ++ rest_from k) one

  -- one more name was written
  name_more : (name all begun : List ℕ) → name ≡ constant_name schema (constant_at d i) → begun ++ rest_from (length yielded) ≡ all
      → (begun ++ spaced name) ++ rest_from (length (yielded ++ x ∷ [])) ≡ all
  name_more name all begun named whole =
      let rest = rest_from (length (yielded ++ x ∷ [])) in
      append_assoc begun (spaced name) rest ∙ ap (λ n. begun ++ (spaced n ++ rest)) named ∙ ap (λ l. begun ++ l) (sym names_next) ∙ whole

  pub name_written : (name all old mid new begun : List ℕ) → name ≡ constant_name schema (constant_at d i) → mid ≡ old ++ begun
      → begun ++ rest_from (length yielded) ≡ all → new ≡ mid ++ spaced name
      → (more : List ℕ) × (more ++ rest_from (length (yielded ++ x ∷ [])) ≡ all) × (new ≡ old ++ more)
  name_written name all old mid new begun named so_far whole wrote =
      (begun ++ spaced name, name_more name all begun named whole, wrote ∙ ap (λ m. m ++ spaced name) so_far ∙ append_assoc old begun (spaced name))

  -- it was cut
  pub name_cut : (name all old mid new begun : List ℕ) → name ≡ constant_name schema (constant_at d i) → mid ≡ old ++ begun
      → begun ++ rest_from (length yielded) ≡ all → AppendsPart mid new (spaced name) → AppendsPart old new all
  name_cut name all old mid new begun named so_far whole part =
      let rest = rest_from (length (yielded ++ x ∷ [])) in
      let parts : begun ++ (spaced name ++ (rest ++ [])) ≡ all =
      ap (λ l. begun ++ (spaced name ++ l)) (append-nil rest) ∙ sym (append_assoc begun (spaced name) rest) ∙ name_more name all begun named whole in
      subst (AppendsPart old new) parts
      (part_appended (λ (l : List ℕ). l) (begun ∷ spaced name ∷ rest ∷ []) 1 (spaced name) old mid new (omega arith) refl
      (so_far ∙ ap (λ l. old ++ l) (sym (append-nil begun))) part)
