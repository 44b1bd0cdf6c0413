-- The replies to one user, put together.
use Rattle.std.proofs.Common.{◌≡◌, ℕ, ◌≤◌, ◌+◌, Bool, true, false, List, [], ◌∷◌, ◌++◌, length, map, refl, sym, ap, ◌∙◌, subst, append_assoc, arith}
use Rattle.std.specs.Prelude.{Option, Some, None, is_some, option_to_list}
use Rattle.std.specs.Option.{option_or}
use Rattle.std.proofs.lemmas.List.{append-nil, length-append, map-append}
use Rattle.cqe_base.specs.declared.user.Purpose.TheVariants.{Asking}
use Rattle.cqe_base.specs.Schema.{DatabaseSchema, Text}
use Rattle.cqe_base.specs.Facts.{FactSet}
use Rattle.cqe_base.specs.History.{UserProfile, AnsweredQuery, History}
use Rattle.cqe_base.specs.Run
use Rattle.cqe_base.specs.Run.{Standing, reply}
use Rattle.turnstile.specs.declared.pass.Pass.{Pass}
use Rattle.turnstile.specs.History.{Entries, IsPrefix}
use Rattle.turnstile.specs.Passes.{seen, mine, shares, turns}
use Rattle.user_log.specs.Replies.{reply_of}
use Rattle.user_log.specs.declared.reply.Reply.{Reply}
use Rattle.user_log.specs.declared.reply.Reply.TheVariants.{Mark, Syntax, Full, Size, Closed, Sealed, Broken, Memory, Secrets, Unsafe}
use Rattle.user_desk.specs.Standings.{standing_of}
use Rattle.desk_counter.specs.declared.item.TurnItem.{TurnItem}
use Rattle.desk_counter.specs.declared.item.TurnItem.TheVariants.{Kept, Broke}
use Rattle.desk_counter.specs.declared.item.Fixed.{Fixed}
use Rattle.desk_counter.specs.Items.{history_of, flying, has_broke, items_of, items_with, is_broke_last, BrokeIsLast}
use Rattle.desk_counter.specs.Asks.{entry_for, NoMark, Adds, answered as adds_answered, broke as adds_broke, coded as adds_coded, wanted as adds_wanted, Asked}
use Rattle.desk_counter.proofs.Asking.{flying_broke}
use Rattle.desk_counter.proofs.Pairs.{history_all, items_all, broke_last}
use Rattle.session_core.specs.Replied.{IsUnmarked, Replied, nothing, answered, coded, append_failed, wanted}
use Rattle.session_core.specs.Desks.{Asks, AreReplied}

module _ (schema : DatabaseSchema) (world : FactSet) (user : UserProfile) (standing : Standing) where
  abbrev Chain : History → Bool → ℕ → Bool → List (Text × Run.Reply) → History → Option AnsweredQuery → Type 0
  Chain = Replied schema world user standing

  -- replies by no fewer entries than some are replies by no fewer than less
  pub from_earlier : (history : History) (broke : Bool) {least least' : ℕ} {failed failed' : Bool} {asks : List (Text × Run.Reply)} {entries : History}
      {in_flight : Option AnsweredQuery} → least' ≤ least → (failed' ≡ true → failed ≡ true)
      → Chain history broke least failed asks entries in_flight → Chain history broke least' failed' asks entries in_flight
  from_earlier history broke low if (nothing within fails) = nothing (omega (arith, low, within)) (λ f. fails (if f))
  from_earlier history broke {failed' = false} low if (answered before after entry least is read size answer rest) =
      answered before after entry (omega (arith, low, least)) is read size answer rest
  from_earlier history broke {failed' = true} low if (answered before after entry least is read size answer rest) = let e : false ≡ true = if refl in absurd cc
  from_earlier history broke low if (coded before after now least is on whole none answer rest) =
      coded before after now (omega (arith, low, least)) is (λ f. on (if f)) whole none answer rest
  from_earlier history broke {failed' = false} low if (append_failed entry least read size answer broken rest) =
      append_failed entry (omega (arith, low, least)) read size answer broken rest
  from_earlier history broke {failed' = true} low if (append_failed entry least read size answer broken rest) =
      let e : false ≡ true = if refl in absurd cc
  from_earlier history broke low if (wanted rest) = wanted (from_earlier history broke low if rest)

  -- where an append had failed, one has in the end
  pub stays_broke : {history : History} {broke : Bool} {least : ℕ} {failed : Bool} {asks : List (Text × Run.Reply)} {entries : History}
      {in_flight : Option AnsweredQuery} → Chain history broke least failed asks entries in_flight → failed ≡ true → broke ≡ true
  stays_broke (nothing within fails) is = fails is
  stays_broke (answered before after entry least same read size answer rest) is = absurd cc
  stays_broke (coded before after now least same on whole none answer rest) is = stays_broke rest (on is)
  stays_broke (append_failed entry least read size answer broken rest) is = broken
  stays_broke (wanted rest) is = stays_broke rest is

  -- and further ones, by all entries that there were in the end: no more, where an append had failed
  pub replied_then : (first more : History)
      (broke broke' : Bool) {least : ℕ} {failed : Bool} {asks asks' : List (Text × Run.Reply)} {entries entries' : History}
      {in_flight in_flight' : Option AnsweredQuery} → (broke ≡ true → broke' ≡ true) → (broke ≡ true → more ≡ [])
      → Chain first broke least failed asks entries in_flight → Chain (first ++ more) broke' (length first) broke asks' entries' in_flight'
      → Chain (first ++ more) broke' least failed (asks ++ asks') (entries ++ entries') (option_or in_flight in_flight')
  replied_then first more broke broke' on still (nothing within fails) last = from_earlier (first ++ more) broke' within fails last
  replied_then first more broke broke' on still (answered before after entry least is read size answer rest) last =
      answered before (after ++ more) entry least (ap (λ h. h ++ more) is ∙ append_assoc before (entry ∷ after) more) read size answer
      (replied_then first more broke broke' on still rest last)
  replied_then first more broke broke' on still (coded before after now least is if whole none answer rest) last =
      coded before (after ++ more) now least (ap (λ h. h ++ more) is ∙ append_assoc before after more) if
      (λ f. ap (λ (h : History). h ++ more) (whole f) ∙ still (stays_broke rest f)) none answer
      (replied_then first more broke broke' on still rest last)
  replied_then first more broke broke' {least = least'} on still (append_failed {text = text} entry least read size answer broken rest) last =
      let same : first ≡ first ++ more = sym (ap (λ (h : History). first ++ h) (still broken) ∙ append-nil first) in
      append_failed entry (subst (λ (h : History). least' ≤ length h) same least) read size
      (subst (λ (h : History). reply schema world user h standing false Asking text ≡ Run.marked entry.mark) same answer) (on broken)
      (from_earlier (first ++ more) broke' (let e = ap length (sym same) in omega (arith, e)) (λ f. f)
      (replied_then first more broke broke' on still rest last))
  replied_then first more broke broke' on still (wanted rest) last = wanted (replied_then first more broke broke' on still rest last)

  -- the entry of an append is told only where one has failed in the end
  pub flew_broke : {history : History} {broke : Bool} {least : ℕ} {failed : Bool} {asks : List (Text × Run.Reply)} {entries : History}
      {in_flight : Option AnsweredQuery} → Chain history broke least failed asks entries in_flight → is_some in_flight ≡ true → broke ≡ true
  flew_broke (nothing within fails) flies = absurd cc
  flew_broke (answered before after entry least is read size answer rest) flies = flew_broke rest flies
  flew_broke (coded before after now least is if whole none answer rest) flies = flew_broke rest flies
  flew_broke (append_failed entry least read size answer broken rest) flies = broken
  flew_broke (wanted rest) flies = flew_broke rest flies

  -- behind one that failed there are no entries, and none fails
  pub none_behind : {history : History} {broke : Bool} {least : ℕ} {failed : Bool} {asks : List (Text × Run.Reply)} {entries : History}
      {in_flight : Option AnsweredQuery} → Chain history broke least failed asks entries in_flight → failed ≡ true → (entries ≡ []) × (in_flight ≡ None)
  none_behind (nothing within fails) is = (refl, refl)
  none_behind (answered before after entry least same read size answer rest) is = absurd cc
  none_behind (coded before after now least same on whole none answer rest) is = none_behind rest (on is)
  none_behind (append_failed entry least read size answer broken rest) is = absurd cc
  none_behind (wanted rest) is = none_behind rest is

-- the items of some asks, and then of others: behind the entry in flight there are none
items_then : (entries more : History) (first last : Option AnsweredQuery) → (is_some first ≡ true → (more ≡ []) × (last ≡ None))
    → items_with entries first ++ items_with more last ≡ items_with (entries ++ more) (option_or first last)
items_then entries more None last behind =
    ap (λ l. l ++ items_with more last) (append-nil (map Kept entries))
    ∙ sym (append_assoc (map Kept entries) (map Kept more) (map Broke (option_to_list last)))
    ∙ ap (λ l. l ++ map Broke (option_to_list last)) (sym (map-append Kept entries more))
items_then entries more (Some entry) last behind =
    let none = behind refl in
    ap (λ (h : History). items_with entries (Some entry) ++ items_with h last) none.0
    ∙ ap (λ (o : Option AnsweredQuery). items_with entries (Some entry) ++ items_with [] o) none.1
    ∙ append-nil (items_with entries (Some entry))
    ∙ ap (λ (h : History). items_with h (Some entry)) (sym (append-nil entries) ∙ ap (λ (h : History). entries ++ h) (sym none.0))

-- ---- pairs

-- an append that failed among pairs failed among these and further ones
pub broke_on : (xs ys : Entries TurnItem) → has_broke xs ≡ true → has_broke (xs ++ ys) ≡ true
broke_on [] ys is = absurd cc
broke_on ((t, Kept x) ∷ xs) ys is = broke_on xs ys is
broke_on ((t, Broke x) ∷ xs) ys is = refl

pub or_none : (a : Option AnsweredQuery) → a ≡ option_or a None
or_none None = refl
or_none (Some x) = refl

-- behind an entry in flight there is no pair
pub none_after : (xs ys : Entries TurnItem) → is_broke_last (xs ++ ys) ≡ true → has_broke xs ≡ true → ys ≡ []
none_after [] ys last is = absurd cc
none_after ((t, Kept x) ∷ xs) ys last is = none_after xs ys last is
none_after ((t, Broke x) ∷ []) [] last is = refl
none_after ((t, Broke x) ∷ []) (y ∷ ys) last is = absurd cc
none_after ((t, Broke x) ∷ z ∷ xs) ys last is = absurd cc

-- pairs of which none is in flight
pub last_none : (pairs : Entries TurnItem) → flying pairs ≡ None → is_broke_last pairs ≡ true
last_none [] none = refl
last_none ((t, Kept x) ∷ pairs) none = last_none pairs none
last_none ((t, Broke x) ∷ pairs) none = absurd cc

-- a list with others behind it that is the same has none behind it
pub no_more : {A : Type 0} (xs ys : List A) → xs ++ ys ≡ xs → ys ≡ []
no_more [] ys is = is
no_more (x ∷ xs) ys is = no_more xs ys cc

-- ---- one pass

module _ {D : Type 0} (fixed : Fixed D) where
  -- no asks
  pub asks_nothing : (pass : Pass TurnItem (Fixed D)) → Asks fixed pass pass []
  asks_nothing pass = record {
    entries = [];
    in_flight = None;
    replied = nothing (omega arith) (λ f. f);
    own = sym (append-nil (items_of (mine pass)));
    later = ([], sym (append-nil (seen pass)));
    still = λ broke. refl;
    same_shares = refl;
    used = omega arith;
  }

  -- some asks, and then others
  pub asks_then : (p q r : Pass TurnItem (Fixed D)) {xs ys : List (Text × Run.Reply)} → Asks fixed p q xs → Asks fixed q r ys → Asks fixed p r (xs ++ ys)
  asks_then p q r {xs} {ys} first last =
      let more = last.later.0 in
      let grown : history_of (seen r) ≡ history_of (seen q) ++ history_of more = ap history_of last.later.1 ∙ history_all (seen q) more in
      let on : has_broke (seen q) ≡ true → has_broke (seen r) ≡ true = λ b. ap has_broke last.later.1 ∙ broke_on (seen q) more b in
      let ended : has_broke (seen q) ≡ true → history_of more ≡ [] = λ b. ap history_of (no_more (seen q) more (sym last.later.1 ∙ last.still b)) in
      let lasting = subst (λ h.
      Replied fixed.schema fixed.world fixed.user (standing_of fixed.standing) h (has_broke (seen r)) (length (history_of (seen q)))
      (has_broke (seen q)) ys last.entries last.in_flight) grown last.replied in
      let both = replied_then fixed.schema fixed.world fixed.user (standing_of fixed.standing) (history_of (seen q)) (history_of more) (has_broke (seen q))
      (has_broke (seen r)) on ended first.replied lasting in
      let two = length-append xs ys in
      let behind : is_some first.in_flight ≡ true → (last.entries ≡ []) × (last.in_flight ≡ None) = λ flies.
      none_behind fixed.schema fixed.world fixed.user (standing_of fixed.standing) last.replied
      (flew_broke fixed.schema fixed.world fixed.user (standing_of fixed.standing) first.replied flies) in
      record {
        entries = first.entries ++ last.entries;
        in_flight = option_or first.in_flight last.in_flight;
        replied = subst (λ h.
            Replied fixed.schema fixed.world fixed.user (standing_of fixed.standing) h (has_broke (seen r)) (length (history_of (seen p))) (has_broke (seen p))
            (xs ++ ys) (first.entries ++ last.entries) (option_or first.in_flight last.in_flight)) (sym grown) both;
        own = last.own ∙ ap (λ l. l ++ items_with last.entries last.in_flight) first.own
            ∙ append_assoc (items_of (mine p)) (items_with first.entries first.in_flight) (items_with last.entries last.in_flight)
            ∙ ap (λ l. items_of (mine p) ++ l) (items_then first.entries last.entries first.in_flight last.in_flight behind);
        still = λ b. last.still (ap has_broke (first.still b) ∙ b) ∙ first.still b;
        later = (first.later.0 ++ more, last.later.1 ∙ ap (λ s. s ++ more) first.later.1 ∙ append_assoc (seen p) first.later.0 more);
        same_shares = last.same_shares ∙ first.same_shares;
        used = omega (arith, first.used, last.used, two);
      }

  code_told : (code : Reply) → NoMark code → IsUnmarked (reply_of code)
  code_told (Mark mark) none = absurd none
  code_told (Syntax refusal) none = tt
  code_told Full none = tt
  code_told Size none = tt
  code_told Closed none = tt
  code_told Sealed none = tt
  code_told Broken none = tt
  code_told Memory none = tt
  code_told Secrets none = tt
  code_told Unsafe none = tt

  -- one ask at a counter
  pub asks_once : (old new : Pass TurnItem (Fixed D)) (text : Text) (said : Reply) → Asked fixed old new Asking text said → shares new ≡ shares old
      → turns old ≤ turns new + 2 → BrokeIsLast (seen new)
      → Asks fixed old new ((text, reply_of said) ∷ [])
  asks_once old new text said asked same_shares used last = of_adds asked.adds
    where
      begun : length (history_of (seen old)) ≤ length (history_of asked.found)
      begun =
          let grown = ap (λ ps. length (history_of ps)) asked.later.1 ∙ ap length (history_all (seen old) asked.later.0)
          ∙ length-append (history_of (seen old)) (history_of asked.later.0) in
          omega (arith, grown)

      failed_before : has_broke (seen old) ≡ true → has_broke asked.found ≡ true
      failed_before b = ap has_broke asked.later.1 ∙ broke_on (seen old) asked.later.0 b

      grown : (behind : IsPrefix asked.found (seen new)) → seen new ≡ seen old ++ (asked.later.0 ++ behind.0)
      grown behind = behind.1 ∙ ap (λ s. s ++ behind.0) asked.later.1 ∙ append_assoc (seen old) asked.later.0 behind.0

      made : (code : Reply) (entries : History) (in_flight : Option AnsweredQuery) → AreReplied fixed old new ((text, reply_of code) ∷ []) entries in_flight
          → items_of (mine new) ≡ items_of (mine old) ++ items_with entries in_flight → IsPrefix asked.found (seen new)
          → Asks fixed old new ((text, reply_of code) ∷ [])
      made code entries in_flight replied own behind = record {
        entries = entries;
        in_flight = in_flight;
        replied = replied;
        own = own;
        later = (asked.later.0 ++ behind.0, grown behind);
        still = λ b.
            let none = none_after (seen old) (asked.later.0 ++ behind.0)
            (ap is_broke_last (sym (grown behind)) ∙ broke_last (seen new) last) b in
            grown behind ∙ ap (λ l. seen old ++ l) none ∙ append-nil (seen old);
        same_shares = same_shares;
        used = omega (arith, used);
      }

      -- where the desk is served no append had failed
      never : flying asked.found ≡ None → has_broke (seen old) ≡ true → false ≡ true
      never none b = sym (ap (λ o. is_some o) none) ∙ failed_before b

      of_adds : {code : Reply} → Adds fixed asked.ticket Asking text asked.found (seen new) code → Asks fixed old new ((text, reply_of code) ∷ [])
      of_adds (adds_answered {query = query} {mark = mark} served answer added) =
          let entry = entry_for query mark text in
          let grown : history_of (seen new) ≡ history_of asked.found ++ entry ∷ [] =
          ap history_of added ∙ history_all asked.found ((asked.ticket, Kept entry) ∷ []) in
          let more = ap length grown ∙ length-append (history_of asked.found) (entry ∷ []) in
          made (Mark mark) (entry ∷ []) None
          (from_earlier fixed.schema fixed.world fixed.user (standing_of fixed.standing) (history_of (seen new)) (has_broke (seen new)) begun (never served.1)
          (answered (history_of asked.found) [] entry (omega arith) grown answer.read refl
          (ap (λ s. reply fixed.schema fixed.world fixed.user (history_of asked.found) s false Asking text) served.0
          ∙ answer.answer) (nothing (omega (arith, more)) (λ f. absurd cc))))
          (ap items_of (asked.own.one (asked.ticket, Kept entry) added) ∙ items_all (mine old) ((asked.ticket, Kept entry) ∷ []))
          ((asked.ticket, Kept entry) ∷ [], added)
      of_adds (adds_broke {query = query} {mark = mark} served answer added) =
          let entry = entry_for query mark text in
          let same : history_of (seen new) ≡ history_of asked.found =
          ap history_of added ∙ history_all asked.found ((asked.ticket, Broke entry) ∷ []) ∙ append-nil (history_of asked.found) in
          let still = ap length same in
          let within : length (history_of (seen old)) ≤ length (history_of (seen new)) = omega (arith, begun, still) in
          let broken : has_broke (seen new) ≡ true = ap has_broke added ∙ ap (λ o. is_some o) (flying_broke asked.found asked.ticket entry served.1) in
          made Broken [] (Some entry)
          (from_earlier fixed.schema fixed.world fixed.user (standing_of fixed.standing) (history_of (seen new)) (has_broke (seen new)) within (never served.1)
          (append_failed entry (omega arith) answer.read refl
          (ap (λ (h : History). reply fixed.schema fixed.world fixed.user h (standing_of fixed.standing) false Asking text) same
          ∙ ap (λ s. reply fixed.schema fixed.world fixed.user (history_of asked.found) s false Asking text) served.0 ∙ answer.answer) broken
          (nothing (omega arith) (λ f. broken))))
          (ap items_of (asked.own.one (asked.ticket, Broke entry) added) ∙ items_all (mine old) ((asked.ticket, Broke entry) ∷ []))
          ((asked.ticket, Broke entry) ∷ [], added)
      of_adds (adds_coded {code = code} none replied same) =
          let still = ap (λ ps. length (history_of ps)) same in
          made code [] None
          (coded (history_of asked.found) [] (has_broke asked.found) begun (ap history_of same ∙ sym (append-nil (history_of asked.found))) failed_before
          (λ f. refl) (code_told code none) replied
          (nothing (omega (arith, still)) (λ f. ap has_broke same ∙ f)))
          (ap items_of (asked.own.none same) ∙ sym (append-nil (items_of (mine old))))
          ([], same ∙ sym (append-nil asked.found))
      of_adds (adds_wanted same) =
          let still = ap (λ ps. length (history_of ps)) same in
          made Memory [] None (wanted (nothing (omega (arith, begun, still)) (λ f. ap has_broke same ∙ failed_before f)))
          (ap items_of (asked.own.none same) ∙ sym (append-nil (items_of (mine old))))
          ([], same ∙ sym (append-nil asked.found))
