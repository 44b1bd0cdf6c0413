-- What a call tells of a pass.
use Rattle.std.proofs.Common.{◌≡◌, ℕ, ◌+◌, ◌-◌, ◌≤◌, eqb, cond, List, [], ◌∷◌, ◌++◌, refl, sym, ap, ◌∙◌, subst, inl, inr, append_assoc, arith}
use Rattle.std.specs.Prelude.{Option, Some, None, is_some, option_to_list}
use Rattle.std.proofs.lemmas.List.{append-nil}
use Rattle.std.proofs.lemmas.List.Sums.{sum_by-append}
use Rattle.cqe_base.specs.declared.user.Mark as base
use Rattle.cqe_base.specs.declared.user.Mark.TheVariants.{Protected}
use Rattle.cqe_base.specs.declared.user.Purpose.{Purpose}
use Rattle.cqe_base.specs.declared.user.Purpose.TheVariants.{Protecting}
use Rattle.cqe_base.specs.Schema.{Text}
use Rattle.cqe_base.specs.Formula.{Formula}
use Rattle.cqe_base.specs.History.{AnsweredQuery}
use Rattle.cqe_base.specs.Run.{reply_at, reply_by, standing_open, desk_broken, marked}
use Rattle.cqe_base.specs.Reading.{reading}
use Rattle.turnstile.specs.declared.pass.Pass.{Pass}
use Rattle.turnstile.specs.declared.view.View.{View}
use Rattle.turnstile.specs.History.{Entries, IsPrefix, AddsAlike, AddsAtMostOne, count_of}
use Rattle.turnstile.specs.Views.{turn_view, outside_view}
use Rattle.turnstile.specs.Passes.{view_of, seen, mine, shares, tickets}
use Rattle.user_log.specs.declared.reply.Reply.{Reply}
use Rattle.user_log.specs.declared.reply.Reply.TheVariants.{Mark, Syntax, Full, Size, Closed, Sealed, Broken, Memory, Secrets, Unsafe}
use Rattle.user_log.proofs.Keeping.{secret_means}
use Rattle.desk_counter.specs.declared.item.TurnItem.{TurnItem}
use Rattle.desk_counter.specs.declared.item.TurnItem.TheVariants.{Kept, Broke}
use Rattle.desk_counter.specs.declared.item.Fixed.{Fixed}
use Rattle.desk_counter.specs.Items.{history_of, kept_pair, kept_pairs, flying, has_broke}
use Rattle.desk_counter.specs.Desks.{state_shown}
use Rattle.desk_counter.specs.Asks.{entry_for, NoMark, Adds, answered, broke, coded, wanted, IsServing, AnswersWith, Asked, all_but_last, pairs_behind, IsReply}
use Rattle.desk_counter.specs.Asks.{TellsEntry, TellsMark, AddsNoEntry, Looked}

-- ---- pairs with one more

-- the entries of the journal among pairs and one more
pub kept_more : (pairs : Entries TurnItem) (p : ℕ × TurnItem) → kept_pairs (pairs ++ p ∷ []) ≡ kept_pairs pairs ++ kept_pair p.0 p.1
kept_more [] p = append-nil (kept_pair p.0 p.1)
kept_more (q ∷ pairs) p = ap (λ ps. kept_pair q.0 q.1 ++ ps) (kept_more pairs p) ∙ sym (append_assoc (kept_pair q.0 q.1) (kept_pairs pairs) (kept_pair p.0 p.1))

-- where an entry in flight comes last, nothing of the journal is added
pub kept_broke : (pairs : Entries TurnItem) (ticket : ℕ) (entry : AnsweredQuery) → kept_pairs (pairs ++ (ticket, Broke entry) ∷ []) ≡ kept_pairs pairs
kept_broke pairs ticket entry = kept_more pairs (ticket, Broke entry) ∙ append-nil (kept_pairs pairs)

-- the entry in flight among pairs and one more
pub flying_broke : (pairs : Entries TurnItem) (ticket : ℕ) (entry : AnsweredQuery) → flying pairs ≡ None → flying (pairs ++ (ticket, Broke entry) ∷ [])
    ≡ Some entry
flying_broke [] ticket entry none = refl
flying_broke ((t, Kept x) ∷ pairs) ticket entry none = flying_broke pairs ticket entry none
flying_broke ((t, Broke x) ∷ pairs) ticket entry none = absurd cc

-- the last pair
without_last : {D : Type 0} (fixed : Fixed D) (pairs : Entries TurnItem) (p : ℕ × TurnItem) → all_but_last fixed (pairs ++ p ∷ []) ≡ pairs
without_last fixed [] p = refl
without_last fixed (q ∷ []) p = refl
without_last fixed (q ∷ r ∷ pairs) p = ap (λ ps. q ∷ ps) (without_last fixed (r ∷ pairs) p)

-- a ticket that isn't among some isn't among the first of them
none_before : (x : ℕ) (first more all : List ℕ) → all ≡ first ++ more → count_of x all ≡ 0 → count_of x first ≡ 0
none_before x first more all is none =
    let sum : count_of x (first ++ more) ≡ count_of x first + count_of x more = sum_by-append (λ (y : ℕ). cond (eqb y x) 1 0) first more in
    let same = ap (count_of x) is in
    omega (arith, sum, same, none)

module _ {D : Type 0} (fixed : Fixed D) where
  behind_code : (reply : Reply) (pairs : Entries TurnItem) → NoMark reply → pairs_behind fixed reply pairs ≡ pairs
  behind_code (Mark mark) pairs none = absurd none
  behind_code (Syntax refusal) pairs none = refl
  behind_code Full pairs none = refl
  behind_code Size pairs none = refl
  behind_code Closed pairs none = refl
  behind_code Sealed pairs none = refl
  behind_code Broken pairs none = refl
  behind_code Memory pairs none = refl
  behind_code Secrets pairs none = refl
  behind_code Unsafe pairs none = refl

  -- the reply of an open desk with an entry in flight
  broke_replies : (found : Entries TurnItem) (purpose : Purpose) (text : Text) (ticket : ℕ) (entry : AnsweredQuery) → IsServing fixed found
      → reply_at fixed.schema fixed.world fixed.user (state_shown fixed (found ++ (ticket, Broke entry) ∷ [])) purpose text ≡ desk_broken
  broke_replies found purpose text ticket entry served =
      let after = found ++ (ticket, Broke entry) ∷ [] in
      ap (λ s. reply_by fixed.schema fixed.world fixed.user (history_of after) s (has_broke after) purpose text (reading fixed.schema text)) served.0
      ∙ ap (λ (o : Option AnsweredQuery).
      reply_by fixed.schema fixed.world fixed.user (history_of after) standing_open (is_some o) purpose text (reading fixed.schema text))
      (flying_broke found ticket entry served.1)

  pub served_replies : (found : Entries TurnItem) (purpose : Purpose) (text : Text) (query : Formula) (mark : base.Mark) → IsServing fixed found
      → AnswersWith fixed found purpose text query mark
      → reply_at fixed.schema fixed.world fixed.user (state_shown fixed found) purpose text ≡ marked mark
  served_replies found purpose text query mark served answer =
      ap (λ s. reply_by fixed.schema fixed.world fixed.user (history_of found) s (has_broke found) purpose text (reading fixed.schema text)) served.0
      ∙ ap (λ (o : Option AnsweredQuery).
      reply_by fixed.schema fixed.world fixed.user (history_of found) standing_open (is_some o) purpose text (reading fixed.schema text)) served.1
      ∙ answer.answer

  -- the reply is that of the rule
  pub adds_reply : {ticket : ℕ} {purpose : Purpose} {text : Text} {found after : Entries TurnItem} {reply : Reply}
      → Adds fixed ticket purpose text found after reply
      → IsReply fixed purpose text after reply
  adds_reply {ticket = ticket} {purpose = purpose} {text = text} {found = found} (answered {query = query} {mark = mark} served answer added) =
      inr (sym (ap (λ ps. reply_at fixed.schema fixed.world fixed.user (state_shown fixed ps) purpose text) (ap (all_but_last fixed) added
      ∙ without_last fixed found (ticket, Kept (entry_for query mark text)))
      ∙ served_replies found purpose text query mark served answer))
  adds_reply {ticket = ticket} {purpose = purpose} {text = text} {found = found} (broke {query = query} {mark = mark} served answer added) =
      inr (sym (ap (λ ps. reply_at fixed.schema fixed.world fixed.user (state_shown fixed ps) purpose text) added
      ∙ broke_replies found purpose text ticket (entry_for query mark text) served))
  adds_reply {purpose = purpose} {text = text} {found = found} {after = after} {reply = reply} (coded none replied same) =
      inr (sym (ap (λ ps. reply_at fixed.schema fixed.world fixed.user (state_shown fixed ps) purpose text) (behind_code reply after none ∙ same) ∙ replied))
  adds_reply (wanted same) = inl refl

  -- what is told of a secret that was added is its own mark
  pub protected_mark : {ticket : ℕ} {text : Text} {found after : Entries TurnItem} {reply : Reply} → Adds fixed ticket Protecting text found after reply
      → (mark : base.Mark) → reply ≡ Mark mark → mark ≡ Protected
  protected_mark {text = text} {found = found} (answered {query = query} {mark = told} served answer added) mark is =
      let same : told ≡ mark = cc in
      sym same ∙ (secret_means fixed.schema fixed.world fixed.user (history_of found) text query told answer).4
  protected_mark (broke served answer added) mark is = absurd cc
  protected_mark (coded none replied same) mark is = absurd (subst (λ r. NoMark r) is none)
  protected_mark (wanted same) mark is = absurd cc

  -- a mark is told with its entry
  pub asked_tells : {old new : Pass TurnItem (Fixed D)} {purpose : Purpose} {text : Text} (reply : Reply) → Asked fixed old new purpose text reply
      → TellsMark fixed old new text reply
  asked_tells {old = old} {new = new} {purpose = purpose} {text = text} (Mark mark) asked = of_adds asked.adds
    where
      of_adds : Adds fixed asked.ticket purpose text asked.found (seen new) (Mark mark) → TellsEntry fixed old new text mark
      of_adds (answered {query = query} served answer added) = record {
        ticket = asked.ticket;
        entry = entry_for query mark text;
        earlier = asked.found;
        reads = answer.read;
        marked = refl;
        size = refl;
        last = added;
        own = asked.own.one (asked.ticket, Kept (entry_for query mark text)) added;
        later = asked.later;
        whole = asked.whole;
      }
      of_adds (coded none replied same) = absurd none
  asked_tells (Syntax refusal) asked = tt
  asked_tells Full asked = tt
  asked_tells Size asked = tt
  asked_tells Closed asked = tt
  asked_tells Sealed asked = tt
  asked_tells Broken asked = tt
  asked_tells Memory asked = tt
  asked_tells Secrets asked = tt
  asked_tells Unsafe asked = tt

  -- else no entry is added
  pub asked_none : {old new : Pass TurnItem (Fixed D)} {purpose : Purpose} {text : Text} {reply : Reply} → Asked fixed old new purpose text reply
      → NoMark reply → AddsNoEntry fixed old new
  asked_none {old = old} {new = new} {purpose = purpose} {text = text} {reply = reply} asked none = of_adds asked.adds none
    where
      stays : seen new ≡ asked.found → AddsNoEntry fixed old new
      stays same = record { own = ap (λ ps. kept_pairs ps) (asked.own.none same); whole = λ all. ap (λ ps. kept_pairs ps) (same ∙ asked.whole all) }

      of_adds : {code : Reply} → Adds fixed asked.ticket purpose text asked.found (seen new) code → NoMark code → AddsNoEntry fixed old new
      of_adds (answered served answer added) none = absurd none
      of_adds (broke {query = query} {mark = mark} served answer added) none =
          let entry = entry_for query mark text in
          record {
            own = ap (λ ps. kept_pairs ps) (asked.own.one (asked.ticket, Broke entry) added) ∙ kept_broke (mine old) asked.ticket entry;
            whole = λ all. ap (λ ps. kept_pairs ps) added ∙ kept_broke asked.found asked.ticket entry ∙ ap (λ ps. kept_pairs ps) (asked.whole all);
          }
      of_adds (coded never replied same) none = stays same
      of_adds (wanted same) none = stays same

  -- the pairs that were added stand behind those that were found
  adds_prefix : {ticket : ℕ} {purpose : Purpose} {text : Text} {found after : Entries TurnItem} {reply : Reply}
      → Adds fixed ticket purpose text found after reply → IsPrefix found after
  adds_prefix {ticket =
      ticket} {purpose = purpose} {text = text} (answered {query = query} {mark = mark} served answer added) = (
        (
          ticket,
          Kept
              (entry_for query mark text),
        ) ∷ [],
        added,
      )
  adds_prefix {ticket =
      ticket} {purpose = purpose} {text = text} (broke {query = query} {mark = mark} served answer added) = (
        (
          ticket,
          Broke
              (entry_for query mark text),
        ) ∷ [],
        added,
      )
  adds_prefix {found = found} (coded none replied same) = ([], same ∙ sym (append-nil found))
  adds_prefix {found = found} (wanted same) = ([], same ∙ sym (append-nil found))

  prefix_on : (first mid last : Entries TurnItem) → IsPrefix first mid → IsPrefix mid last → IsPrefix first last
  prefix_on first mid last one two = (one.0 ++ two.0, two.1 ∙ ap (λ ps. ps ++ two.0) one.1 ∙ append_assoc first one.0 two.0)

  -- what was seen before begins what was seen
  pub asked_later : {old new : Pass TurnItem (Fixed D)} {purpose : Purpose} {text : Text} {reply : Reply} → Asked fixed old new purpose text reply
      → IsPrefix (seen old) (seen new)
  asked_later {old = old} {new = new} asked = prefix_on (seen old) asked.found (seen new) asked.later (adds_prefix asked.adds)

  -- ---- a turn

  -- what a turn did with a pass, behind a look in a first turn
  pub asked_in_turn : {old mid new : Pass TurnItem (Fixed D)} {purpose : Purpose} {text : Text} {reply : Reply} {inside : View TurnItem (Fixed D)} (ticket : ℕ)
      (found after own_before : Entries TurnItem)
      → Looked old mid → inside ≡ turn_view (view_of mid) ticket found → IsPrefix (seen mid) found → (shares mid ≡ 65 → found ≡ seen mid)
      → ((x : ℕ) → ticket ≤ x → count_of x (tickets mid) ≡ 0) → own_before ≡ mine mid
      → view_of new ≡ outside_view inside after → AddsAlike inside.seen after own_before (mine new) → Adds fixed ticket purpose text found after reply
      → Asked fixed old new purpose text reply
  asked_in_turn {old = old} {mid = mid} {new = new} {purpose = purpose} {text = text} {reply = reply}
      {inside = inside} ticket found after own_before looked entered later whole
      fresh own left alike adds =
      let saw : seen new ≡ after = ap (λ (v : View TurnItem (Fixed D)). v.seen) left in
      let began : inside.seen ≡ found = ap (λ (v : View TurnItem (Fixed D)). v.seen) entered in
      let one : tickets new ≡ tickets mid ++ ticket ∷ [] =
      ap (λ (v : View TurnItem (Fixed D)). v.drawn) left ∙ ap (λ (v : View TurnItem (Fixed D)). v.drawn) entered in
      record {
        ticket = ticket;
        looked = looked.looked;
        found = found;
        later = prefix_on (seen old) (seen mid) found looked.later later;
        whole = λ all. whole (looked.same_shares ∙ all) ∙ looked.whole all;
        fresh = λ x low. none_before x (tickets old) (option_to_list looked.looked) (tickets mid) looked.drew (fresh x low);
        adds = subst (λ ps. Adds fixed ticket purpose text found ps reply) (sym saw) adds;
        own = subst (λ ps. AddsAlike found ps (mine old) (mine new)) (sym saw)
            (subst (λ ps. AddsAlike found after ps (mine new)) (own ∙ looked.own) (subst (λ ps. AddsAlike ps after own_before (mine new)) began alike));
        drew = one ∙ ap (λ ts. ts ++ ticket ∷ []) looked.drew;
      }

  -- ---- a look in a first turn

  -- no turn
  pub looked_not : (pass : Pass TurnItem (Fixed D)) → Looked pass pass
  looked_not pass = record {
    looked = None;
    drew = sym (append-nil (tickets pass));
    later = ([], sym (append-nil (seen pass)));
    whole = λ all. refl;
    own = refl;
    same_shares = refl;
  }

  -- a turn that adds nothing
  pub looked_in_turn : {old new : Pass TurnItem (Fixed D)} {inside : View TurnItem (Fixed D)} (ticket : ℕ) (found after own_before : Entries TurnItem)
      → inside ≡ turn_view (view_of old) ticket found → IsPrefix (seen old) found → (shares old ≡ 65 → found ≡ seen old) → own_before ≡ mine old
      → view_of new ≡ outside_view inside after → AddsAlike inside.seen after own_before (mine new) → after ≡ found → Looked old new
  looked_in_turn {old = old} {new = new} {inside = inside} ticket found after own_before entered later whole own left alike same =
      let saw : seen new ≡ found = ap (λ (v : View TurnItem (Fixed D)). v.seen) left ∙ same in
      let began : inside.seen ≡ found = ap (λ (v : View TurnItem (Fixed D)). v.seen) entered in
      record {
        looked = Some ticket;
        drew = ap (λ (v : View TurnItem (Fixed D)). v.drawn) left ∙ ap (λ (v : View TurnItem (Fixed D)). v.drawn) entered;
        later = subst (λ ps. IsPrefix (seen old) ps) (sym saw) later;
        whole = λ all. saw ∙ whole all;
        own = alike.none (same ∙ sym began) ∙ own;
        same_shares = ap (λ (v : View TurnItem (Fixed D)). v.shares) left ∙ ap (λ (v : View TurnItem (Fixed D)). v.shares) entered;
      }

  -- the turns and the shares behind a turn
  pub turns_used : (old new inside : View TurnItem (Fixed D)) (ticket : ℕ) (found after : Entries TurnItem)
      → inside ≡ turn_view old ticket found → new ≡ outside_view inside after
      → (new.shares ≡ old.shares) × (new.turns ≡ old.turns - 1)
  turns_used old new inside ticket found after entered left = (
    ap (λ (v : View TurnItem (Fixed D)). v.shares) left ∙ ap (λ (v : View TurnItem (Fixed D)). v.shares) entered,
    ap (λ (v : View TurnItem (Fixed D)). v.turns) left ∙ ap (λ (v : View TurnItem (Fixed D)). v.turns) entered,
  )

  -- what a turn adds is at most one pair with its ticket
  pub adds_at_most_one : {ticket ticket' : ℕ} {purpose : Purpose} {text : Text} {found after : Entries TurnItem} {reply : Reply} (inside : View TurnItem
      (Fixed D))
      (old : View TurnItem (Fixed D)) → ticket ≡ ticket' → inside ≡ turn_view old ticket' found
      → Adds fixed ticket purpose text found after reply → AddsAtMostOne ticket' inside.seen after
  adds_at_most_one {ticket = ticket} {ticket' = ticket'} {purpose = purpose} {text = text} {found = found} {after = after}
      {reply = reply} inside old same entered adds =
      subst (λ ps. AddsAtMostOne ticket' ps after) (sym (ap (λ (v : View TurnItem (Fixed D)). v.seen) entered))
      (subst (λ t. AddsAtMostOne t found after) same (of_adds adds))
    where
      of_adds : {code : Reply} → Adds fixed ticket purpose text found after code → AddsAtMostOne ticket found after
      of_adds (answered {query = query} {mark = mark} served answer added) = inr (Kept (entry_for query mark text), added)
      of_adds (broke {query = query} {mark = mark} served answer added) = inr (Broke (entry_for query mark text), added)
      of_adds (coded none replied still) = inl still
      of_adds (wanted still) = inl still

-- what no turn changes is one thing
pub one_fixed : {D : Type 0} (known : Option (Fixed D)) (first second : Fixed D) → known ≡ Some first → known ≡ Some second → first ≡ second
one_fixed known first second is other = some_same (sym is ∙ other)
  where
    some_same : Some first ≡ Some second → first ≡ second
    some_same e = cc
