-- The pairs of a desk, and what a settled text adds to them.
use Rattle.std.proofs.Common.{◌≡◌, ℕ, true, false, List, [], ◌∷◌, ◌++◌, map, length, zip, refl, sym, ap, ◌∙◌, subst, append_assoc, arith}
use Rattle.std.specs.Prelude.{Option, Some, None, is_some, option_to_list}
use Rattle.std.proofs.lemmas.List.{append-nil}
use Rattle.cqe_base.specs.declared.user.Mark as base
use Rattle.cqe_base.specs.declared.user.Purpose.{Purpose}
use Rattle.cqe_base.specs.Schema.{Text}
use Rattle.cqe_base.specs.History.{AnsweredQuery, History}
use Rattle.cqe_base.specs.Formula.{Formula}
use Rattle.cqe_base.specs.Run.{reply_at, standing_open}
use Rattle.turnstile.specs.History.{Entries}
use Rattle.user_log.specs.Asked.{IsAnswer}
use Rattle.user_log.specs.declared.reply.Reply.{Reply}
use Rattle.user_log.specs.declared.reply.Reply.TheVariants.{Mark, Broken}
use Rattle.user_desk.specs.Standings.{standing_of}
use Rattle.user_desk.specs.Lives.{shown}
use Rattle.desk_counter.specs.declared.item.TurnItem.{TurnItem}
use Rattle.desk_counter.specs.declared.item.TurnItem.TheVariants.{Kept, Broke}
use Rattle.desk_counter.specs.declared.item.Fixed.{Fixed}
use Rattle.desk_counter.specs.Items.{history_of, kept_pair, kept_pairs, flying, pairs_of, BrokeIsLast, is_broke_last, items_of, items_with}
use Rattle.desk_counter.specs.Desks.{state_shown}
use Rattle.desk_counter.specs.Asks.{entry_for, NoMark, Adds, answered, broke, coded, wanted, IsServing, AnswersWith}
use Rattle.desk_counter.proofs.Settling.{Changes}
use Rattle.desk_counter.proofs.Settling as settling

kept_all : (xs ys : Entries TurnItem) → kept_pairs (xs ++ ys) ≡ kept_pairs xs ++ kept_pairs ys
kept_all [] ys = refl
kept_all (x ∷ xs) ys = ap (λ ps. kept_pair x.0 x.1 ++ ps) (kept_all xs ys) ∙ sym (append_assoc (kept_pair x.0 x.1) (kept_pairs xs) (kept_pairs ys))

second_all : (xs ys : Entries AnsweredQuery) → map (λ (p : ℕ × AnsweredQuery). p.1) (xs ++ ys) ≡ map (λ p. p.1) xs ++ map (λ p. p.1) ys
second_all [] ys = refl
second_all (x ∷ xs) ys = ap (λ h. x.1 ∷ h) (second_all xs ys)

-- the history of pairs and further ones
pub history_all : (xs ys : Entries TurnItem) → history_of (xs ++ ys) ≡ history_of xs ++ history_of ys
history_all xs ys = ap (λ ps. map (λ (p : ℕ × AnsweredQuery). p.1) ps) (kept_all xs ys) ∙ second_all (kept_pairs xs) (kept_pairs ys)

-- and their items
pub items_all : (xs ys : Entries TurnItem) → items_of (xs ++ ys) ≡ items_of xs ++ items_of ys
items_all [] ys = refl
items_all (x ∷ xs) ys = ap (λ l. x.1 ∷ l) (items_all xs ys)

-- the items of the pairs
pub items_pairs : (tickets : List ℕ) (entries : History) (ticket : ℕ) (in_flight : Option AnsweredQuery) → length tickets ≡ length entries
    → items_of (pairs_of tickets entries ticket in_flight) ≡ items_with entries in_flight
items_pairs [] [] ticket None e = refl
items_pairs [] [] ticket (Some entry) e = refl
items_pairs [] (x ∷ entries) ticket in_flight e = absurd (omega (arith, e))
items_pairs (t ∷ tickets) [] ticket in_flight e = absurd (omega (arith, e))
items_pairs (t ∷ tickets) (x ∷ entries) ticket in_flight e = ap (λ l. Kept x ∷ l) (items_pairs tickets entries ticket in_flight (omega (arith, e)))

-- the entries of the journal among the pairs
pub history_pairs : (tickets : List ℕ) (entries : History) (ticket : ℕ) (in_flight : Option AnsweredQuery) → length tickets ≡ length entries
    → history_of (pairs_of tickets entries ticket in_flight) ≡ entries
history_pairs [] [] ticket None e = refl
history_pairs [] [] ticket (Some entry) e = refl
history_pairs [] (x ∷ entries) ticket in_flight e = absurd (omega (arith, e))
history_pairs (t ∷ tickets) [] ticket in_flight e = absurd (omega (arith, e))
history_pairs (t ∷ tickets) (x ∷ entries) ticket in_flight e = ap (λ h. x ∷ h) (history_pairs tickets entries ticket in_flight (omega (arith, e)))

-- the entry in flight among the pairs
pub flying_pairs : (tickets : List ℕ) (entries : History) (ticket : ℕ) (in_flight : Option AnsweredQuery)
    → flying (pairs_of tickets entries ticket in_flight) ≡ in_flight
flying_pairs [] entries ticket None = refl
flying_pairs [] entries ticket (Some entry) = refl
flying_pairs (t ∷ tickets) [] ticket None = refl
flying_pairs (t ∷ tickets) [] ticket (Some entry) = refl
flying_pairs (t ∷ tickets) (x ∷ entries) ticket in_flight = flying_pairs tickets entries ticket in_flight

-- one entry more
pub pairs_added : (tickets : List ℕ) (entries : History) (ticket old_broke : ℕ) (entry : AnsweredQuery) → length tickets ≡ length entries
    → pairs_of (tickets ++ ticket ∷ []) (entries ++ entry ∷ []) old_broke None ≡ pairs_of tickets entries old_broke None ++ (ticket, Kept entry) ∷ []
pairs_added [] [] ticket old_broke entry e = refl
pairs_added [] (x ∷ entries) ticket old_broke entry e = absurd (omega (arith, e))
pairs_added (t ∷ tickets) [] ticket old_broke entry e = absurd (omega (arith, e))
pairs_added (t ∷ tickets) (x ∷ entries) ticket old_broke entry e =
    ap (λ ps. (t, Kept x) ∷ ps) (pairs_added tickets entries ticket old_broke entry (omega (arith, e)))

-- the entry in flight
pub pairs_flew : (tickets : List ℕ) (entries : History) (ticket old_broke : ℕ) (entry : AnsweredQuery)
    → pairs_of tickets entries ticket (Some entry) ≡ pairs_of tickets entries old_broke None ++ (ticket, Broke entry) ∷ []
pairs_flew tickets entries ticket old_broke entry = ap (λ ps. ps ++ (ticket, Broke entry) ∷ []) (sym (append-nil (zip tickets (map Kept entries))))

-- an entry in flight is the last pair
pub pairs_last : (tickets : List ℕ) (entries : History) (ticket : ℕ) (in_flight : Option AnsweredQuery)
    → BrokeIsLast (pairs_of tickets entries ticket in_flight)
pairs_last tickets entries ticket in_flight before after other entry e = of_zip tickets entries before e
  where
    alone : (in_flight : Option AnsweredQuery) (before : Entries TurnItem)
        → map (λ x. (ticket, Broke x)) (option_to_list in_flight) ≡ before ++ (other, Broke entry) ∷ after → after ≡ []
    alone None [] e = absurd cc
    alone None (p ∷ before) e = absurd cc
    alone (Some x) [] e = let rest : [] ≡ after = cc in sym rest
    alone (Some x) (p ∷ []) e = absurd cc
    alone (Some x) (p ∷ q ∷ before) e = absurd cc

    of_zip : (tickets : List ℕ) (entries : History) (before : Entries TurnItem) → pairs_of tickets entries ticket in_flight
        ≡ before ++ (other, Broke entry) ∷ after
        → after ≡ []
    of_zip [] entries before e = alone in_flight before e
    of_zip (t ∷ tickets) [] before e = alone in_flight before e
    of_zip (t ∷ tickets) (x ∷ entries) [] e = absurd (kept_broke (let same : (t, Kept x) ≡ (other, Broke entry) = cc in same))
      where
        kept_broke : (let p : ℕ × TurnItem = (t, Kept x) in p) ≡ (other, Broke entry) → ⊥
        kept_broke e = let items : Kept x ≡ Broke entry = ap (λ (p : ℕ × TurnItem). p.1) e in cc
    of_zip (t ∷ tickets) (x ∷ entries) (p ∷ before) e = of_zip tickets entries before cc

-- so no pair stands behind it
pub broke_last : (pairs : Entries TurnItem) → BrokeIsLast pairs → is_broke_last pairs ≡ true
broke_last [] last = refl
broke_last ((t, Kept x) ∷ pairs) last =
    broke_last pairs (λ before after ticket entry is. last ((t, Kept x) ∷ before) after ticket entry (ap (λ l. (t, Kept x) ∷ l) is))
broke_last ((t, Broke x) ∷ []) last = refl
broke_last ((t, Broke x) ∷ p ∷ pairs) last = let none : p ∷ pairs ≡ [] = last [] (p ∷ pairs) t x refl in absurd cc

-- a desk with no entry in flight
module _ {D : Type 0} (fixed : Fixed D) (purpose : Purpose) (text : Text) (tickets : List ℕ) (old : History) (mark_of_broke : ℕ)
    (counted : length tickets ≡ length old) where
  abbrev found : Entries TurnItem
  found = pairs_of tickets old mark_of_broke None

  abbrev Changed : History → Option AnsweredQuery → Reply → Type 0
  Changed new new_flying reply = Changes fixed.schema fixed.world fixed.user (standing_of fixed.standing) purpose text old None new new_flying reply

  served : standing_of fixed.standing ≡ standing_open → IsServing fixed found
  served is = (is, flying_pairs tickets old mark_of_broke None)

  answers : {query : Formula} {mark : base.Mark} → IsAnswer fixed.schema fixed.world fixed.user old purpose text query mark
      → AnswersWith fixed found purpose text query mark
  answers {query = query} {mark = mark} is =
      subst (λ h. IsAnswer fixed.schema fixed.world fixed.user h purpose text query mark) (sym (history_pairs tickets old mark_of_broke None counted)) is

  same_state : state_shown fixed found ≡ shown old (standing_of fixed.standing) None
  same_state =
      ap (λ (h : History). shown h (standing_of fixed.standing) (flying found)) (history_pairs tickets old mark_of_broke None counted)
      ∙ ap (λ (o : Option AnsweredQuery). shown old (standing_of fixed.standing) o) (flying_pairs tickets old mark_of_broke None)

  -- a mark adds its entry
  pub adds_mark : {new : History} {new_flying : Option AnsweredQuery} {mark : base.Mark} → (ticket : ℕ) → Changed new new_flying (Mark mark)
      → Adds fixed ticket purpose text found (pairs_of (tickets ++ ticket ∷ []) new mark_of_broke new_flying) (Mark mark)
  adds_mark {new = new} {new_flying = new_flying} ticket (settling.added {query = query} {mark = mark} opened whole answer grown none) =
      answered (served opened) (answers answer)
      (ap (λ h. pairs_of (tickets ++ ticket ∷ []) h mark_of_broke new_flying) grown
      ∙ ap (λ o. pairs_of (tickets ++ ticket ∷ []) (old ++ entry_for query mark text ∷ []) mark_of_broke o) none
      ∙ pairs_added tickets old ticket mark_of_broke (entry_for query mark text) counted)
  adds_mark ticket (settling.coded never replied same still) = absurd never

  -- an append that fails leaves its entry in flight
  pub adds_broke : {new : History} {new_flying : Option AnsweredQuery} → (ticket : ℕ) → is_some new_flying ≡ true → Changed new new_flying Broken
      → Adds fixed ticket purpose text found (pairs_of tickets new ticket new_flying) Broken
  adds_broke {new_flying =
      new_flying} ticket flies (settling.flew {query = query} {mark = mark} opened whole answer same flew) = broke (served opened) (answers answer)
      (ap (λ h. pairs_of tickets h ticket new_flying) same ∙ ap (λ o. pairs_of tickets old ticket o) flew
      ∙ pairs_flew tickets old ticket mark_of_broke (entry_for query mark text))
  adds_broke ticket flies (settling.coded none replied same still) =
      let e : true ≡ false = sym flies ∙ ap (λ (o : Option AnsweredQuery). is_some o) still in absurd cc

  -- a code and want of memory add nothing
  pub adds_none : {new : History} {new_flying : Option AnsweredQuery} {reply : Reply} → (ticket : ℕ) → NoMark reply → (reply ≡ Broken → ⊥)
      → Changed new new_flying reply → Adds fixed ticket purpose text found (pairs_of tickets new mark_of_broke new_flying) reply
  adds_none ticket none whole (settling.added opened idle answer grown still) = absurd none
  adds_none ticket none whole (settling.flew opened idle answer same flew) = absurd (whole refl)
  adds_none {new_flying = new_flying} ticket none whole (settling.coded never replied same still) =
      coded never (ap (λ s. reply_at fixed.schema fixed.world fixed.user s purpose text) same_state ∙ replied)
      (ap (λ h. pairs_of tickets h mark_of_broke new_flying) same ∙ ap (λ o. pairs_of tickets old mark_of_broke o) still)
  adds_none {new_flying = new_flying} ticket none whole (settling.wanted same still) =
      wanted (ap (λ h. pairs_of tickets h mark_of_broke new_flying) same ∙ ap (λ o. pairs_of tickets old mark_of_broke o) still)
