-- Whether bytes open a desk is decided, part by part.
use Rattle.std.proofs.Common.{◌≡◌, ◌⊎◌, ℕ, ◌<◌, ◌≤◌, Bool, true, false, List, [], ◌∷◌, ◌++◌, map, drop, take, length, refl, sym, ap, ◌∙◌, subst, inl, inr}
use Rattle.std.proofs.Common.{⊎_elim, arith, append_assoc}
use Rattle.std.specs.Prelude.{Option, Some, None}
use Rattle.std.proofs.lemmas.List.{append-nil}
use Rattle.cqe_base.specs.declared.user.Mark.{Mark}
use Rattle.cqe_base.specs.declared.user.Mark.TheVariants.{Yes, No, Refused, Undecided, Protected}
use Rattle.cqe_base.specs.Schema.{DatabaseSchema}
use Rattle.cqe_base.specs.Facts.{FactSet}
use Rattle.cqe_base.specs.Formula.{is_sentence_of}
use Rattle.cqe_base.specs.History.{UserProfile, AnsweredQuery, History, is_added}
use Rattle.cqe_base.specs.Censor.{IsLegalItem, IsLegal, mark_after, safe_after, admitted}
use Rattle.cqe_base.specs.Limits.{KeepsSizes, KeepsSizesAt}
use Rattle.cqe_base.specs.Run.{is_full, is_too_large, is_too_large_secret, has_all_secrets}
use Rattle.log_journal.specs.Records.{IsJournal}
use Rattle.log_journal.specs.Walk.{records, damaged}
use Rattle.log_journal.proofs.Walks.{journals_are_walked}
use Rattle.user_desk.specs.Entries.{kind_of, mark_of, entry_of, StandsFor}
use Rattle.user_desk.specs.Causes.{Opens, OpensOrNot, OpensOnce}
use Rattle.user_desk.proofs.Bytes.{one_history}

-- it holds, or it doesn't
abbrev OrNot : Type 0 → Type 0
OrNot A = A ⊎ (A → ⊥)

both : {A B : Type 0} → OrNot A → OrNot B → OrNot (A × B)
both (inl a) (inl b) = inl (a, b)
both (inl a) (inr never) = inr (λ p. never p.1)
both (inr never) b = inr (λ p. never p.0)

same : {A B : Type 0} → (A → B) → (B → A) → OrNot A → OrNot B
same to from (inl a) = inl (to a)
same to from (inr never) = inr (λ b. never (from b))

bools : (a b : Bool) → OrNot (a ≡ b)
bools true true = inl refl
bools true false = inr (λ e. cc)
bools false true = inr (λ e. cc)
bools false false = inl refl

-- what is to hold where a test has this value
where_so : {A : Type 0} (a b : Bool) → OrNot A → OrNot (a ≡ b → A)
where_so {A = A} a b decide = by (bools a b)
  where
    by : OrNot (a ≡ b) → OrNot (a ≡ b → A)
    by (inl e) = same (λ x so. x) (λ holds. holds e) decide
    by (inr never) = inl (λ e. absurd (never e))

at_least : (a b : ℕ) → OrNot (a ≤ b)
at_least a b = ⊎_elim (λ le. inl le) (λ lt. inr (λ le. absurd (omega (arith, le, lt)))) (compared a b)
  where
    compared : (a b : ℕ) → (a ≤ b) ⊎ (b < a)
    compared a b = grind arith

numbers : (a b : ℕ) → OrNot (a ≡ b)
numbers a b = same (λ p. omega (arith, p.0, p.1)) (λ e. (omega (arith, e), omega (arith, e))) (both (at_least a b) (at_least b a))

lists : (xs ys : List ℕ) → OrNot (xs ≡ ys)
lists [] [] = inl refl
lists [] (y ∷ ys) = inr (λ e. cc)
lists (x ∷ xs) [] = inr (λ e. cc)
lists (x ∷ xs) (y ∷ ys) = same (λ p. ap (λ h. h ∷ xs) p.0 ∙ ap (λ t. y ∷ t) p.1) (λ e. (cc, cc)) (both (numbers x y) (lists xs ys))

none : (o : Option ℕ) → OrNot (o ≡ None)
none None = inl refl
none (Some n) = inr (λ e. cc)

marks : (a b : Mark) → OrNot (a ≡ b)
marks a b = same (λ e. back e) (λ e. ap kind_of e) (numbers (kind_of a) (kind_of b))
  where
    marked : (m : Mark) → mark_of (kind_of m) ≡ Some m
    marked Yes = refl
    marked No = refl
    marked Refused = refl
    marked Undecided = refl
    marked Protected = refl

    back : kind_of a ≡ kind_of b → a ≡ b
    back e = let same_mark : Some a ≡ Some b = sym (marked a) ∙ ap mark_of e ∙ marked b in cc

-- all of them are there, or not
all_there : {A : Type 0} → (xs : List (Option A)) → ((ys : List A) × (xs ≡ map Some ys)) ⊎ ((ys : List A) → xs ≡ map Some ys → ⊥)
all_there [] = inl ([], refl)
all_there {A = A} (None ∷ xs) = inr missing
  where
    missing : (ys : List A) → None ∷ xs ≡ map Some ys → ⊥
    missing [] e = cc
    missing (y ∷ ys) e = cc
all_there {A = A} (Some x ∷ xs) = rest (all_there xs)
  where
    more : ((ys : List A) → xs ≡ map Some ys → ⊥) → (ys : List A) → Some x ∷ xs ≡ map Some ys → ⊥
    more never [] e = cc
    more never (y ∷ ys) e = never ys cc

    rest : ((ys : List A) × (xs ≡ map Some ys)) ⊎ ((ys : List A) → xs ≡ map Some ys → ⊥) → ((ys : List A) × (Some x ∷ xs ≡ map Some ys))
        ⊎ ((ys : List A) → Some x ∷ xs ≡ map Some ys → ⊥)
    rest (inl found) = inl (x ∷ found.0, ap (λ t. Some x ∷ t) found.1)
    rest (inr never) = inr (more never)

-- a fact of each item and those before it is decided, if it is decided of one
module _ (P : History → AnsweredQuery → Type 0) (decide : (before : History) (entry : AnsweredQuery) → OrNot (P before entry)) where
  abbrev EachBehind : History → History → Type 0
  EachBehind front entries = (before : History) (entry : AnsweredQuery) (after : History) → entries ≡ before ++ entry ∷ after → P (front ++ before) entry

  of_none : (front : History) → EachBehind front []
  of_none front [] entry after e = absurd cc
  of_none front (b ∷ before) entry after e = absurd cc

  of_more : (front : History) (x : AnsweredQuery) (xs : History) → P front x × EachBehind (front ++ x ∷ []) xs → EachBehind front (x ∷ xs)
  of_more front x xs p [] entry after e =
      let is : x ≡ entry = cc in
      subst (λ h. P h entry) (sym (append-nil front)) (subst (λ y. P front y) is p.0)
  of_more front x xs p (b ∷ before) entry after e =
      let is : x ≡ b = cc in
      let tail : xs ≡ before ++ entry ∷ after = cc in
      subst (λ (h : History). P h entry) (append_assoc front (x ∷ []) before ∙ ap (λ y. front ++ y ∷ before) is) (p.1 before entry after tail)

  back_to : (front : History) (x : AnsweredQuery) (xs : History) → EachBehind front (x ∷ xs) → P front x × EachBehind (front ++ x ∷ []) xs
  back_to front x xs each = (
    subst (λ h. P h x) (append-nil front) (each [] x xs refl),
    λ before entry after e. subst (λ (h : History). P h entry) (sym (append_assoc front (x ∷ []) before)) (each (x ∷ before) entry after (ap (λ t. x ∷ t) e)),
  )

  each_behind : (front entries : History) → OrNot (EachBehind front entries)
  each_behind front [] = inl (of_none front)
  each_behind front (x ∷ xs) = same (of_more front x xs) (back_to front x xs) (both (decide front x) (each_behind (front ++ x ∷ []) xs))

module _ (schema : DatabaseSchema) (world : FactSet) (user : UserProfile) where
  legal_at_or_not : (before : History) (item : AnsweredQuery) → OrNot (IsLegalItem schema world user before item)
  legal_at_or_not before item = same
      (λ p. record { has_mark = p.0; is_safe = p.1 })
      (λ legal. (legal.has_mark, legal.is_safe))
      (both (where_so (is_added item.mark) false (marks item.mark (mark_after schema world user before item.query)))
      (where_so (is_added item.mark) true (bools (safe_after schema user before item.query) true)))

  legal_or_not : (entries : History) → OrNot (IsLegal schema world user entries)
  legal_or_not entries = each_behind (IsLegalItem schema world user) legal_at_or_not [] entries

  sizes_at_or_not : (before : History) (entry : AnsweredQuery) → OrNot (KeepsSizesAt schema user before entry)
  sizes_at_or_not before entry = same
      (λ p. record { sentence = p.0; room = p.1.0; small = p.1.1.0; small_secret = p.1.1.1.0; secret_room = p.1.1.1.1 })
      (λ keeps. (keeps.sentence, (keeps.room, (keeps.small, (keeps.small_secret, keeps.secret_room)))))
      (both (bools (is_sentence_of schema entry.query) true)
      (both (bools (is_full before entry.length) false)
      (both (bools (is_too_large schema user before entry.query) false)
      (both (where_so (is_added entry.mark) true (bools (is_too_large_secret schema user before entry.query) false))
      (where_so (is_added entry.mark) true (bools (has_all_secrets user before) false))))))

  sizes_or_not : (entries : History) → OrNot (KeepsSizes schema user entries)
  sizes_or_not entries = each_behind (KeepsSizesAt schema user) sizes_at_or_not [] entries

  empty_or_not : (entries : History) → OrNot (entries ≡ [])
  empty_or_not [] = inl refl
  empty_or_not (x ∷ entries) = inr (λ e. cc)

  none_or_not : (b : Bool) (entries : History) → OrNot (b ≡ false → entries ≡ [])
  none_or_not true entries = inl (λ e. absurd cc)
  none_or_not false entries = same (λ is e. is) (λ is. is refl) (empty_or_not entries)

  journal_or_not : (header bytes : List ℕ) → OrNot (IsJournal header (records bytes) bytes)
  journal_or_not header bytes = same
      (λ p. (journals_are_walked header (records bytes) bytes).1 (record { long = p.0; begins = p.1.0; whole = p.1.1; are = refl }))
      (λ is. let walk = (journals_are_walked header (records bytes) bytes).0 is in (walk.long, (walk.begins, walk.whole)))
      (both (at_least 73 (length bytes)) (both (lists (take 72 bytes) header) (none (damaged 5 0 0 (drop 72 bytes)))))

  -- of one list of entries
  of_entries : (header bytes : List ℕ) (entries : History) → StandsFor schema header entries bytes → OrNot (Opens schema world user header entries bytes)
  of_entries header bytes entries stands = same
      (λ p. record { stands = stands; legal = p.0; sizes = p.1.0; none = p.1.1 })
      (λ opens. (opens.legal, (opens.sizes, opens.none)))
      (both (legal_or_not entries) (both (sizes_or_not entries) (none_or_not (admitted schema world user) entries)))

abbrev OpensOrNone : DatabaseSchema → FactSet → UserProfile → List ℕ → List ℕ → Type 0
OpensOrNone schema world user header bytes =
    ((entries : History) × Opens schema world user header entries bytes) ⊎ ((entries : History) → Opens schema world user header entries bytes → ⊥)

pub opens_once : OpensOnce
opens_once schema world user header first second bytes one other = one_history schema header first second bytes one.stands other.stands

pub opens_or_not : OpensOrNot
opens_or_not schema world user header bytes = by_journal (journal_or_not schema world user header bytes)
  where
    by_entries : (entries : History) → StandsFor schema header entries bytes → OrNot (Opens schema world user header entries bytes)
        → OpensOrNone schema world user header bytes
    by_entries entries stands (inl opens) = inl (entries, opens)
    by_entries entries stands (inr never) =
        inr (λ other opens.
        never (subst (λ h. Opens schema world user header h bytes) (one_history schema header other entries bytes opens.stands stands) opens))

    by_records : IsJournal header (records bytes) bytes → ((entries : History) × (map (entry_of schema) (records bytes) ≡ map Some entries))
        ⊎ ((entries : History) → map (entry_of schema) (records bytes) ≡ map Some entries → ⊥) → OpensOrNone schema world user header bytes
    by_records journal (inl found) =
        let stands : StandsFor schema header found.0 bytes = record { journal = journal; are = found.1 } in
        by_entries found.0 stands (of_entries schema world user header bytes found.0 stands)
    by_records journal (inr never) = inr (λ entries opens. never entries opens.stands.are)

    by_journal : OrNot (IsJournal header (records bytes) bytes) → OpensOrNone schema world user header bytes
    by_journal (inl journal) = by_records journal (all_there (map (entry_of schema) (records bytes)))
    by_journal (inr never) = inr (λ entries opens. never opens.stands.journal)
