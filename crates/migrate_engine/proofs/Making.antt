-- A journal that is made on an empty disk, its first eight bytes last.
use Rattle.std.proofs.Common.{◌≡◌, ◌≢◌, ◌∙◌, inl, inr, sym, ap, subst, refl, ℕ, ◌+◌, ◌/◌, ◌%◌, ◌<◌, ◌≤◌, Bool, true, false, ◌&&◌, nat_le}
use Rattle.std.proofs.Common.{List, [], ◌∷◌, ◌++◌, length, take, drop, map, get_or, bytes_eq, arith, append_assoc, append-nil, length-append}
use Rattle.std.proofs.Common.{length-take, take-append-drop}
use Rattle.std.specs.Prelude.{Result, Ok, Err, OnOk, OnErr}
use Rattle.std.specs.List.{list_all, AllByRecursion}
use Rattle.std.proofs.lemmas.Bool.{false≢true}
use Rattle.std.proofs.lemmas.Bool.Decides.{nat_tests}
use Rattle.std.proofs.lemmas.List.{take-take, take_all, take_at, take_more, drop_at, drop_all, map-append}
use Rattle.std.proofs.lemmas.Slice.Eq.{bytes_eq-Decides}
use Rattle.outside.proofs.Moments.{elapses_none, elapses_then, over_both}
use Rattle.outside.specs.Disk.{Holds, Torn, Follows, Only, Elapses}
use Rattle.outside.specs.declared.disk.Disk.{Ghosts as DiskGhosts}
use Rattle.log_journal.specs.Opening.{first_eight, recorded, IsRecord}
use Rattle.log_journal.specs.Records.{Recorded, is_record, written, IsJournal}
use Rattle.log_journal.specs.declared.header.Record.{Record}
use Rattle.migrate_engine.specs.Moves.{shut_eight, IsShut, IsNoneOrWhole, StaysShut, IsMaking, IsFilled}

-- what holds anyway holds of a success, and of a failure
pub where_ok : {T E P : Type 0} (result : Result T E) → P → OnOk result P
where_ok (Ok value) p = p
where_ok (Err why) p = tt

pub where_err : {T E P : Type 0} (result : Result T E) → P → OnErr result P
where_err (Ok value) p = tt
where_err (Err why) p = p

-- ---- writes at the end

-- a write at the end puts its bytes behind all others
pub held_more : (at : ℕ) (old piece new : List ℕ) → at ≡ length old → Holds old at piece new → new ≡ old ++ piece
held_more at old piece new end holds =
    holds ∙ (λ i. take_all at old (omega (arith, end)) i ++ piece ++ drop_all (at + length piece) old (omega (arith, end)) i) ∙ append-nil (old ++ piece)

-- to a disk without bytes
pub held_first : (old piece new : List ℕ) → old ≡ [] → Holds old 0 piece new → new ≡ piece
held_first old piece new none holds =
    let size : length old ≡ 0 = ap length none in
    held_more 0 old piece new (sym size) holds ∙ ap (λ (l : List ℕ). l ++ piece) none

-- a record behind its open gate
pub record_more : (old : List ℕ) (kind : ℕ) (text middle new : List ℕ) → middle ≡ old ++ 1 ∷ kind ∷ length text / 256 ∷ length text % 256 ∷ []
    → new ≡ middle ++ text
    → new ≡ old ++ written ((kind, text) ∷ [])
record_more old kind text middle new first last =
    last ∙ ap (λ (l : List ℕ). l ++ text) first ∙ append_assoc old (1 ∷ kind ∷ length text / 256 ∷ length text % 256 ∷ []) text
    ∙ ap (λ (l : List ℕ). old ++ 1 ∷ kind ∷ length text / 256 ∷ length text % 256 ∷ l) (sym (append-nil text))

written_append : (all more : List Recorded) → written (all ++ more) ≡ written all ++ written more
written_append [] more = refl
written_append ((kind, text) ∷ all) more =
    ap (λ (l : List ℕ). 1 ∷ kind ∷ length text / 256 ∷ length text % 256 ∷ (text ++ l)) (written_append all more)
    ∙ ap (λ (l : List ℕ). 1 ∷ kind ∷ length text / 256 ∷ length text % 256 ∷ l) (sym (append_assoc text (written all) (written more)))

-- the records up to the next one
taken_more : (records : List Record) (i : ℕ) (next : Record) → i < length records → next ≡ get_or records i next
    → map recorded (take (i + 1) records) ≡ map recorded (take i records) ++ recorded next ∷ []
taken_more records i next within is =
    ap (λ (l : List Record). map recorded l) (take_more records i next within ∙ ap (λ (one : Record). take i records ++ one ∷ []) (sym is))
    ∙ map-append recorded (take i records) (next ∷ [])

-- one more was written
pub records_more : (old middle new : List ℕ) (records : List Record) (i : ℕ) (next : Record) → i < length records → next ≡ get_or records i next
    → middle ≡ old ++ written (map recorded (take i records)) → new ≡ middle ++ written (recorded next ∷ [])
    → new ≡ old ++ written (map recorded (take (i + 1) records))
records_more old middle new records i next within is so_far one =
    let so = map recorded (take i records) in
    one ∙ ap (λ (l : List ℕ). l ++ written (recorded next ∷ [])) so_far ∙ append_assoc old (written so) (written (recorded next ∷ []))
    ∙ ap (λ (l : List ℕ). old ++ l) (sym (written_append so (recorded next ∷ [])))
    ∙ ap (λ (l : List Recorded). old ++ written l) (sym (taken_more records i next within is))

-- ---- the first eight bytes of what a crash leaves

-- a write behind them leaves them
torn_shut : (at n : ℕ) (d c : List ℕ) → 8 ≤ at → IsShut d → Torn at n d c → IsShut c
torn_shut at n d c behind shut torn =
    let size : length (take 8 d) ≡ 8 = ap length shut in
    let long : 8 ≤ length d = omega (arith, size, length-take 8 d) in
    sym (take-take 8 (length d) c long) ∙ sym (take-take 8 at (take (length d) c) behind) ∙ ap (λ (l : List ℕ). take 8 l) torn.before
    ∙ take-take 8 at d behind ∙ shut

pub written_shut : (at n : ℕ) (old new : List ℕ → Type 0) → 8 ≤ at → ((c : List ℕ) → old c → IsShut c) → Follows (Torn at n) old new
    → (c : List ℕ) → new c → IsShut c
written_shut at n old new behind shut follows c is =
    let from = follows c is in
    torn_shut at n from.0 c behind (shut from.0 from.1) from.2

-- shut bytes begin as no journal
shut_other : (bytes : List ℕ) → IsShut bytes → take 8 bytes ≢ first_eight
shut_other bytes shut = λ same.
    let clash : 0 ≡ 67 = ap (λ (l : List ℕ). get_or l 0 0) (sym shut ∙ same) in
    omega (arith, clash)

-- a disk that reads shut bytes alone, and leaves no others
pub only_shut : (bytes : List ℕ) (image : List ℕ → Type 0) → bytes ≡ shut_eight → Only bytes image → (c : List ℕ) → image c → IsShut c
only_shut bytes image is only c here = ap (λ (l : List ℕ). take 8 l) (only c here ∙ is)

-- ---- a whole header

pub begins_so : (policy facts : List ℕ) → take 8 (first_eight ++ policy ++ facts) ≡ first_eight
begins_so policy facts =
    ap (λ (l : List ℕ). take 8 l) (append_assoc first_eight policy facts) ∙ take_at first_eight (policy ++ facts) 8 refl

-- all that stands behind the first eight bytes was written
pub rest_written : (policy facts recs old p f r new : List ℕ) → old ≡ shut_eight → p ≡ old ++ policy → f ≡ p ++ facts → r ≡ f ++ recs → new ≡ r ++ 0 ∷ []
    → new ≡ shut_eight ++ (drop 8 (first_eight ++ policy ++ facts) ++ recs ++ 0 ∷ [])
rest_written policy facts recs old p f r new is one two three four =
    let behind : drop 8 (first_eight ++ policy ++ facts) ≡ policy ++ facts =
    ap (λ (l : List ℕ). drop 8 l) (append_assoc first_eight policy facts) ∙ drop_at first_eight (policy ++ facts) 8 refl in
    four ∙ ap (λ (l : List ℕ). l ++ 0 ∷ []) (three ∙ ap (λ (l : List ℕ). l ++ recs) (two ∙ ap (λ (l : List ℕ). l ++ facts)
    (one ∙ ap (λ (l : List ℕ). l ++ policy) is)))
    ∙ ap (λ (l : List ℕ). shut_eight ++ (l ++ recs ++ 0 ∷ [])) (sym behind)

module _ (header : List ℕ) (begins : take 8 header ≡ first_eight) (all : List Recorded) where
  abbrev pub rest : List ℕ
  rest = drop 8 header ++ written all ++ 0 ∷ []

  whole : first_eight ++ rest ≡ header ++ written all ++ 0 ∷ []
  whole = ap (λ (l : List ℕ). l ++ written all ++ 0 ∷ []) (ap (λ (l : List ℕ). l ++ drop 8 header) (sym begins) ∙ take-append-drop 8 header)

  -- the first eight bytes were written over the shut ones
  pub opened_head : (mid new : List ℕ) → mid ≡ shut_eight ++ rest → Holds mid 0 first_eight new → new ≡ header ++ written all ++ 0 ∷ []
  opened_head mid new is holds =
      let front : take 0 mid ≡ [] = take_at [] mid 0 refl in
      let behind : drop 8 mid ≡ rest = ap (λ (l : List ℕ). drop 8 l) is ∙ drop_at shut_eight rest 8 refl in
      holds ∙ (λ i. front i ++ first_eight ++ behind i) ∙ whole

  module _ (size : length header ≡ 72) (each : list_all (is_record 5) all ≡ true) where
    closed_journal : (bytes more : List ℕ) → bytes ≡ header ++ written all ++ 0 ∷ more → IsJournal header all bytes
    closed_journal bytes more is = record { size = size; each = each; gate = 0; rest = more; closed = omega arith; is = is }

    pub whole_journal : (bytes : List ℕ) → bytes ≡ header ++ written all ++ 0 ∷ [] → IsJournal header all bytes
    whole_journal bytes is = closed_journal bytes [] is

    -- whatever a crash leaves of them is none or the whole journal
    pub torn_head : (mid c : List ℕ) → mid ≡ shut_eight ++ rest → Torn 0 8 mid c → IsNoneOrWhole header all c
    torn_head mid c is torn = by (bytes_eq (take 8 c) first_eight) refl
      where
        long : 8 ≤ length mid
        long = let same : length mid ≡ 8 + length rest = ap length is ∙ length-append shut_eight rest in omega (arith, same)

        split : take 8 c ≡ first_eight → c ≡ header ++ written all ++ 0 ∷ drop (length mid) c
        split same =
            let kept = take (length mid) c in
            let more = drop (length mid) c in
            let front : take 8 kept ≡ first_eight = take-take 8 (length mid) c long ∙ same in
            let behind : drop 8 kept ≡ rest = torn.after ∙ ap (λ (l : List ℕ). drop 8 l) is ∙ drop_at shut_eight rest 8 refl in
            sym (take-append-drop (length mid) c)
            ∙ ap (λ (l : List ℕ). l ++ more) (sym (take-append-drop 8 kept) ∙ (λ i. front i ++ behind i) ∙ whole)
            ∙ append_assoc (header ++ written all) (0 ∷ []) more

        by : (t : Bool) → bytes_eq (take 8 c) first_eight ≡ t → IsNoneOrWhole header all c
        by true same = inr (closed_journal c (drop (length mid) c) (split ((bytes_eq-Decides (take 8 c) first_eight).0 same)))
        by false other = inl (λ same. false≢true (sym other ∙ (bytes_eq-Decides (take 8 c) first_eight).1 same))

-- records that were read are whole
pub each_whole : (records : List Record) → AllByRecursion (IsRecord 4) records → list_all (is_record 5) (map recorded records) ≡ true
each_whole [] each = refl
each_whole (one ∷ records) each =
    let is = each.0 in
    (λ i. is_whole one.kind (length one.text.items) is.kind_from is.kind_to is.short i && list_all (is_record 5) (map recorded records))
    ∙ each_whole records each.1
  where
    is_whole : (kind size : ℕ) → 1 ≤ kind → kind ≤ 4 → size ≤ 4096 → ((nat_le 1 kind && nat_le kind 5) && nat_le size 4096) ≡ true
    is_whole kind size from to short = grind (arith, nat_tests)

module _ {D : Type 0} (Disk : DiskGhosts D) where
  -- nothing was done
  pub shut_none : ((d : D) (t : ℕ) (c : List ℕ) → t ≤ Disk.moment d → Disk.image d c → Disk.image_since d t c)
      → ((d : D) (c : List ℕ) → Disk.image_since d (Disk.moment d) c → Disk.image d c) → (d : D) → ((c : List ℕ) → Disk.image d c → IsShut c)
      → StaysShut Disk d d
  shut_none counts_now only_now d shut = record {
    images = shut;
    moments = λ c is. shut c (only_now d c is);
    time = elapses_none (Disk.moment d) (Disk.image_since d) (Disk.image d) (counts_now d) (only_now d);
  }

  -- one call behind others
  pub shut_then : (a b d : D) → StaysShut Disk a b → StaysShut Disk b d → StaysShut Disk a d
  shut_then a b d first second = record {
    images = second.images;
    moments = over_both (Disk.moment a) (Disk.moment b) (Disk.moment d) (Disk.image_since b) (Disk.image_since d) IsShut first.time.later second.time
        first.moments second.moments;
    time = elapses_then (Disk.moment a) (Disk.moment b) (Disk.moment d) (Disk.image_since a) (Disk.image_since b) (Disk.image_since d) first.time
        second.time;
  }

  -- a call that leaves no new image
  pub shut_synced : (a b : D) → ((c : List ℕ) → Disk.image a c → IsShut c) → ((c : List ℕ) → Disk.image b c → Disk.image a c)
      → ((c : List ℕ) → Disk.image_since b (Disk.moment a) c → Disk.image a c)
      → Elapses (Disk.moment a) (Disk.moment b) (Disk.image_since a) (Disk.image_since b) → StaysShut Disk a b
  shut_synced a b shut images moments time =
      record { images = λ c is. shut c (images c is); moments = λ c is. shut c (moments c is); time = time }

  module _ (header : List ℕ) (all : List Recorded) (begun mid : D) (bytes : Disk.reads begun ≡ shut_eight)
      (durable : Only (Disk.reads begun) (Disk.image begun)) (shut : StaysShut Disk begun mid) where
    only_eight : Only shut_eight (Disk.image begun)
    only_eight = subst (λ (b : List ℕ). Only b (Disk.image begun)) bytes durable

    -- its first eight bytes are still shut
    pub making_shut : IsMaking Disk header all mid
    making_shut = record {
      begun = begun;
      bytes = bytes;
      durable = only_eight;
      images = λ c is. inl (shut_other c (shut.images c is));
      moments = λ c is. inl (shut_other c (shut.moments c is));
      time = shut.time;
    }

    -- and then they are written
    module _ (begins : take 8 header ≡ first_eight) (size : length header ≡ 72) (each : list_all (is_record 5) all ≡ true) (new : D)
        (is : Disk.reads mid ≡ shut_eight ++ rest header begins all) (images : (c : List ℕ) → Disk.image new c → Torn 0 8 (Disk.reads mid) c)
        (time : Elapses (Disk.moment mid) (Disk.moment new) (Disk.image_since mid) (Disk.image_since new))
        (moments : (c : List ℕ) → Disk.image_since new (Disk.moment mid) c → Torn 0 8 (Disk.reads mid) c) where
      pub making_open : IsMaking Disk header all new
      making_open = record {
        begun = begun;
        bytes = bytes;
        durable = only_eight;
        images = λ c here. torn_head header begins all size each (Disk.reads mid) c is (images c here);
        moments = over_both (Disk.moment begun) (Disk.moment mid) (Disk.moment new) (Disk.image_since mid) (Disk.image_since new)
            (IsNoneOrWhole header all) shut.time.later time (λ c here. inl (shut_other c (shut.moments c here)))
            (λ c here. torn_head header begins all size each (Disk.reads mid) c is (moments c here));
        time = elapses_then (Disk.moment begun) (Disk.moment mid) (Disk.moment new) (Disk.image_since begun) (Disk.image_since mid)
            (Disk.image_since new) shut.time time;
      }

      pub filled_of : Holds (Disk.reads mid) 0 first_eight (Disk.reads new) → Only (Disk.reads new) (Disk.image new) → IsFilled Disk header all [] new
      filled_of holds only =
          let whole' = opened_head header begins all (Disk.reads mid) (Disk.reads new) is holds in
          record {
            empty = refl;
            bytes = whole';
            journal = whole_journal header begins all size each (Disk.reads new) whole';
            durable = only;
            making = making_open;
          }
