-- What a window on a disk shows of the record at a gate.
use Rattle.std.proofs.Common.{◌≡◌, ◌≢◌, ◌⊎◌, inl, inr, ℕ, zero, suc, ◌+◌, ◌-◌, ◌<◌, ◌≤◌, ◌^◌, Bool, true, false, Option, Some, None, Result, Ok, Err, IfOk}
use Rattle.std.proofs.Common.{IfErr, IfSome, List, [], ◌∷◌, ◌++◌, ◌==◌, ◌&&◌, nat_le, nat_lt, length, take, drop, refl, sym, ◌∙◌, ap, subst, arith}
use Rattle.std.proofs.Common.{append_assoc, length-append, length-take, length-drop, take-append-drop, slice_index_or, min, if◌then◌else◌}
use Rattle.std.proofs.lemmas.List.{append-nil, drop_at, take_at, drop-drop, take_rest, take-take, take_min}
use Rattle.std.proofs.lemmas.Option.{none-some}
use Rattle.std.proofs.lemmas.Bool.Decides.{nat_tests}
use Rattle.outside.specs.Disk.{Fills}
use Rattle.outside.proofs.Moments.{elapses_none, elapses_then, over_both}
use Rattle.outside.proofs.Rises.{rose_since}
use Rattle.log_journal.specs.Records.{Recorded}
use Rattle.log_journal.specs.Walk.{length_of, is_whole, damaged}
use Rattle.log_journal.specs.Opening.{recorded, HasRecord, IsRead, RefusesOf, Refuses, IsRefusedOf, IsOfHeader, IsStopped, IsCutShort, IsOnlyRead}
use Rattle.log_journal.specs.declared.header.Record.{Record}
use Rattle.log_journal.specs.declared.header.OpenError.{OpenError}
use Rattle.log_journal.specs.declared.header.OpenError.TheVariants.{NotAJournal, OtherPolicy, Damaged, DiskFault, Memory, OldVersion}
use Rattle.log_journal.proofs.Fronts.{front_whole}
use Rattle.log_journal.proofs.Reading.{SoFar, one_more, all_read, drop_72}

at_gate : (number found : ℕ) (is_open whole : Bool) (later : Option ℕ) → (later ≡ Some found → number ≤ found)
    → (if is_open then (if whole then later else Some number) else None) ≡ Some found → number ≤ found
at_gate number found false whole later grows is = absurd (none-some found is)
at_gate number found true false later grows is = let same : number ≡ found = cc in omega (arith, same)
at_gate number found true true later grows is = grows is

at_end : (number found : ℕ) (is_open : Bool) → (if is_open then Some number else None) ≡ Some found → number ≤ found
at_end number found false is = absurd (none-some found is)
at_end number found true is = let same : number ≡ found = cc in omega (arith, same)

-- the numbers of records only grow
damaged_grows : (kinds number skipped : ℕ) (bytes : List ℕ) (found : ℕ) → damaged kinds number skipped bytes ≡ Some found → number ≤ found
damaged_grows kinds number (suc n) (byte ∷ rest) found is = damaged_grows kinds number n rest found is
damaged_grows kinds number (suc n) [] found is = absurd (none-some found is)
damaged_grows kinds number zero [] found is = absurd (none-some found is)
damaged_grows kinds number zero (gate ∷ []) found is = at_end number found (gate == 1) is
damaged_grows kinds number zero (gate ∷ a ∷ []) found is = at_end number found (gate == 1) is
damaged_grows kinds number zero (gate ∷ a ∷ b ∷ []) found is = at_end number found (gate == 1) is
damaged_grows kinds number zero (gate ∷ kind ∷ high ∷ low ∷ rest) found is =
    at_gate number found (gate == 1) (is_whole kinds kind high low rest) (damaged kinds (number + 1) (length_of high low) rest)
    (λ e. let more : number + 1 ≤ found = damaged_grows kinds (number + 1) (length_of high low) rest found e in omega (arith, more)) is

-- a record that is short enough is whole in a long window where it is whole
whole_alike : (kinds kind high low : ℕ) (rest tail : List ℕ) → 4097 ≤ length rest
    → is_whole kinds kind high low (rest ++ tail) ≡ is_whole kinds kind high low rest
whole_alike kinds kind high low rest tail long =
    ap (λ b. ((nat_le 1 kind && nat_le kind kinds) && nat_lt low 256) && b) (by_size (length_of high low) (nat_le (length_of high low) 4096) refl)
  where
    by_size : (size : ℕ) (short : Bool) → nat_le size 4096 ≡ short
        → (nat_le size 4096 && nat_lt size (length (rest ++ tail))) ≡ (nat_le size 4096 && nat_lt size (length rest))
    by_size size false is = ap (λ b. b && nat_lt size (length (rest ++ tail))) is ∙ sym (ap (λ b. b && nat_lt size (length rest)) is)
    by_size size true is =
        let bound : size ≤ 4096 = grind (arith, nat_tests) in
        let here : size < length rest = omega (arith, bound, long) in
        let there : size < length (rest ++ tail) = omega (arith, here, length-append rest tail) in
        let one : nat_lt size (length rest) ≡ true = grind (arith, nat_tests) in
        let two : nat_lt size (length (rest ++ tail)) ≡ true = grind (arith, nat_tests) in
        ap (λ b. nat_le size 4096 && b) (two ∙ sym one)

still_at : (k : ℕ) (is_open whole whole' : Bool) → whole' ≡ whole → (later later' : Option ℕ) → (later ≡ Some k → ⊥)
    → (if is_open then (if whole then later else Some k) else None) ≡ Some k → (if is_open then (if whole' then later' else Some k) else None) ≡ Some k
still_at k false whole whole' same later later' never is = absurd (none-some k is)
still_at k true true whole' same later later' never is = absurd (never is)
still_at k true false whole' same later later' never is = ap (λ b. if b then later' else Some k) same

-- what isn't whole in a window, isn't whole on the disk
pub still_damaged : (kinds : ℕ) (window tail : List ℕ) → (4101 ≤ length window) ⊎ (tail ≡ []) → 0 < length window
    → ((k : ℕ) → damaged kinds k 0 window ≡ Some k) → (k : ℕ) → damaged kinds k 0 (window ++ tail) ≡ Some k
still_damaged kinds window tail (inr none) more is k =
    ap (λ (l : List ℕ). damaged kinds k 0 l) (ap (λ (l : List ℕ). window ++ l) none ∙ append-nil window) ∙ is k
still_damaged kinds [] tail (inl long) more is k = absurd (omega arith)
still_damaged kinds (a ∷ []) tail (inl long) more is k = absurd (omega arith)
still_damaged kinds (a ∷ b ∷ []) tail (inl long) more is k = absurd (omega arith)
still_damaged kinds (a ∷ b ∷ d ∷ []) tail (inl long) more is k = absurd (omega arith)
still_damaged kinds (gate ∷ kind ∷ high ∷ low ∷ rest) tail (inl long) more is k =
    still_at k (gate == 1) (is_whole kinds kind high low rest) (is_whole kinds kind high low (rest ++ tail))
    (whole_alike kinds kind high low rest tail (omega (arith, long)))
    (damaged kinds (k + 1) (length_of high low) rest) (damaged kinds (k + 1) (length_of high low) (rest ++ tail))
    (λ e. let grown : k + 1 ≤ k = damaged_grows kinds (k + 1) (length_of high low) rest k e in omega (arith, grown)) (is k)

-- a record in the window is the record on the disk
pub still_recorded : (kinds : ℕ) (window tail : List ℕ) (record' : Record) → HasRecord kinds window record' → HasRecord kinds (window ++ tail) record'
still_recorded kinds window tail record' has = record {
  behind = has.behind ++ tail;
  rest = has.rest ++ tail;
  gate = ap (λ (l : List ℕ). l ++ tail) has.gate;
  starts = record {
    high = has.starts.high;
    low = has.starts.low;
    split = ap (λ (l : List ℕ). l ++ tail) has.starts.split ∙ append_assoc (record'.kind ∷ has.starts.high ∷ has.starts.low ∷ record'.text.items) has.rest tail;
    size = has.starts.size;
    low_byte = has.starts.low_byte;
    kind_from = has.starts.kind_from;
    kind_to = has.starts.kind_to;
    short = has.starts.short;
    gate = omega (arith, has.starts.gate, length-append has.rest tail);
  };
}

pub same_first : (window tail : List ℕ) → 0 < length window → slice_index_or (window ++ tail) 0 0 ≡ slice_index_or window 0 0
same_first [] tail more = absurd (omega arith)
same_first (byte ∷ rest) tail more = refl

-- A window on bytes: their beginning, and all of them unless it holds the longest record with both of its gates.
pub record IsWindow (window bytes : List ℕ) : Type 0 where
  pub tail : List ℕ
  pub split : bytes ≡ window ++ tail
  pub more : 0 < length window
  pub long : (4101 ≤ length window) ⊎ (tail ≡ [])

none_left : (l : List ℕ) → length l ≡ 0 → l ≡ []
none_left [] is = refl
none_left (a ∷ l) is = absurd (omega arith)

pub window_of : (disk : List ℕ) (gate n : ℕ) (old new window : List ℕ) → length old ≡ 4101 → gate < length disk → Fills disk gate n old new
    → window ≡ take n new
    → IsWindow window (drop gate disk)
window_of disk gate n old new window size within fills is =
    let left : length (drop gate disk) ≡ length disk - gate = length-drop gate disk in
    let n_is : n ≡ min 4101 (length disk - gate) = fills.count ∙ ap (λ (k : ℕ). min k (length disk - gate)) size in
    let bound : n ≤ length (drop gate disk) = omega (arith, n_is, left) in
    let front_size : length (take n (drop gate disk)) ≡ n = omega (arith, length-take n (drop gate disk), bound) in
    let window_is : window ≡ take n (drop gate disk) =
    is ∙ ap (λ (l : List ℕ). take n l) fills.piece ∙ take_at (take n (drop gate disk)) (drop n old) n front_size in
    let window_size : length window ≡ n = ap length window_is ∙ front_size in
    let rest_size : length (drop n (drop gate disk)) ≡ length disk - gate - n = omega (arith, length-drop n (drop gate disk), left) in
    record {
      tail = drop n (drop gate disk);
      split = sym (take-append-drop n (drop gate disk)) ∙ ap (λ (l : List ℕ). l ++ drop n (drop gate disk)) (sym window_is);
      more = omega (arith, window_size, n_is, within);
      long = by_size n_is rest_size window_size;
    }
  where
    by_size : n ≡ min 4101 (length disk - gate) → length (drop n (drop gate disk)) ≡ length disk - gate - n → length window ≡ n
        → (4101 ≤ length window) ⊎ (drop n (drop gate disk) ≡ [])
    by_size n_is rest_size window_size = either (nat_le 4101 (length disk - gate)) refl
      where
        either : (full : Bool) → nat_le 4101 (length disk - gate) ≡ full → (4101 ≤ length window) ⊎ (drop n (drop gate disk) ≡ [])
        either true is' = let full : 4101 ≤ length disk - gate = grind (arith, nat_tests) in inl (omega (arith, n_is, window_size, full))
        either false is' =
            let few : length disk - gate < 4101 = grind (arith, nat_tests) in
            let none : length (drop n (drop gate disk)) ≡ 0 = omega (arith, n_is, rest_size, few) in
            inr (none_left (drop n (drop gate disk)) none)

pub record_in : (kinds : ℕ) (window bytes : List ℕ) (record' : Record) → IsWindow window bytes → HasRecord kinds window record'
    → HasRecord kinds bytes record'
record_in kinds window bytes record' is has =
    subst (λ (l : List ℕ). HasRecord kinds l record') (sym is.split) (still_recorded kinds window is.tail record' has)

pub damaged_in : (kinds : ℕ) (window bytes : List ℕ) → IsWindow window bytes → ((k : ℕ) → damaged kinds k 0 window ≡ Some k) → (k : ℕ)
    → damaged kinds k 0 bytes ≡ Some k
damaged_in kinds window bytes is stops k =
    ap (λ (l : List ℕ). damaged kinds k 0 l) is.split ∙ still_damaged kinds window is.tail is.long is.more stops k

pub closed_in : (window bytes : List ℕ) → IsWindow window bytes → slice_index_or window 0 0 ≢ 1 → slice_index_or bytes 0 0 ≢ 1
closed_in window bytes is shut one = shut (sym (same_first window is.tail is.more) ∙ sym (ap (λ (l : List ℕ). slice_index_or l 0 0) is.split) ∙ one)

-- one record more is read
pub goes_on : (kinds : ℕ) (disk : List ℕ) (all all' : List Recorded) (gate next : ℕ) (record' : Record) → SoFar kinds disk all (drop gate disk)
    → HasRecord kinds (drop gate disk) record'
    → all' ≡ all ++ recorded record' ∷ [] → next ≡ gate + (length record'.text.items + 4) → SoFar kinds disk all' (drop next disk)
goes_on kinds disk all all' gate next record' so_far has grown is =
    let text = record'.text.items in
    let one : slice_index_or (drop gate disk) 0 0 ≡ 1 = ap (λ (l : List ℕ). slice_index_or l 0 0) has.gate in
    let behind : has.behind ≡ take (length (drop gate disk) - 1) (drop 1 (drop gate disk)) =
    ap (λ (l : List ℕ). drop 1 l) (sym has.gate) ∙ sym (take_rest (drop gate disk) 1) in
    let opened : drop gate disk ≡ (1 ∷ record'.kind ∷ has.starts.high ∷ has.starts.low ∷ text) ++ has.rest =
    has.gate ∙ ap (λ (l : List ℕ). 1 ∷ l) has.starts.split in
    let rest_is : has.rest ≡ drop next disk =
    sym (drop_at (1 ∷ record'.kind ∷ has.starts.high ∷ has.starts.low ∷ text) has.rest (length text + 4) (omega arith))
    ∙ ap (λ (l : List ℕ). drop (length text + 4) l) (sym opened) ∙ drop-drop (length text + 4) gate disk ∙ ap (λ (n : ℕ). drop n disk) (sym is) in
    subst (λ (l : List ℕ). SoFar kinds disk all' l) rest_is
    (one_more kinds disk all all' (drop gate disk) has.behind record'.kind text text has.rest so_far one behind has.starts refl grown)

-- the next gate has a place
pub next_fits : (kinds : ℕ) (disk : List ℕ) (gate : ℕ) (record' : Record) → HasRecord kinds (drop gate disk) record' → length disk < 2 ^ 64
    → gate + (length record'.text.items + 4) < 2 ^ 64
next_fits kinds disk gate record' has fits =
    omega (
      arith,
      length-drop gate disk,
      ap length has.gate,
      ap length has.starts.split,
      length-append (record'.kind ∷ has.starts.high ∷ has.starts.low ∷ record'.text.items) has.rest,
      has.starts.gate,
      fits,
    )

-- all is read at the closed gate
pub is_read : (kinds : ℕ) (disk : List ℕ) (all : List Recorded) (gate : ℕ) → kinds ≤ 5 → 73 ≤ length disk → length disk < 2 ^ 64
    → SoFar kinds disk all (drop gate disk) → slice_index_or (drop gate disk) 0 0 ≢ 1
    → IsRead kinds disk all gate
is_read kinds disk all gate few long fits so_far shut =
    let place : length disk - length (drop gate disk) ≡ gate = omega (arith, length-drop gate disk, so_far.more) in
    subst (λ (n : ℕ). IsRead kinds disk all n) place (all_read kinds disk all (drop gate disk) few long fits so_far shut)

-- the first record that isn't whole has the number of the records before it
pub stops_at : (kinds : ℕ) (disk : List ℕ) (all : List Recorded) (rest : List ℕ) → 73 ≤ length disk → SoFar kinds disk all rest
    → ((k : ℕ) → damaged kinds k 0 rest ≡ Some k)
    → damaged kinds 0 0 (drop 72 disk) ≡ Some (length all)
stops_at kinds disk all [] long so_far stops = absurd (omega (arith, so_far.more))
stops_at kinds disk all (gate ∷ tail) long so_far stops =
    ap (λ (l : List ℕ). damaged kinds 0 0 l) (drop_72 kinds disk all (gate ∷ tail) long so_far)
    ∙ front_whole kinds so_far.front all so_far.is_front 0 gate tail
    ∙ stops (0 + length all)
    ∙ ap (λ (n : ℕ). Some n) (omega arith)

-- the record that is found in a window, and why none is
pub found_in : (kinds : ℕ) (window bytes : List ℕ) → IsWindow window bytes → (result : Result (Option Record) OpenError)
    → IfOk result (λ found. IfSome found (HasRecord kinds window))
    → IfOk result (λ found. IfSome found (HasRecord kinds bytes))
found_in kinds window bytes is (Ok (Some record')) has = record_in kinds window bytes record' is has
found_in kinds window bytes is (Ok None) has = has
found_in kinds window bytes is (Err why) has = has

pub stopped_in : (kinds : ℕ) (told : Type 0) (window bytes : List ℕ) (number before now : ℕ) → (told → IsWindow window bytes)
    → (result : Result (Option Record) OpenError)
    → IfErr result (λ why. (why ≡ Memory) ⊎ ((why ≡ Damaged number) × (0 < length window → (n : ℕ) → damaged kinds n 0 window ≡ Some n)))
    → IfErr result (λ why. IsStopped kinds told bytes number before now why)
stopped_in kinds told window bytes number before now is (Ok found) stops = stops
stopped_in kinds told window bytes number before now is (Err why) (inl memory) =
    subst (λ (w : OpenError). IsStopped kinds told bytes number before now w) (sym memory) tt
stopped_in kinds told window bytes number before now is (Err why) (inr stops) =
    subst (λ (w : OpenError). IsStopped kinds told bytes number before now w) (sym stops.0)
    (refl, λ t. damaged_in kinds window bytes (is t) (stops.1 (is t).more))

-- the first 73 bytes of a disk, read into a piece of that size
pub start_of : (disk disk' : List ℕ) (n : ℕ) (old new start : List ℕ) → disk' ≡ disk → length old ≡ 73 → Fills disk' 0 n old new → start ≡ take n new
    → start ≡ take 73 disk
start_of disk disk' n old new start same size fills is =
    let n_is : n ≡ min 73 (length disk') = omega (arith, fills.count, size) in
    let front_size : length (take n disk') ≡ n = omega (arith, length-take n disk', n_is) in
    is ∙ ap (λ (l : List ℕ). take n l) fills.piece ∙ take_at (take n disk') (drop n old) n front_size
    ∙ ap (λ (k : ℕ). take k disk') n_is ∙ take_min 73 disk' ∙ ap (λ (l : List ℕ). take 73 l) same

module _ (header disk start : List ℕ) (is : start ≡ take 73 disk) where
  begins_as : (n : ℕ) → n ≤ 73 → take n start ≡ take n disk
  begins_as n within = ap (λ (l : List ℕ). take n l) is ∙ take-take n 73 disk within

  start_size : length start ≡ min 73 (length disk)
  start_size = ap length is ∙ length-take 73 disk

  -- each reason of the first bytes is one of the disk, whatever kinds of records there are
  no_journal : (kinds : ℕ) → Refuses header start NotAJournal → RefusesOf kinds header disk NotAJournal
  no_journal kinds (inl short) = inl (omega (arith, start_size, short))
  no_journal kinds (inr other) =
      inr (λ same. other.0 (begins_as 8 (omega arith) ∙ same), λ same. other.1 (begins_as 8 (omega arith) ∙ same))

  old_version : (kinds : ℕ) → Refuses header start OldVersion → RefusesOf kinds header disk OldVersion
  old_version kinds refused = (
    omega (arith, start_size, refused.0),
    λ same. refused.1 (begins_as 8 (omega arith) ∙ same),
    sym (begins_as 8 (omega arith)) ∙ refused.2,
  )

  other_policy : (kinds : ℕ) → Refuses header start OtherPolicy → RefusesOf kinds header disk OtherPolicy
  other_policy kinds refused =
      (omega (arith, start_size, refused.0), sym (begins_as 8 (omega arith)) ∙ refused.1, λ same. refused.2 (begins_as 72 (omega arith) ∙ same))

-- why the first bytes are refused, the disk is
pub start_refused : (kinds : ℕ) (told : Type 0) (header disk start : List ℕ) (before now : ℕ) (why : OpenError) → (told → start ≡ take 73 disk)
    → IsOfHeader why → Refuses header start why → IsRefusedOf kinds told header disk before now why
start_refused kinds told header disk start before now NotAJournal is of refused = λ t. no_journal header disk start (is t) kinds refused
start_refused kinds told header disk start before now OldVersion is of refused =
    (λ same. refused.1 (refused.2 ∙ sym same), λ t. old_version header disk start (is t) kinds refused)
start_refused kinds told header disk start before now OtherPolicy is of refused = λ t. other_policy header disk start (is t) kinds refused
start_refused kinds told header disk start before now (Damaged number) is of refused = absurd of
start_refused kinds told header disk start before now DiskFault is of refused = absurd of
start_refused kinds told header disk start before now Memory is of refused = tt

-- where the first bytes begin so, the disk does
pub start_begins : (header disk start : List ℕ) → start ≡ take 73 disk → take 72 start ≡ header → take 72 disk ≡ header
start_begins header disk start is begins = sym (begins_as header disk start is 72 (omega arith)) ∙ begins

-- why reading stops at a gate is why not all records were read
pub cut_at : (kinds : ℕ) (told : Type 0) (disk disk' : List ℕ) (all : List Recorded) (gate number first before now : ℕ) (why : OpenError)
    → first ≤ before → (told → 73 ≤ length disk) → disk' ≡ disk
    → (told → SoFar kinds disk' all (drop gate disk')) → number ≡ length all → IsStopped kinds told (drop gate disk') number before now why
    → IsCutShort kinds told disk first now why
cut_at kinds told disk disk' all gate number first before now Memory on long same so_far count stopped = tt
cut_at kinds told disk disk' all gate number first before now DiskFault on long same so_far count stopped = rose_since first before now on stopped
cut_at kinds told disk disk' all gate number first before now (Damaged other) on long same so_far count stopped = λ t.
    ap (λ (l : List ℕ). damaged kinds 0 0 (drop 72 l)) (sym same)
    ∙ stops_at kinds disk' all (drop gate disk') (subst (λ (l : List ℕ). 73 ≤ length l) (sym same) (long t)) (so_far t) (stopped.1 t)
    ∙ ap (λ (n : ℕ). Some n) (sym (stopped.0 ∙ count))
cut_at kinds told disk disk' all gate number first before now NotAJournal on long same so_far count stopped = absurd stopped
cut_at kinds told disk disk' all gate number first before now OtherPolicy on long same so_far count stopped = absurd stopped
cut_at kinds told disk disk' all gate number first before now OldVersion on long same so_far count stopped = absurd stopped

-- why not all records were read behind a header is why the journal is refused
pub cut_refused : (kinds : ℕ) (told : Type 0) (header disk disk' : List ℕ) (first before now : ℕ) (why : OpenError) → first ≤ before → disk' ≡ disk
    → (told → 73 ≤ length disk) → (told → take 72 disk ≡ header) → IsCutShort kinds told disk' before now why
    → IsRefusedOf kinds told header disk first now why
cut_refused kinds told header disk disk' first before now Memory on same long begins cut = tt
cut_refused kinds told header disk disk' first before now DiskFault on same long begins cut = rose_since first before now on cut
cut_refused kinds told header disk disk' first before now (Damaged number) on same long begins cut = λ t. (
  long t,
  begins t,
  ap (λ (l : List ℕ). damaged kinds 0 0 (drop 72 l)) (sym same) ∙ cut t,
)
cut_refused kinds told header disk disk' first before now NotAJournal on same long begins cut = absurd cut
cut_refused kinds told header disk disk' first before now OtherPolicy on same long begins cut = absurd cut
cut_refused kinds told header disk disk' first before now OldVersion on same long begins cut = absurd cut

-- a disk of which nothing was asked
pub only_none : (reads : List ℕ) (image : List ℕ → Type 0) (now : ℕ) (since : ℕ → List ℕ → Type 0) (faults : ℕ)
    → ((t : ℕ) (c : List ℕ) → t ≤ now → image c → since t c)
    → ((c : List ℕ) → since now c → image c) → IsOnlyRead reads reads image image now now since since faults faults
only_none reads image now since faults counts only = record {
  reads = refl;
  images = λ c is. is;
  moments = only;
  time = elapses_none now since image counts only;
  count = omega arith;
}

-- one call behind others
pub only_then : (reads reads' reads'' : List ℕ) (image image' image'' : List ℕ → Type 0) (before middle now : ℕ) (past since later : ℕ → List ℕ → Type 0)
    (faults faults' faults'' : ℕ)
    → IsOnlyRead reads reads' image image' before middle past since faults faults'
    → IsOnlyRead reads' reads'' image' image'' middle now since later faults' faults''
    → IsOnlyRead reads reads'' image image'' before now past later faults faults''
only_then reads reads' reads'' image image' image'' before middle now past since later faults faults' faults'' first second = record {
  reads = second.reads ∙ first.reads;
  images = λ c is. first.images c (second.images c is);
  moments = over_both before middle now since later image first.time.later second.time first.moments (λ c is. first.images c (second.moments c is));
  time = elapses_then before middle now past since later first.time second.time;
  count = omega (arith, first.count, second.count);
}
