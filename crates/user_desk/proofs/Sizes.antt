-- How many bytes the journal of a desk has.
use Rattle.std.proofs.Common.{◌≡◌, ℕ, ◌+◌, ◌≤◌, max, List, [], ◌∷◌, ◌++◌, length, map, refl, sym, ap, ◌∙◌, subst, arith, length-append}
use Rattle.std.specs.Prelude.{Option, Some, None, Result, Ok, Err, sum_by}
use Rattle.std.proofs.lemmas.List.Sums.{sum_by-append, sum_by-cons}
use Rattle.cqe_base.specs.declared.user.Mark.{Mark}
use Rattle.cqe_base.specs.Schema.{DatabaseSchema, Text}
use Rattle.cqe_base.specs.Formula.{Formula}
use Rattle.cqe_base.specs.Reading.{Refusal, reading}
use Rattle.cqe_base.specs.History.{AnsweredQuery, History}
use Rattle.log_journal.specs.Records.{Recorded, written, needed_bytes, Adds}
use Rattle.log_journal.specs.Walk.{records}
use Rattle.user_desk.specs.Entries.{mark_of, entry_by, entry_of, StandsFor, bytes_needed, IsNoLonger}
use Rattle.user_desk.proofs.Bytes.{are_more}

-- an entry has the length of its record's text
length_by : (text : Text) (mark : Option Mark) (read : Result Formula Refusal) (entry : AnsweredQuery) → entry_by text mark read ≡ Some entry
    → length text ≡ entry.length
length_by text (Some mark) (Ok query) entry is =
    let same : record { query = query; mark = mark; length = length text } ≡ entry = cc in
    ap (λ (e : AnsweredQuery). e.length) same
length_by text (Some mark) (Err why) entry is = absurd cc
length_by text None (Ok query) entry is = absurd cc
length_by text None (Err why) entry is = absurd cc

-- records need as many bytes as the entries for which they stand
written_size : (schema : DatabaseSchema) (all : List Recorded) (entries : History) → map (entry_of schema) all ≡ map Some entries
    → length (written all) ≡ sum_by (λ entry. 4 + entry.length) entries
written_size schema [] [] are = refl
written_size schema [] (entry ∷ entries) are = absurd cc
written_size schema (one ∷ all) [] are = absurd cc
written_size schema (one ∷ all) (entry ∷ entries) are =
    let head : entry_of schema one ≡ Some entry = cc in
    let tail : map (entry_of schema) all ≡ map Some entries = cc in
    let here = length_by one.1 (mark_of one.0) (reading schema one.1) entry head in
    let rest = written_size schema all entries tail in
    let one_more = sum_by-cons (λ (e : AnsweredQuery). 4 + e.length) entry entries in
    omega (arith, here, rest, one_more, length-append one.1 (written all))

-- a journal with a record more has no more bytes than before, or than it needs
pub size_added : (schema : DatabaseSchema) (header : List ℕ) (entries entries' : History) (entry : AnsweredQuery) (next : Recorded)
    (first first' old bytes new : List ℕ) → entry_of schema next ≡ Some entry → StandsFor schema header entries bytes → entries' ≡ entries ++ entry ∷ []
    → first' ≡ first → bytes ≡ old → Adds bytes next new
    → IsNoLonger first entries old → IsNoLonger first' entries' new
size_added schema header entries entries' entry next first first' old bytes new is stands grown began same adds before =
    let most = (adds header (records bytes) stands.journal).1 in
    let needs = written_size schema (records bytes ++ next ∷ []) (entries ++ entry ∷ []) (are_more schema (records bytes) entries next entry stands.are is) in
    let fewer : sum_by (λ (e : AnsweredQuery). 4 + e.length) entries ≤ sum_by (λ (e : AnsweredQuery). 4 + e.length) (entries ++ entry ∷ []) =
    omega (arith, sum_by-append (λ (e : AnsweredQuery). 4 + e.length) entries (entry ∷ [])) in
    let now = ap (λ (h : History). sum_by (λ (e : AnsweredQuery). 4 + e.length) h) grown in
    let first_size = ap length began in
    let old_size = ap length same in
    omega (arith, most, needs, fewer, now, first_size, old_size, before)

-- at the opening it is as it was
pub size_at_opening : (entries : History) (first bytes : List ℕ) → first ≡ bytes → IsNoLonger first entries bytes
size_at_opening entries first bytes same = let size = ap length same in omega (arith, size)
