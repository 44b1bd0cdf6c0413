-- Records and the items that they stand for, as these are written.
use Rattle.std.proofs.Common.{◌≡◌, ◌≢◌, ◌≤◌, ℕ, Bool, true, false, List, [], ◌∷◌, ◌++◌, length, map, Option, Some, Result, Ok, Err}
use Rattle.std.proofs.Common.{refl, sym, ap, subst, ◌∙◌, append_assoc, append-nil}
use Rattle.std.specs.Prelude.{codes}
use Rattle.std.proofs.lemmas.Bool.{both_ways}
use Rattle.cqe_base.specs.declared.user.Mark.{Mark}
use Rattle.cqe_base.specs.declared.user.Mark.TheVariants.{Yes, No, Refused, Undecided, Protected}
use Rattle.cqe_base.specs.declared.user.Method.{Method}
use Rattle.cqe_base.specs.declared.user.Method.TheVariants.{Lying, Refusal, Combined}
use Rattle.cqe_base.specs.declared.user.Purpose.{Purpose}
use Rattle.cqe_base.specs.declared.user.Purpose.TheVariants.{Asking, Protecting}
use Rattle.cqe_base.specs.Schema.{DatabaseSchema, Text}
use Rattle.cqe_base.specs.Facts.{FactSet}
use Rattle.cqe_base.specs.Formula.{Formula}
use Rattle.cqe_base.specs.Truth.{true_in}
use Rattle.cqe_base.specs.Entailment.{Signed}
use Rattle.cqe_base.specs.Reading.{Refusal as Unread, reading}
use Rattle.cqe_base.specs.History.{UserProfile, AnsweredQuery, History, is_added, log, user_at}
use Rattle.cqe_base.specs.Censor.{probes, spent, implied, yes_harm, no_harm, mark_by, rule, mark_after, safe_after}
use Rattle.cqe_base.specs.Limits.{KeepsSizesAt}
use Rattle.cqe_base.specs.Transcript.{mark_text}
use Rattle.log_journal.specs.Records.{Recorded}
use Rattle.user_desk.specs.Entries.{mark_of, purpose_by, entry_by, entry_of}
use Rattle.dossier.specs.Written.{item_head, item_probes, AreBlocks, IsItem, AreItems}
use Rattle.dossier.specs.Adding.{AreUnspent, IsWithin, IsNextLegal}
use Rattle.dossier.specs.Adding.{AddsItem, AddsSaid}
use Rattle.dossier.specs.Told.{is_undecided}
use Rattle.dossier.specs.Logs.{past_schema}
use Rattle.dossier.specs.declared.past.Past.{Past}

-- ---- marks

pub added-is : (mark : Mark) → is_added mark ≡ true → mark ≡ Protected
added-is Yes is = absurd cc
added-is No is = absurd cc
added-is Refused is = absurd cc
added-is Undecided is = absurd cc
added-is Protected is = refl

pub asking-by : (mark : Mark) → is_added mark ≡ false → purpose_by mark ≡ Asking
asking-by Yes isnt = refl
asking-by No isnt = refl
asking-by Refused isnt = refl
asking-by Undecided isnt = refl
asking-by Protected isnt = absurd cc

pub undecided-is : (mark : Mark) → is_undecided mark ≡ true → mark ≡ Undecided
undecided-is Yes is = absurd cc
undecided-is No is = absurd cc
undecided-is Refused is = absurd cc
undecided-is Undecided is = refl
undecided-is Protected is = absurd cc

pub decided-is : (mark : Mark) → is_undecided mark ≡ false → mark ≢ Undecided
decided-is mark isnt is = both_ways (is_undecided mark) isnt (ap is_undecided is)

-- the line of an ask
pub ask-head : (mark : Mark) (said : Text) → is_added mark ≡ false
    → codes "ask " ++ (mark_text mark ++ codes " ") ++ said ++ codes "\n" ≡ item_head mark said
ask-head Yes said isnt = ap (λ t. t ++ said ++ codes "\n") (sym (append_assoc (codes "ask ") (mark_text Yes) (codes " ")))
ask-head No said isnt = ap (λ t. t ++ said ++ codes "\n") (sym (append_assoc (codes "ask ") (mark_text No) (codes " ")))
ask-head Refused said isnt = ap (λ t. t ++ said ++ codes "\n") (sym (append_assoc (codes "ask ") (mark_text Refused) (codes " ")))
ask-head Undecided said isnt = ap (λ t. t ++ said ++ codes "\n") (sym (append_assoc (codes "ask ") (mark_text Undecided) (codes " ")))
ask-head Protected said isnt = absurd cc

-- an ask that isn't undecided shows all probes of its query
pub asked-probes : (schema : DatabaseSchema) (user : UserProfile) (before : History) (mark : Mark) (query : Formula) → is_added mark ≡ false
    → mark ≢ Undecided → item_probes schema user before mark query ≡ probes (user_at user before) (log user before) query
asked-probes schema user before Yes query asked isnt = refl
asked-probes schema user before No query asked isnt = refl
asked-probes schema user before Refused query asked isnt = refl
asked-probes schema user before Undecided query asked isnt = absurd (isnt refl)
asked-probes schema user before Protected query asked isnt = absurd cc

-- ---- the mark of the rule

by-cost : (m : Method) (s : Bool) (given : Option Bool) (pro con truth : Bool) → mark_by m s given pro con truth ≢ Undecided → s ≡ false
by-cost Lying true given pro con truth isnt = absurd (isnt refl)
by-cost Refusal true given pro con truth isnt = absurd (isnt refl)
by-cost Combined true given pro con truth isnt = absurd (isnt refl)
by-cost Lying false given pro con truth isnt = refl
by-cost Refusal false given pro con truth isnt = refl
by-cost Combined false given pro con truth isnt = refl

-- where the rule decides, no probe is spent
pub rule-unspent : (schema : DatabaseSchema) (world : FactSet) (user : UserProfile) (told : List Signed) (query : Formula)
    → rule schema world user told query ≢ Undecided → AreUnspent schema user.budget (probes user told query)
unfolding rule spent
rule-unspent schema world user told query isnt =
    by-cost user.method (spent schema user told query) (implied schema user told query) (yes_harm schema user told query)
    (no_harm schema user told query) (true_in schema world query) isnt

-- ---- what a record says

module _ (schema : DatabaseSchema) (kind : ℕ) (text : Text) (mark : Mark) (marked : mark_of kind ≡ Some mark) where
  -- its sentence, and the item
  pub entry-parts : (entry : AnsweredQuery) → entry_of schema (kind, text) ≡ Some entry
      → (query : Formula) × (reading schema text ≡ Ok query) × (entry ≡ record { query = query; mark = mark; length = length text })
  entry-parts entry is = by (reading schema text) refl (sym (ap (λ m. entry_by text m (reading schema text)) marked) ∙ is)
    where
      by : (read : Result Formula Unread) → reading schema text ≡ read → entry_by text (Some mark) read ≡ Some entry
          → (query : Formula) × (reading schema text ≡ Ok query) × (entry ≡ record { query = query; mark = mark; length = length text })
      by (Err why) reads is = absurd cc
      by (Ok query) reads is =
          let same : record { query = query; mark = mark; length = length text } ≡ entry = cc in
          (query, reads, sym same)

  -- the item of a sentence
  pub entry-is : (query : Formula) → reading schema text ≡ Ok query
      → entry_of schema (kind, text) ≡ Some (record { query = query; mark = mark; length = length text })
  entry-is query reads = λ i. entry_by text (marked i) (reads i)

  module _ (world : FactSet) (user : UserProfile) (before : History) (said : Text) (said_is : said ≡ text)
      (next : IsNextLegal schema world user before (kind, text)) where
    pub reads-said : (query : Formula) × (reading schema text ≡ Ok query)
    reads-said =
        let (entry, is, legal, sizes) = next in
        let (query, reads, same) = entry-parts entry is in
        (query, reads)

    pub within-of : length text ≤ 4096 → (purpose : Purpose) → purpose_by mark ≡ purpose → IsWithin schema user before purpose mark said
    within-of short purpose purpose_is =
        let (entry, is, legal, sizes) = next in
        let (query, reads, same) = entry-parts entry is in
        subst (IsWithin schema user before purpose mark) (sym said_is)
        (query, reads, purpose_is, short, subst (KeepsSizesAt schema user before) same sizes)

    pub added-within : length text ≤ 4096 → is_added mark ≡ true → IsWithin schema user before Protecting Protected said
    added-within short added =
        subst (λ m. IsWithin schema user before Protecting m said) (added-is mark added)
        (within-of short Protecting (ap purpose_by (added-is mark added)))

    -- the sentence of an addition is safe
    pub safe-of : is_added mark ≡ true → (secret : Formula) → reading schema said ≡ Ok secret → safe_after schema user before secret ≡ true
    safe-of added secret reads_said =
        let (entry, is, legal, sizes) = next in
        let (query, reads, same) = entry-parts entry is in
        let results : Ok query ≡ Ok secret = sym reads ∙ ap (reading schema) (sym said_is) ∙ reads_said in
        let sentence : query ≡ secret = cc in
        subst (λ s. safe_after schema user before s ≡ true) sentence
        (subst (λ (e : AnsweredQuery). safe_after schema user before e.query ≡ true) same
        (legal.is_safe (ap (λ (e : AnsweredQuery). is_added e.mark) same ∙ added)))

    -- no probe of an ask that was decided is spent
    pub unspent-of : is_added mark ≡ false → mark ≢ Undecided → (query : Formula) → reading schema said ≡ Ok query
        → AreUnspent schema user.budget (probes (user_at user before) (log user before) query)
    unspent-of asked isnt secret reads_said =
        let (entry, is, legal, sizes) = next in
        let (query, reads, same) = entry-parts entry is in
        let results : Ok query ≡ Ok secret = sym reads ∙ ap (reading schema) (sym said_is) ∙ reads_said in
        let sentence : query ≡ secret = cc in
        let has : entry.mark ≡ mark_after schema world user before entry.query =
        legal.has_mark (ap (λ (e : AnsweredQuery). is_added e.mark) same ∙ asked) in
        let mark_is : mark ≡ mark_after schema world user before secret =
        sym (ap (λ (e : AnsweredQuery). e.mark) same) ∙ has ∙ ap (λ (e : AnsweredQuery). mark_after schema world user before e.query) same
        ∙ ap (mark_after schema world user before) sentence in
        rule-unspent schema world (user_at user before) (log user before) secret (λ undecided. isnt (mark_is ∙ undecided))

-- the sentence of a text within the limits came within them
pub read-within : (schema : DatabaseSchema) (user : UserProfile) (before : History) (purpose : Purpose) (mark : Mark) (said : Text)
    → IsWithin schema user before purpose mark said → (query : Formula) → reading schema said ≡ Ok query
    → KeepsSizesAt schema user before (record { query = query; mark = mark; length = length said })
read-within schema user before purpose mark said (known, reads, purpose_is, short, sizes) query read =
    let results : Ok known ≡ Ok query = sym reads ∙ read in
    let same : known ≡ query = cc in
    subst (λ q. KeepsSizesAt schema user before (record { query = q; mark = mark; length = length said })) same sizes

-- what was added for its text was added for the record
pub adds-item : (before after : Past) (kind : ℕ) (text : Text) (mark : Mark) (said old new : Text) → mark_of kind ≡ Some mark → said ≡ text
    → AddsSaid mark said before after old new → AddsItem (kind, text) before after old new
adds-item before after kind text mark said old new marked said_is adds =
    let (query, reads, added) = subst (λ t. AddsSaid mark t before after old new) said_is adds in
    (record { query = query; mark = mark; length = length text }, entry-is (past_schema before) kind text mark marked query reads, added)

pub adds-secret : (before after : Past) (kind : ℕ) (text : Text) (mark : Mark) (said old new : Text) → mark_of kind ≡ Some mark → said ≡ text
    → is_added mark ≡ true → AddsSaid Protected said before after old new → AddsItem (kind, text) before after old new
adds-secret before after kind text mark said old new marked said_is added adds =
    adds-item before after kind text mark said old new marked said_is (subst (λ m. AddsSaid m said before after old new) (sym (added-is mark added)) adds)

-- ---- the text of an item

module _ (schema : DatabaseSchema) (user : UserProfile) (before : History) (entry : AnsweredQuery) (said : Text) where
  pub item-of : (line blocks : Text) → line ≡ item_head entry.mark said → AreBlocks schema (item_probes schema user before entry.mark entry.query) blocks
      → IsItem schema user before entry said (line ++ blocks)
  item-of line blocks head are = (blocks, are, ap (λ t. t ++ blocks) head)

-- ---- items one after the other

-- a list that begins with what these stand for goes on with what the next stands for
pub part-at : {X Y : Type 0} (f : X → Option Y) (read : List X) (next : X) (rest : List X) (before entries : List Y)
    → map f (read ++ next ∷ rest) ≡ map Some entries → map f read ≡ map Some before
    → (entry : Y) × (after : List Y) × (entries ≡ before ++ entry ∷ after) × (f next ≡ Some entry)
part-at f [] next rest [] [] all so_far = absurd cc
part-at f [] next rest [] (entry ∷ after) all so_far = let is : f next ≡ Some entry = cc in (entry, after, refl, is)
part-at f [] next rest (b ∷ before) entries all so_far = absurd cc
part-at f (x ∷ read) next rest [] entries all so_far = absurd cc
part-at f (x ∷ read) next rest (b ∷ before) [] all so_far = absurd cc
part-at f (x ∷ read) next rest (b ∷ before) (e ∷ entries) all so_far =
    let heads : Some e ≡ Some b = cc in
    let same : e ≡ b = cc in
    let tails : map f (read ++ next ∷ rest) ≡ map Some entries = cc in
    let befores : map f read ≡ map Some before = cc in
    let (entry, after, parts, is) = part-at f read next rest before entries tails befores in
    (entry, after, (λ i. same i ∷ parts i), is)

module _ (schema : DatabaseSchema) (user : UserProfile) where
  -- one more item
  pub items-more : (before : History) (records : List Recorded) (history : History) (next : Recorded) (entry : AnsweredQuery) (text more : Text)
      → map (entry_of schema) records ≡ map Some history → entry_of schema next ≡ Some entry → AreItems schema user before records text
      → IsItem schema user (before ++ history) entry next.1 more → AreItems schema user before (records ++ next ∷ []) (text ++ more)
  items-more before [] [] next entry text more stands is none item = (
    entry,
    is,
    more,
    [],
    subst (λ b. IsItem schema user b entry next.1 more) (append-nil before) item,
    refl,
    ap (λ t. t ++ more) none ∙ sym (append-nil more),
  )
  items-more before [] (h ∷ history) next entry text more stands is none item = absurd cc
  items-more before (r ∷ records) [] next entry text more stands is items item = absurd cc
  items-more before (r ∷ records) (h ∷ history) next entry text more stands is (e, e_is, first, rest, e_item, others, parts) item =
      let here : entry_of schema r ≡ Some h = cc in
      let heads : Some e ≡ Some h = sym e_is ∙ here in
      let same : h ≡ e = cc in
      let tails : map (entry_of schema) records ≡ map Some history = cc in
      let where_at : before ++ (h ∷ history) ≡ (before ++ e ∷ []) ++ history =
      ap (λ x. before ++ (x ∷ history)) same ∙ sym (append_assoc before (e ∷ []) history) in (
        e,
        e_is,
        first,
        rest ++ more,
        e_item,
        items-more (before ++ e ∷ []) records history next entry rest more tails is others (subst (λ b. IsItem schema user b entry next.1 more) where_at item),
        ap (λ t. t ++ more) parts ∙ append_assoc first rest more,
      )
