-- The items of a text that is accepted: they are those of records, and within the limits.
use Rattle.std.proofs.Common.{◌≡◌, ◌≤◌, ℕ, zero, suc, ◌+◌, ◌==◌, Bool, true, false, ◌&&◌, List, [], ◌∷◌, ◌++◌, length, map, Option, Some, None, Ok}
use Rattle.std.proofs.Common.{Err, refl, sym, ap, inl, inr, subst, ◌∙◌, arith, append_assoc, append-nil, length-append}
use Rattle.std.specs.Prelude.{if◌then◌else◌, bytes_eq, codes, decimal, nat_le}
use Rattle.std.specs.List.{list_all}
use Rattle.std.specs.Cmp.Lexicographic.{same_text}
use Rattle.std.proofs.lemmas.Bool.{and_from, or_parts, le-leb}
use Rattle.std.proofs.lemmas.Fmt.{decimal_nonempty}
use Rattle.cqe_base.specs.declared.user.Mark.{Mark}
use Rattle.cqe_base.specs.declared.user.Mark.TheVariants.{Yes, No, Refused, Undecided, Protected}
use Rattle.cqe_base.specs.declared.user.Purpose.TheVariants.{Asking, Protecting}
use Rattle.cqe_base.specs.Schema.{DatabaseSchema, Text}
use Rattle.cqe_base.specs.Facts.{FactSet}
use Rattle.cqe_base.specs.Formula.{Formula}
use Rattle.cqe_base.specs.Reading.{reading}
use Rattle.cqe_base.specs.History.{UserProfile, AnsweredQuery, History, log, is_added, user_at}
use Rattle.cqe_base.specs.Censor.{probes}
use Rattle.cqe_base.specs.Limits.{KeepsSizesAt, KeepsSizes}
use Rattle.cqe_base.specs.Run.{is_too_large}
use Rattle.cqe_base.specs.Transcript.{mark_text}
use Rattle.cqe_base.proofs.OfSchema.{readings_are_sentences}
use Rattle.log_journal.specs.Records.{Recorded, is_record}
use Rattle.user_log.proofs.Keeping.{sizes_push}
use Rattle.user_desk.specs.Entries.{kind_of, mark_of, entry_by, entry_of}
use Rattle.dossier.specs.Fields.{field_of}
use Rattle.dossier.specs.Words.{mark_named}
use Rattle.dossier.specs.Written.{item_head, item_probes, done_text}
use Rattle.dossier.specs.Right.{AreRightBlocks, AreRightItems}
use Rattle.dossier.specs.Checked.{asking, adding, item, nothing, addition_probe, behind_item, mark_shown, behind_task, awaited_for}
use Rattle.dossier.specs.Checked.{sentence_in, asked, ask_line, added, protect_line, item_line}
use Rattle.dossier.specs.declared.error.DossierError.TheVariants as refused
use Rattle.dossier.proofs.Added.{asked-fits, added-fits}
use Rattle.dossier.proofs.Asks.{some-within, asked-within, added-within}
use Rattle.dossier.proofs.Few.{few-items}
use Rattle.dossier.proofs.LinesBack.{joined, joined-one, joined-both, word-back, LineIs}
use Rattle.dossier.proofs.Traced.{word_of_line, rest_of_line, is-followed, Runs, GoesOn, goes-none, blocks-shown}

-- ---- marks

-- a word that names a mark is its text, and the mark is that of an ask
record IsNamed (word : Text) (mark : Mark) : Type 0 where
  text_is : word ≡ mark_text mark
  of_ask : is_added mark ≡ false

named : (word : Text) (mark : Mark) → mark_named word ≡ Some mark → IsNamed word mark
named word mark e =
    by (bytes_eq word (codes "yes")) refl (bytes_eq word (codes "no")) refl (bytes_eq word (codes "refused")) refl
    (bytes_eq word (codes "undecided")) refl e
  where
    found : (m : Mark) → Some m ≡ Some mark → bytes_eq word (mark_text m) ≡ true → is_added m ≡ false → IsNamed word mark
    found m same is none =
        let it : m ≡ mark = cc in
        subst (IsNamed word) it (record { text_is = same_text word (mark_text m) (sym is); of_ask = none })

    by : (a : Bool) → bytes_eq word (codes "yes") ≡ a → (b : Bool) → bytes_eq word (codes "no") ≡ b
        → (c : Bool) → bytes_eq word (codes "refused") ≡ c → (d : Bool) → bytes_eq word (codes "undecided") ≡ d
        → (if a then Some Yes else if b then Some No else if c then Some Refused else if d then Some Undecided else None) ≡ Some mark
        → IsNamed word mark
    by true is b b_is c c_is d d_is e = found Yes e is refl
    by false a_is true is c c_is d d_is e = found No e is refl
    by false a_is false b_is true is d d_is e = found Refused e is refl
    by false a_is false b_is false c_is true is e = found Undecided e is refl
    by false a_is false b_is false c_is false d_is e = absurd cc

-- the record of a mark and a text stands for an item with them
kind-kept : (mark : Mark) → (nat_le 1 (kind_of mark) && nat_le (kind_of mark) 5) ≡ true
kind-kept Yes = refl
kind-kept No = refl
kind-kept Refused = refl
kind-kept Undecided = refl
kind-kept Protected = refl

mark-kept : (mark : Mark) → mark_of (kind_of mark) ≡ Some mark
mark-kept Yes = refl
mark-kept No = refl
mark-kept Refused = refl
mark-kept Undecided = refl
mark-kept Protected = refl

-- the line of an ask
ask-head : (mark : Mark) → is_added mark ≡ false → (said : Text) → codes "ask" ++ 32 ∷ (mark_text mark ++ 32 ∷ said) ++ codes "\n" ≡ item_head mark said
ask-head Yes isnt said = refl
ask-head No isnt said = refl
ask-head Refused isnt said = refl
ask-head Undecided isnt said = refl
ask-head Protected isnt said = absurd cc

module _ (schema : DatabaseSchema) (world : FactSet) (name : Text) (user : UserProfile) (all : History) where
  abbrev one : Formula → Mark → ℕ → AnsweredQuery
  one query mark size = record { query = query; mark = mark; length = size }

  -- the lines are the items of records behind these, and the end
  pub record HasItems (before : History) (lines : List Text) : Type 0 where
    pub records : List Recorded
    pub entries : History
    pub whole : all ≡ before ++ entries
    pub kept : list_all (is_record 5) records ≡ true
    pub stand : map (entry_of schema) records ≡ map Some entries
    pub items : Text
    pub are : AreRightItems schema user before records items
    pub text_is : joined lines ≡ items ++ done_text (length all)
    pub sizes : KeepsSizes schema user all

  -- ---- the end

  last-none : (before : History) (n : ℕ) (lines : List Text) → Runs schema world name user all (Ok (nothing before)) n lines → (lines ≡ []) × (before ≡ all)
  last-none before n [] runs = let same : before ≡ all = cc in (refl, same)
  last-none before n (line ∷ lines) runs = absurd cc

  end-has : (before : History) → KeepsSizes schema user before → (line : Text) (lines : List Text) (n : ℕ)
      → bytes_eq (word_of_line line) (codes "done") ≡ true → bytes_eq (rest_of_line line) (decimal (length before)) ≡ true
      → Runs schema world name user all (Ok (nothing before)) n lines → HasItems before (line ∷ lines)
  end-has before sizes line lines n word rest runs =
      let (none, same) = last-none before n lines runs in
      let few : length before ≤ 4096 = few-items schema user before sizes in
      let count : rest_of_line line ≡ decimal (length before) = same_text (rest_of_line line) (decimal (length before)) (sym rest) in
      let digits = decimal_nonempty (length before) (omega (arith, few)) in
      let some : 1 ≤ length (rest_of_line line) = (let long = ap length count in omega (arith, digits, long)) in
      let said : line ≡ codes "done" ++ 32 ∷ decimal (length all) =
      is-followed line (codes "done") word some ∙ ap (λ t. codes "done" ++ 32 ∷ t) (count ∙ ap (λ h. decimal (length h)) same) in
      record {
        records = [];
        entries = [];
        whole = sym same ∙ sym (append-nil before);
        kept = refl;
        stand = refl;
        items = [];
        are = refl;
        text_is = ap (λ ls. joined (line ∷ ls)) none ∙ joined-one line ∙ ap (λ l. l ++ codes "\n") said;
        sizes = subst (KeepsSizes schema user) same sizes;
      }

  -- ---- one more item

  -- what is known of the text of an item
  record IsSaid (before : History) (query : Formula) (mark : Mark) (said : Text) : Type 0 where
    short : length said ≤ 4096
    reads : reading schema said ≡ Ok query
    fits : KeepsSizesAt schema user before (one query mark (length said))

  -- what is read behind it
  abbrev Further : History → List Text → Type 0
  Further before lines = KeepsSizes schema user before → (n : ℕ) (rest : List Text) → length rest ≤ length lines
      → Runs schema world name user all (Ok (item before)) n rest → HasItems before rest

  item-has : (before : History) → KeepsSizes schema user before → (line : Text) (lines : List Text) (query : Formula) (mark : Mark) (said : Text)
      → IsSaid before query mark said → line ++ codes "\n" ≡ item_head mark said
      → Further (before ++ one query mark (length said) ∷ []) lines
      → GoesOn schema world name user all (AreRightBlocks schema (item_probes schema user before mark query))
      (Ok (item (before ++ one query mark (length said) ∷ []))) lines
      → HasItems before (line ∷ lines)
  item-has before sizes line lines query mark said is head go blocks =
      let entry = one query mark (length said) in
      let small : length blocks.rest ≤ length lines =
      (let long = ap length blocks.parts ∙ length-append blocks.first blocks.rest in omega (arith, long)) in
      let has = go (sizes_push schema user before entry sizes is.fits) blocks.number blocks.rest small blocks.further in
      let stands : entry_of schema (kind_of mark, said) ≡ Some entry = λ i. entry_by said (mark-kept mark i) (is.reads i) in
      let lines_are : joined lines ≡ joined blocks.first ++ joined blocks.rest = ap joined blocks.parts ∙ joined-both blocks.first blocks.rest in
      record {
        records = (kind_of mark, said) ∷ has.records;
        entries = entry ∷ has.entries;
        whole = has.whole ∙ append_assoc before (entry ∷ []) has.entries;
        kept = and_from _ (list_all (is_record 5) has.records)
            (and_from (nat_le 1 (kind_of mark) && nat_le (kind_of mark) 5) (nat_le (length said) 4096) (kind-kept mark) (le-leb (length said) 4096 is.short))
            has.kept;
        stand = λ i. stands i ∷ has.stand i;
        items = item_head mark said ++ joined blocks.first ++ has.items;
        are = (
          entry,
          stands,
          item_head mark said ++ joined blocks.first,
          has.items,
          (joined blocks.first, blocks.is, refl),
          has.are,
          refl,
        );
        text_is = (λ i. head i ++ lines_are i) ∙ ap (λ t. item_head mark said ++ (joined blocks.first ++ t)) has.text_is
            ∙ sym (append_assoc (item_head mark said ++ joined blocks.first) has.items (done_text (length all))
            ∙ append_assoc (item_head mark said) (joined blocks.first) (has.items ++ done_text (length all)));
        sizes = has.sizes;
      }

  -- ---- asks

  module _ (before : History) (sizes : KeepsSizes schema user before) (line : Text) (lines : List Text) where
    module _ (n : ℕ) (query : Formula) (mark : Mark) (said : Text) (is : IsSaid before query mark said) (head : line ++ codes "\n" ≡ item_head mark said)
        (go : Further (before ++ one query mark (length said) ∷ []) lines) where
      asked-settled : (item_probes schema user before mark query ≡ probes (user_at user before) (log user before) query)
          → Runs schema world name user all
          (awaited_for schema world name user before (asking n mark query (length said)) (probes (user_at user before) (log user before) query) [])
          (n + 1) lines
          → HasItems before (line ∷ lines)
      asked-settled own runs =
          let (verdicts, blocks) = blocks-shown schema world name user all before (asking n mark query (length said))
          (probes (user_at user before) (log user before) query) [] (n + 1) lines runs in
          item-has before sizes line lines query mark said is head go
          (subst (λ ps. GoesOn schema world name user all (AreRightBlocks schema ps) (Ok (item (before ++ one query mark (length said) ∷ []))) lines) (sym own)
          (by verdicts (kind_of mark == kind_of (mark_shown schema world name user before query verdicts)) blocks blocks.further))
        where
          by : (verdicts : List Bool) (b : Bool)
              → (blocks : GoesOn schema world name user all (AreRightBlocks schema (probes (user_at user before) (log user before) query))
              (behind_task schema world name user before (asking n mark query (length said)) verdicts) lines)
              → Runs schema world name user all (if b then Ok (behind_item before query mark (length said)) else Err (refused.Mark n)) blocks.number blocks.rest
              → GoesOn schema world name user all (AreRightBlocks schema (probes (user_at user before) (log user before) query))
              (Ok (item (before ++ one query mark (length said) ∷ []))) lines
          by verdicts true blocks further = record {
            first = blocks.first;
            rest = blocks.rest;
            parts = blocks.parts;
            is = blocks.is;
            number = blocks.number;
            further = further;
          }
          by verdicts false blocks further = absurd cc

    asked-has : (n : ℕ) (query : Formula) (mark : Mark) (said : Text) → is_added mark ≡ false → IsSaid before query mark said
        → line ++ codes "\n" ≡ item_head mark said → Further (before ++ one query mark (length said) ∷ []) lines
        → Runs schema world name user all (asked schema world name user n before mark (length said) (Some query)) (n + 1) lines
        → HasItems before (line ∷ lines)
    asked-has n query Yes said isnt is head go runs = asked-settled n query Yes said is head go refl runs
    asked-has n query No said isnt is head go runs = asked-settled n query No said is head go refl runs
    asked-has n query Refused said isnt is head go runs = asked-settled n query Refused said is head go refl runs
    asked-has n query Protected said isnt is head go runs = absurd cc
    asked-has n query Undecided said isnt is head go runs =
        item-has before sizes line lines query Undecided said is head go
        (goes-none schema world name user all (AreRightBlocks schema []) (Ok (item (before ++ one query Undecided (length said) ∷ []))) (n + 1) lines refl runs)

    -- the items of more lines
    module _ (go : (query : Formula) (mark : Mark) (said : Text) → Further (before ++ one query mark (length said) ∷ []) lines) (n : ℕ) where
      ask-text : (mark : Mark) → IsNamed (word_of_line (rest_of_line line)) mark → bytes_eq (word_of_line line) (codes "ask") ≡ true
          → (said : Text) → rest_of_line (rest_of_line line) ≡ said → 1 ≤ length said → line ++ codes "\n" ≡ item_head mark said
      ask-text mark is_named is said said_is some = whole (word-back (rest_of_line line))
        where
          whole : LineIs (rest_of_line line) (word_of_line (rest_of_line line)) (rest_of_line (rest_of_line line)) → line ++ codes "\n" ≡ item_head mark said
          whole (inl (none, same)) = let empty = ap length (sym said_is ∙ none) in absurd (omega (arith, some, empty))
          whole (inr (more, same)) =
              let rest : rest_of_line line ≡ mark_text mark ++ 32 ∷ said = same ∙ (λ i. is_named.text_is i ++ 32 ∷ said_is i) in
              let long : 1 ≤ length (rest_of_line line) =
              (let size = ap length rest ∙ length-append (mark_text mark) (32 ∷ said) in omega (arith, size)) in
              ap (λ l. l ++ codes "\n") (is-followed line (codes "ask") is long ∙ ap (λ t. codes "ask" ++ 32 ∷ t) rest)
              ∙ ask-head mark is_named.of_ask said

      ask-some : (mark : Mark) → mark_named (word_of_line (rest_of_line line)) ≡ Some mark → bytes_eq (word_of_line line) (codes "ask") ≡ true
          → (said : Text) → rest_of_line (rest_of_line line) ≡ said → 1 ≤ length said → (found : Option Formula)
          → sentence_in schema user before Asking said ≡ found
          → Runs schema world name user all (asked schema world name user n before mark (length said) found) (n + 1) lines → HasItems before (line ∷ lines)
      ask-some mark mark_is is said said_is some None found runs = by mark runs
        where
          by : (m : Mark) → Runs schema world name user all (asked schema world name user n before m (length said) None) (n + 1) lines
              → HasItems before (line ∷ lines)
          by Yes runs = absurd cc
          by No runs = absurd cc
          by Refused runs = absurd cc
          by Undecided runs = absurd cc
          by Protected runs = absurd cc
      ask-some mark mark_is is said said_is some (Some query) found runs =
          let is_named = named (word_of_line (rest_of_line line)) mark mark_is in
          let (short, reads, within) = some-within schema user before Asking said query (sym found) in
          asked-has n query mark said is_named.of_ask
          (record {
            short = short;
            reads = reads;
            fits = asked-fits schema user before query mark (length said) (readings_are_sentences schema said query reads) is_named.of_ask
                (asked-within schema user before (length said) query within);
          })
          (ask-text mark is_named is said said_is some) (go query mark said) runs

      ask-has : bytes_eq (word_of_line line) (codes "ask") ≡ true → (mark : Option Mark) → mark_named (word_of_line (rest_of_line line)) ≡ mark
          → (said : Text) → rest_of_line (rest_of_line line) ≡ said
          → Runs schema world name user all (ask_line schema world name user n before mark said) (n + 1) lines → HasItems before (line ∷ lines)
      ask-has is None mark_is said said_is runs = absurd cc
      ask-has is (Some mark) mark_is [] said_is runs = absurd cc
      ask-has is (Some mark) mark_is (b ∷ said) said_is runs =
          ask-some mark mark_is is (b ∷ said) said_is (omega arith) (sentence_in schema user before Asking (b ∷ said)) refl runs

      -- ---- additions

      added-has : bytes_eq (word_of_line line) (codes "protect") ≡ true → (said : Text) → rest_of_line line ≡ said → 1 ≤ length said
          → (found : Option Formula) → sentence_in schema user before Protecting said ≡ found
          → Runs schema world name user all (added schema world name user n before (length said) found) (n + 1) lines → HasItems before (line ∷ lines)
      added-has is said said_is some None found runs = absurd cc
      added-has is said said_is some (Some secret) found runs =
          let (short, reads, within) = some-within schema user before Protecting said secret (sym found) in
          let fits = added-within schema user before (length said) secret within in
          let small = or_parts (is_too_large schema user before secret) _ fits.1 in
          let head : line ++ codes "\n" ≡ item_head Protected said =
          ap (λ l. l ++ codes "\n")
          (is-followed line (codes "protect") is (subst (λ t. 1 ≤ length t) (sym said_is) some) ∙ ap (λ t. codes "protect" ++ 32 ∷ t) said_is) in
          let (verdicts, blocks) = blocks-shown schema world name user all before (adding secret (length said)) (addition_probe user before secret ∷ []) []
          (n + 1) lines runs in
          item-has before sizes line lines secret Protected said
          (record {
            short = short;
            reads = reads;
            fits = added-fits schema user before secret (length said) (readings_are_sentences schema said secret reads) small.0 fits;
          })
          head (go secret Protected said) blocks

      protect-has : bytes_eq (word_of_line line) (codes "protect") ≡ true → (said : Text) → rest_of_line line ≡ said
          → Runs schema world name user all (protect_line schema world name user n before said) (n + 1) lines → HasItems before (line ∷ lines)
      protect-has is [] said_is runs = absurd cc
      protect-has is (b ∷ said) said_is runs =
          added-has is (b ∷ said) said_is (omega arith) (sentence_in schema user before Protecting (b ∷ said)) refl runs

      -- ---- any line

      line-has : Runs schema world name user all (item_line schema world name user before (field_of n line)) (n + 1) lines → HasItems before (line ∷ lines)
      line-has runs =
          by (bytes_eq (word_of_line line) (codes "ask")) refl (bytes_eq (word_of_line line) (codes "protect")) refl
          (bytes_eq (word_of_line line) (codes "done")) refl (bytes_eq (rest_of_line line) (decimal (length before))) refl runs
        where
          by : (a : Bool) → bytes_eq (word_of_line line) (codes "ask") ≡ a → (b : Bool) → bytes_eq (word_of_line line) (codes "protect") ≡ b
              → (c : Bool) → bytes_eq (word_of_line line) (codes "done") ≡ c → (d : Bool) → bytes_eq (rest_of_line line) (decimal (length before)) ≡ d
              → Runs schema world name user all
              (if a then ask_line schema world name user n before (mark_named (word_of_line (rest_of_line line))) (rest_of_line (rest_of_line line))
              else if b then protect_line schema world name user n before (rest_of_line line)
              else if c && d then Ok (nothing before) else Err (refused.Form n)) (n + 1) lines
              → HasItems before (line ∷ lines)
          by true is b b_is c c_is d d_is runs =
              ask-has is (mark_named (word_of_line (rest_of_line line))) refl (rest_of_line (rest_of_line line)) refl runs
          by false a_is true is c c_is d d_is runs = protect-has is (rest_of_line line) refl runs
          by false a_is false b_is true c_is true d_is runs = end-has before sizes line lines (n + 1) c_is d_is runs
          by false a_is false b_is true c_is false d_is runs = absurd cc
          by false a_is false b_is false c_is d d_is runs = absurd cc

  -- the items of so many lines at most
  pub items-shown : (room : ℕ) (before : History) → KeepsSizes schema user before → (n : ℕ) (lines : List Text) → length lines ≤ room
      → Runs schema world name user all (Ok (item before)) n lines → HasItems before lines
  items-shown zero before sizes n [] few runs = absurd cc
  items-shown zero before sizes n (line ∷ lines) few runs = absurd (omega (arith, few))
  items-shown (suc room) before sizes n [] few runs = absurd cc
  items-shown (suc room) before sizes n (line ∷ lines) few runs =
      line-has before sizes line lines
      (λ query mark said more m rest less goes.
      items-shown room (before ++ one query mark (length said) ∷ []) more m rest (omega (arith, few, less)) goes)
      n runs
