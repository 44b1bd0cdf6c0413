-- Items as they are written are accepted.
use Rattle.std.proofs.Common.{◌≡◌, ◌≤◌, ◌==◌, ℕ, Bool, true, false, ◌&&◌, ◌||◌, List, [], ◌∷◌, ◌++◌, length, map, Option, Some, None, Ok, Err, Result}
use Rattle.std.proofs.Common.{refl, sym, ap, subst, ◌∙◌, arith, append_assoc, append-nil, length-append}
use Rattle.std.specs.Prelude.{if◌then◌else◌, codes, nat_le}
use Rattle.std.specs.List.{list_all, list_any}
use Rattle.std.proofs.lemmas.Bool.{leb-true}
use Rattle.cqe_base.specs.declared.user.Mark.{Mark}
use Rattle.cqe_base.specs.declared.user.Mark.TheVariants.{Yes, No, Refused, Undecided, Protected}
use Rattle.cqe_base.specs.declared.user.Purpose.TheVariants.{Asking, Protecting}
use Rattle.cqe_base.specs.Schema.{DatabaseSchema, Text, is_valid_schema}
use Rattle.cqe_base.specs.Facts.{FactSet}
use Rattle.cqe_base.specs.Formula.{Formula}
use Rattle.cqe_base.specs.Tokens.{Token, tokens_from}
use Rattle.cqe_base.specs.Reading.{Scope, Refusal as Unread, reading}
use Rattle.cqe_base.specs.Grammar.{Part, Begins, one_and, more_and, one_or, more_or, no_arrow, one_arrow, no_double_arrow, one_double_arrow}
use Rattle.cqe_base.specs.History.{UserProfile, AnsweredQuery, History, log, user_at}
use Rattle.cqe_base.specs.Censor.{probes}
use Rattle.cqe_base.specs.Limits.{KeepsSizesAt, KeepsSizes}
use Rattle.cqe_base.specs.Transcript.{mark_text}
use Rattle.cqe_base.proofs.Truths.{and_first, and_second}
use Rattle.cqe_base.proofs.GrammarIsRead.{reading-sound}
use Rattle.log_journal.specs.Records.{Recorded, is_record}
use Rattle.user_desk.specs.Entries.{kind_of, mark_of, entry_by, entry_of}
use Rattle.user_desk.specs.Causes.{is_beyond}
use Rattle.soundness.specs.Sound.{IsSoundItem, IsSound, is_settled}
use Rattle.soundness.proofs.Marking.{verdicts_give_marks}
use Rattle.dossier.specs.Fields.{FieldSaid}
use Rattle.dossier.specs.Words.{mark_named}
use Rattle.dossier.specs.Right.{AreRightBlocks, IsRightItem, AreRightItems}
use Rattle.dossier.specs.Checked.{asking, adding, Awaited, item, addition_probe, behind_item, mark_shown, behind_task, awaited_for, sentence_in, asked}
use Rattle.dossier.specs.Checked.{ask_line, added, protect_line, item_line}
use Rattle.dossier.specs.declared.error.DossierError.{DossierError}
use Rattle.dossier.specs.declared.error.DossierError.TheVariants as refused
use Rattle.dossier.proofs.Asks.{not-beyond, within}
use Rattle.dossier.proofs.Ended.{none-both, same-byte}
use Rattle.dossier.proofs.Feeds.{reading-lacks}
use Rattle.dossier.proofs.Leads.{field-with, Leads, leads-none, leads-both, leads-line}
use Rattle.dossier.proofs.BlocksLead.{follows, blocks-lead}

-- ---- texts of sentences

-- no part of a sentence begins where no token is
nothing-begins : {schema : DatabaseSchema} {part : Part} {room : ℕ} {scope : Scope} {a : Formula} {rest : List Token}
    → Begins schema part room scope [] a rest → ⊥
nothing-begins (one_and a) = nothing-begins a
nothing-begins (more_and a is b) = nothing-begins a
nothing-begins (one_or a) = nothing-begins a
nothing-begins (more_or a is b) = nothing-begins a
nothing-begins (no_arrow a) = nothing-begins a
nothing-begins (one_arrow a is b) = nothing-begins a
nothing-begins (no_double_arrow a) = nothing-begins a
nothing-begins (one_double_arrow a is b) = nothing-begins a

-- a text that reads isn't empty
some-text : (schema : DatabaseSchema) (said : Text) (query : Formula) → reading schema said ≡ Ok query → 1 ≤ length said
unfolding tokens_from
some-text schema [] query read = absurd (nothing-begins (reading-sound schema [] query read).derives)
some-text schema (b ∷ said) query read = omega arith

-- ---- records

-- what an item has of its record
pub record HasRecord (schema : DatabaseSchema) (text : Text) (entry : AnsweredQuery) : Type 0 where
  pub reads : reading schema text ≡ Ok entry.query
  pub sized : length text ≡ entry.length

record-parts : (schema : DatabaseSchema) (text : Text) (mark : Option Mark) (read : Result Formula Unread) (entry : AnsweredQuery)
    → reading schema text ≡ read → entry_by text mark read ≡ Some entry → HasRecord schema text entry
record-parts schema text None (Ok query) entry reads is = absurd cc
record-parts schema text None (Err why) entry reads is = absurd cc
record-parts schema text (Some mark) (Err why) entry reads is = absurd cc
record-parts schema text (Some mark) (Ok query) entry reads is =
    let made : AnsweredQuery = record { query = query; mark = mark; length = length text } in
    let same : made ≡ entry = cc in
    record { reads = reads ∙ ap (λ (e : AnsweredQuery). Ok e.query) same; sized = ap (λ (e : AnsweredQuery). e.length) same }

module _ (schema : DatabaseSchema) (world : FactSet) (name : Text) (user : UserProfile) (valid : is_valid_schema schema ≡ true) where
  abbrev LeadsOn : Result Awaited DossierError → Text → Result Awaited DossierError → Type 0
  LeadsOn first text after = Leads schema world name user first text after

  abbrev one : Formula → Mark → ℕ → AnsweredQuery
  one query mark size = record { query = query; mark = mark; length = size }

  module _ (entries : History) (query : Formula) (said : Text) (read : reading schema said ≡ Ok query) (short : length said ≤ 4096) where
    -- ---- the line of an ask

    said-line : (n : ℕ) (mark : Mark) (text : Text) → 1 ≤ length text
        → ask_line schema world name user n entries (Some mark) text
        ≡ asked schema world name user n entries mark (length text) (sentence_in schema user entries Asking text)
    said-line n mark [] some = absurd (omega (arith, some))
    said-line n mark (b ∷ text) some = refl

    module _ (mark : Mark) (named : mark_named (mark_text mark) ≡ Some mark) (no_blank : list_any (λ b. b == 32) (mark_text mark) ≡ false)
        (no_feed : list_any (λ b. b == 10) (mark_text mark) ≡ false)
        (fits : is_beyond schema user entries Asking (length said) query ≡ false) where
      -- it asks for this sentence
      line-asks : (n : ℕ)
          → item_line schema world name user entries (record { line = n; word = codes "ask"; rest = mark_text mark ++ 32 ∷ said })
          ≡ asked schema world name user n entries mark (length said) (Some query)
      line-asks n =
          ap (λ (f : FieldSaid). ask_line schema world name user n entries (mark_named f.word) f.rest)
          (field-with n (mark_text mark) said no_blank (some-text schema said query read))
          ∙ ap (λ m. ask_line schema world name user n entries m said) named
          ∙ said-line n mark said (some-text schema said query read)
          ∙ ap (asked schema world name user n entries mark (length said))
          (sym (within schema user entries Asking said short query read fits))

      -- behind it stands what follows
      ask-leads : (blocks : Text) (after : ℕ → Result Awaited DossierError) (last : Result Awaited DossierError)
          → ((n : ℕ) → asked schema world name user n entries mark (length said) (Some query) ≡ after n)
          → ((n : ℕ) → LeadsOn (after n) blocks last)
          → LeadsOn (Ok (item entries)) (codes "ask" ++ 32 ∷ (mark_text mark ++ 32 ∷ said) ++ codes "\n" ++ blocks) last
      ask-leads blocks after last steps further =
          leads-line schema world name user (item entries) (codes "ask" ++ 32 ∷ (mark_text mark ++ 32 ∷ said)) blocks after last
          (none-both (λ b. b == 10) (codes "ask ") (mark_text mark ++ 32 ∷ said) refl
          (none-both (λ b. b == 10) (mark_text mark) (32 ∷ said) no_feed (reading-lacks schema said query read)))
          (λ n. ap (item_line schema world name user entries) (field-with n (codes "ask") (mark_text mark ++ 32 ∷ said) refl some-behind)
          ∙ line-asks n ∙ steps n)
          further
        where
          some-behind : 1 ≤ length (mark_text mark ++ 32 ∷ said)
          some-behind = omega (arith, length-append (mark_text mark) (32 ∷ said))

      -- the verdicts on its probes
      abbrev verdicts_there : List Bool
      verdicts_there = map (follows schema world name user) (probes (user_at user entries) (log user entries) query)

      -- right verdicts show the mark
      settled-leads : is_settled mark ≡ true → IsSoundItem schema world user entries (one query mark (length said)) → (n : ℕ) (blocks : Text)
          → AreRightBlocks schema (probes (user_at user entries) (log user entries) query) blocks
          → LeadsOn
          (awaited_for schema world name user entries (asking n mark query (length said)) (probes (user_at user entries) (log user entries) query) [])
          blocks (Ok (behind_item entries query mark (length said)))
      settled-leads settled sound n blocks are =
          subst (λ after. LeadsOn
          (awaited_for schema world name user entries (asking n mark query (length said)) (probes (user_at user entries) (log user entries) query) [])
          blocks after) same
          (blocks-lead schema world name user valid entries (asking n mark query (length said))
          (probes (user_at user entries) (log user entries) query) [] blocks are tt)
        where
          shown : mark_shown schema world name user entries query verdicts_there ≡ mark
          shown = verdicts_give_marks schema world user entries query verdicts_there refl ∙ sym (sound.has_mark settled)

          same : behind_task schema world name user entries (asking n mark query (length said)) verdicts_there
              ≡ Ok (behind_item entries query mark (length said))
          same =
              ap (λ m. if kind_of mark == kind_of m then Ok (behind_item entries query mark (length said)) else Err (refused.Mark n))
              shown
              ∙ ap (λ b. if b then Ok (behind_item entries query mark (length said)) else Err (refused.Mark n))
              (same-byte (kind_of mark))

    -- ---- the line of an addition

    added-line : (n : ℕ) (text : Text) → 1 ≤ length text
        → protect_line schema world name user n entries text
        ≡ added schema world name user n entries (length text) (sentence_in schema user entries Protecting text)
    added-line n [] some = absurd (omega (arith, some))
    added-line n (b ∷ text) some = refl

    added-leads : is_beyond schema user entries Protecting (length said) query ≡ false
        → IsSoundItem schema world user entries (one query Protected (length said)) → (blocks : Text)
        → AreRightBlocks schema (addition_probe user entries query ∷ []) blocks
        → LeadsOn (Ok (item entries)) (codes "protect" ++ 32 ∷ said ++ codes "\n" ++ blocks)
        (Ok (behind_item entries query Protected (length said)))
    added-leads fits sound blocks are =
        leads-line schema world name user (item entries) (codes "protect" ++ 32 ∷ said) blocks
        (λ n. awaited_for schema world name user entries (adding query (length said)) (addition_probe user entries query ∷ []) [])
        (Ok (behind_item entries query Protected (length said)))
        (none-both (λ b. b == 10) (codes "protect ") said refl (reading-lacks schema said query read))
        (λ n. ap (item_line schema world name user entries) (field-with n (codes "protect") said refl (some-text schema said query read))
        ∙ added-line n said (some-text schema said query read)
        ∙ ap (added schema world name user n entries (length said)) (sym (within schema user entries Protecting said short query read fits)))
        (λ n. blocks-lead schema world name user valid entries (adding query (length said)) (addition_probe user entries query ∷ []) [] blocks are
        (ap (λ b. b || false) (sound.is_unentailed refl)))

    -- ---- an item

    item-by : (mark : Mark) → KeepsSizesAt schema user entries (one query mark (length said))
        → IsSoundItem schema world user entries (one query mark (length said))
        → (text : Text) → IsRightItem schema user entries (one query mark (length said)) said text
        → LeadsOn (Ok (item entries)) text (Ok (behind_item entries query mark (length said)))
    item-by Yes sizes sound text (blocks, are, is) =
        subst (λ t. LeadsOn (Ok (item entries)) t (Ok (behind_item entries query Yes (length said)))) (sym is)
        (ask-leads Yes refl refl refl (not-beyond schema user entries (length said) query Yes sizes) blocks
        (λ n. awaited_for schema world name user entries (asking n Yes query (length said)) (probes (user_at user entries) (log user entries) query) [])
        (Ok (behind_item entries query Yes (length said))) (λ n. refl)
        (λ n. settled-leads Yes refl refl refl (not-beyond schema user entries (length said) query Yes sizes) refl sound n blocks are))
    item-by No sizes sound text (blocks, are, is) =
        subst (λ t. LeadsOn (Ok (item entries)) t (Ok (behind_item entries query No (length said)))) (sym is)
        (ask-leads No refl refl refl (not-beyond schema user entries (length said) query No sizes) blocks
        (λ n. awaited_for schema world name user entries (asking n No query (length said)) (probes (user_at user entries) (log user entries) query) [])
        (Ok (behind_item entries query No (length said))) (λ n. refl)
        (λ n. settled-leads No refl refl refl (not-beyond schema user entries (length said) query No sizes) refl sound n blocks are))
    item-by Refused sizes sound text (blocks, are, is) =
        subst (λ t. LeadsOn (Ok (item entries)) t (Ok (behind_item entries query Refused (length said)))) (sym is)
        (ask-leads Refused refl refl refl (not-beyond schema user entries (length said) query Refused sizes) blocks
        (λ n. awaited_for schema world name user entries (asking n Refused query (length said)) (probes (user_at user entries) (log user entries) query) [])
        (Ok (behind_item entries query Refused (length said))) (λ n. refl)
        (λ n. settled-leads Refused refl refl refl (not-beyond schema user entries (length said) query Refused sizes) refl sound n blocks are))
    item-by Undecided sizes sound text (blocks, are, is) =
        subst (λ t. LeadsOn (Ok (item entries)) t (Ok (behind_item entries query Undecided (length said)))) (sym is)
        (ask-leads Undecided refl refl refl (not-beyond schema user entries (length said) query Undecided sizes) blocks
        (λ n. Ok (behind_item entries query Undecided (length said)))
        (Ok (behind_item entries query Undecided (length said))) (λ n. refl)
        (λ n. subst (λ t. LeadsOn (Ok (behind_item entries query Undecided (length said))) t
        (Ok (behind_item entries query Undecided (length said)))) (sym are)
        (leads-none schema world name user (Ok (behind_item entries query Undecided (length said))))))
    item-by Protected sizes sound text (blocks, are, is) =
        subst (λ t. LeadsOn (Ok (item entries)) t (Ok (behind_item entries query Protected (length said)))) (sym is)
        (added-leads (not-beyond schema user entries (length said) query Protected sizes) sound blocks are)

  item-leads : (entries : History) (entry : AnsweredQuery) (said text : Text) → HasRecord schema said entry → length said ≤ 4096
      → KeepsSizesAt schema user entries entry → IsSoundItem schema world user entries entry → IsRightItem schema user entries entry said text
      → LeadsOn (Ok (item entries)) text (Ok (item (entries ++ entry ∷ [])))
  item-leads entries entry said text has short sizes sound is =
      let same : entry ≡ one entry.query entry.mark (length said) =
      λ i. record { query = entry.query; mark = entry.mark; length = sym has.sized i } in
      subst (λ e. LeadsOn (Ok (item entries)) text (Ok (item (entries ++ e ∷ [])))) (sym same)
      (item-by entries entry.query said has.reads short entry.mark (subst (KeepsSizesAt schema user entries) same sizes)
      (subst (IsSoundItem schema world user entries) same sound) text (subst (λ e. IsRightItem schema user entries e said text) same is))

  -- ---- items

  -- those of records that stand for a sound history within the limits
  pub items-lead : (all : History) → KeepsSizes schema user all → IsSound schema world user all → (before entries : History) → all ≡ before ++ entries
      → (records : List Recorded) (text : Text) → list_all (is_record 5) records ≡ true → map (entry_of schema) records ≡ map Some entries
      → AreRightItems schema user before records text → LeadsOn (Ok (item before)) text (Ok (item all))
  items-lead all sizes sound before [] parts [] text kept stands none =
      subst (λ t. LeadsOn (Ok (item before)) t (Ok (item all))) (sym none)
      (subst (λ e. LeadsOn (Ok (item before)) [] (Ok (item e))) (sym (parts ∙ append-nil before)) (leads-none schema world name user (Ok (item before))))
  items-lead all sizes sound before [] parts (r ∷ records) text kept stands are = absurd cc
  items-lead all sizes sound before (e ∷ entries) parts [] text kept stands none = absurd cc
  items-lead all sizes sound before (e ∷ entries) parts (next ∷ more) text kept stands (entry, is, first, rest, is_item, others, text_is) =
      let heads : entry_of schema next ≡ Some e = cc in
      let tails : map (entry_of schema) more ≡ map Some entries = cc in
      let both : Some entry ≡ Some e = sym is ∙ heads in
      let same : entry ≡ e = cc in
      let has = record-parts schema next.1 (mark_of next.0) (reading schema next.1) e refl heads in
      let short : length next.1 ≤ 4096 = leb-true (length next.1) 4096
      (and_second (nat_le 1 next.0 && nat_le next.0 5) (nat_le (length next.1) 4096) (and_first _ _ kept)) in
      let further : all ≡ (before ++ e ∷ []) ++ entries = parts ∙ sym (append_assoc before (e ∷ []) entries) in
      subst (λ t. LeadsOn (Ok (item before)) t (Ok (item all))) (sym text_is)
      (leads-both schema world name user (Ok (item before)) (Ok (item (before ++ e ∷ []))) (Ok (item all)) first rest
      (item-leads before e next.1 first has short (sizes before e entries parts) (sound before e entries parts)
      (subst (λ x. IsRightItem schema user before x next.1 first) same is_item))
      (items-lead all sizes sound (before ++ e ∷ []) entries further more rest (and_second _ _ kept) tails
      (subst (λ x. AreRightItems schema user (before ++ x ∷ []) more rest) same others)))
