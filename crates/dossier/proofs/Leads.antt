-- What a text shows behind its first part.
use Rattle.std.proofs.Common.{◌≡◌, ◌≤◌, ◌+◌, ◌==◌, ℕ, false, [], ◌∷◌, ◌++◌, length, Ok, Result, refl, ap, ◌∙◌, arith, append_assoc}
use Rattle.std.specs.Prelude.{codes}
use Rattle.std.specs.List.{list_any}
use Rattle.cqe_base.specs.Schema.{DatabaseSchema, Text}
use Rattle.cqe_base.specs.Facts.{FactSet}
use Rattle.cqe_base.specs.History.{UserProfile, History}
use Rattle.dossier.specs.Fields.{WordAndRest, ended_parts, field_of, fields_from}
use Rattle.dossier.specs.Checked.{Awaited, after_line, checked_from}
use Rattle.dossier.specs.declared.error.DossierError.{DossierError}
use Rattle.dossier.proofs.Ended.{ended-at, word-at, word-only}

-- ---- lines

-- the line of a word and what follows it
pub field-with : (n : ℕ) (word rest : Text) → list_any (λ b. b == 32) word ≡ false → 1 ≤ length rest
    → field_of n (word ++ 32 ∷ rest) ≡ record { line = n; word = word; rest = rest }
field-with n word [] none some = absurd (omega (arith, some))
field-with n word (b ∷ rest) none some = ap (λ (w : WordAndRest). record { line = n; word = w.0; rest = w.1 }) (word-at word b rest none)

-- that of a word alone
pub field-alone : (n : ℕ) (word : Text) → list_any (λ b. b == 32) word ≡ false → field_of n word ≡ record { line = n; word = word; rest = [] }
field-alone n word none = ap (λ (w : WordAndRest). record { line = n; word = w.0; rest = w.1 }) (word-only word none)

module _ (schema : DatabaseSchema) (world : FactSet) (name : Text) (user : UserProfile) where
  -- what a text shows where this is awaited, and its first line has this number
  abbrev pub shows : Result Awaited DossierError → ℕ → Text → Result History DossierError
  shows awaited n text = checked_from schema world name user awaited n (fields_from n (ended_parts 10 text))

  -- behind a text something else is awaited, whatever follows it
  abbrev pub Leads : Result Awaited DossierError → Text → Result Awaited DossierError → Type 0
  Leads first text after = (n : ℕ) (more : Text) → (m : ℕ) × (shows first n (text ++ more) ≡ shows after m more)

  pub leads-none : (first : Result Awaited DossierError) → Leads first [] first
  leads-none first n more = (n, refl)

  pub leads-both : (first second third : Result Awaited DossierError) (text behind : Text) → Leads first text second → Leads second behind third
      → Leads first (text ++ behind) third
  leads-both first second third text behind one two n more =
      let here = one n (behind ++ more) in
      let there = two here.0 more in
      (there.0, ap (shows first n) (append_assoc text behind more) ∙ here.1 ∙ there.1)

  -- a line, without its line feed
  line-shown : (first : Awaited) (n : ℕ) (line rest : Text) → list_any (λ b. b == 10) line ≡ false
      → shows (Ok first) n (line ++ 10 ∷ rest) ≡ shows (after_line schema world name user first (field_of n line)) (n + 1) rest
  line-shown first n line rest none =
      ap (λ parts. checked_from schema world name user (Ok first) n (fields_from n parts)) (ended-at 10 line rest none)

  -- what is awaited behind it may depend on its number
  pub leads-line : (first : Awaited) (line rest : Text) (second : ℕ → Result Awaited DossierError) (third : Result Awaited DossierError)
      → list_any (λ b. b == 10) line ≡ false
      → ((n : ℕ) → after_line schema world name user first (field_of n line) ≡ second n)
      → ((n : ℕ) → Leads (second n) rest third) → Leads (Ok first) (line ++ codes "\n" ++ rest) third
  leads-line first line rest second third none steps further n more =
      let there = further n (n + 1) more in (
        there.0,
        ap (shows (Ok first) n) (append_assoc (line ++ codes "\n") rest more ∙ append_assoc line (codes "\n") (rest ++ more))
            ∙ line-shown first n line (rest ++ more) none ∙ ap (λ awaited. shows awaited (n + 1) (rest ++ more)) (steps n) ∙ there.1,
      )

  pub leads-one : (first : Awaited) (line : Text) (second : Result Awaited DossierError) → list_any (λ b. b == 10) line ≡ false
      → ((n : ℕ) → after_line schema world name user first (field_of n line) ≡ second) → Leads (Ok first) (line ++ codes "\n") second
  leads-one first line second none steps n more = (
    n + 1,
    ap (shows (Ok first) n) (append_assoc line (codes "\n") more)
        ∙ line-shown first n line more none ∙ ap (λ awaited. shows awaited (n + 1) more) (steps n),
  )
