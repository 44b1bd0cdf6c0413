-- The text of a dossier, as it is written.
use Rattle.std.specs.Prelude.{◌≡◌, ◌≤◌, ◌⊎◌, ℕ, true, false, List, [], ◌∷◌, ◌++◌, length, map}
use Rattle.std.specs.Prelude.{Some, IsUtf8, codes, decimal}
use Rattle.std.specs.List.{flat_map, list_all}
use Rattle.std.specs.List.Sorted.{IsStrictlySortedBy}
use Rattle.cqe_base.specs.declared.user.Mark.{Mark}
use Rattle.cqe_base.specs.declared.user.Mark.TheVariants.{Undecided, Protected}
use Rattle.cqe_base.specs.declared.world.Fact.{Fact}
use Rattle.cqe_base.specs.Schema.{DatabaseSchema, Text}
use Rattle.cqe_base.specs.Facts.{FactSet, fact_cmp, is_fact_of}
use Rattle.cqe_base.specs.Formula.{Formula}
use Rattle.cqe_base.specs.Literal.{Literal, Positive, Negative, variable_of, sign_at}
use Rattle.cqe_base.specs.History.{UserProfile, AnsweredQuery, History, known, log, user_at}
use Rattle.cqe_base.specs.ClauseForm.{numbering_of, world_of as model_world}
use Rattle.cqe_base.specs.Refutation.{RefutationLine, is_refutation}
use Rattle.cqe_base.specs.Machine.{End, Ended, Model, Refuted, MachineEnds}
use Rattle.cqe_base.specs.Outcome.{grounded_probe}
use Rattle.cqe_base.specs.Censor.{Probe, guarded, probes, probes_against, IsLegal}
use Rattle.cqe_base.specs.Limits.{KeepsSizes}
use Rattle.cqe_base.specs.Transcript.{mark_text}
use Rattle.log_journal.specs.Records.{Recorded}
use Rattle.entailment.specs.Certificates.{clauses_of_probe}
use Rattle.entailment.specs.Budgets.{variables_of}
use Rattle.entailment.specs.Small.{is_small_line}
use Rattle.audit_text.specs.Text.{world_text}
use Rattle.audit_print.specs.Said.{IsListing, world_said, method_word}
use Rattle.user_desk.specs.Entries.{entry_of}
use Rattle.dossier.specs.Words.{listed_world}
use Rattle.dossier.specs.Checked.{is_countermodel, addition_probe}

-- ---- blocks

-- the sign of a literal
abbrev pub sign_text : Literal → Text
sign_text (Positive v) = codes "+"
sign_text (Negative v) = codes "-"

-- a literal: its sign and the number of its variable, with a blank behind it
abbrev pub literal_text : Literal → Text
literal_text literal = sign_text literal ++ decimal (variable_of literal) ++ codes " "

-- a number, with a blank before it
abbrev pub number_text : ℕ → Text
number_text n = codes " " ++ decimal n

-- a line of a refutation
abbrev pub refutation_line_text : RefutationLine → Text
refutation_line_text line =
    codes "line " ++ flat_map literal_text line.clause ++ codes ":"
    ++ flat_map number_text line.chain ++ codes "\n"

-- a block with these lines of a refutation
abbrev pub follows_text : List RefutationLine → Text
follows_text lines = codes "follows\n" ++ flat_map refutation_line_text lines ++ codes "end\n"

-- a block that lists these facts
abbrev pub open_text : DatabaseSchema → List Fact → Text
open_text schema facts =
    codes "open " ++ world_text (Some (world_said schema facts)) ++ codes "\n"

-- a block lists the facts of a world in which the premises of a probe are true and its goal false
abbrev pub IsOpenBlock : DatabaseSchema → Probe → Text → Type 0
IsOpenBlock schema probe text =
    (facts : List Fact) × IsStrictlySortedBy fact_cmp facts × (length facts ≤ 100000)
    × (list_all (is_fact_of schema) facts ≡ true)
    × (is_countermodel schema probe (listed_world facts) ≡ true)
    × (text ≡ open_text schema facts)

-- a block lists the facts of this world, in their order
abbrev pub IsOpenListing : DatabaseSchema → FactSet → Text → Type 0
IsOpenListing schema world text =
    (facts : List Fact) × IsListing (Some facts) (Some world) × (text ≡ open_text schema facts)

-- a block has a refutation that is right for the clauses of a probe, with numbers that are read
abbrev pub IsFollowsBlock : DatabaseSchema → Probe → Text → Type 0
IsFollowsBlock schema probe text =
    (lines : List RefutationLine)
    × (is_refutation (clauses_of_probe schema probe.premises probe.goal) lines ≡ true)
    × (list_all is_small_line lines ≡ true) × (text ≡ follows_text lines)

-- a block shows whether the premises of a probe entail its goal
abbrev pub IsRightBlock : DatabaseSchema → Probe → Text → Type 0
IsRightBlock schema probe text = IsOpenBlock schema probe text ⊎ IsFollowsBlock schema probe text

-- a block shows an end of the machine: the refutation, or the facts that the model makes true
abbrev pub ShowsEnd : DatabaseSchema → Probe → End → Text → Type 0
ShowsEnd schema probe (Refuted lines) text = text ≡ follows_text lines
ShowsEnd schema probe (Model signs) text =
    let formulas = grounded_probe schema probe.premises probe.goal in
    IsOpenListing schema (model_world (numbering_of formulas).facts (sign_at signs)) text

-- a block shows the end of the machine on the clauses of a probe, whatever that costs
abbrev pub ShowsMachine : DatabaseSchema → Probe → Text → Type 0
ShowsMachine schema probe text =
    (ended : Ended) × MachineEnds (clauses_of_probe schema probe.premises probe.goal)
    (variables_of schema probe.premises probe.goal) ended
    × ShowsEnd schema probe ended.end text

-- the block that is written of a probe: it is right, and that of the machine's end
abbrev pub IsBlock : DatabaseSchema → Probe → Text → Type 0
IsBlock schema probe text = IsRightBlock schema probe text × ShowsMachine schema probe text

-- the blocks of these probes, one after the other
abbrev pub AreBlocks : DatabaseSchema → List Probe → Text → Type 0
AreBlocks schema [] text = text ≡ []
AreBlocks schema (probe ∷ more) text =
    (first rest : Text) × IsBlock schema probe first × AreBlocks schema more rest
    × (text ≡ first ++ rest)

-- ---- items

-- the line of an item with the text of its record
abbrev pub item_head : Mark → Text → Text
item_head Protected said = codes "protect " ++ said ++ codes "\n"
item_head mark said = codes "ask " ++ mark_text mark ++ codes " " ++ said ++ codes "\n"

module _ (schema : DatabaseSchema) (user : UserProfile) where
  -- the probes that an item shows behind the items before it
  abbrev pub item_probes : (before : History) → Mark → Formula → List Probe
  item_probes before Undecided query = []
  item_probes before Protected secret = addition_probe user before secret ∷ []
  item_probes before mark query = probes (user_at user before) (log user before) query

  -- the text of an item behind the items before it
  abbrev pub IsItem : (before : History) → AnsweredQuery → (said : Text) → Text → Type 0
  IsItem before entry said text =
      (blocks : Text) × AreBlocks schema (item_probes before entry.mark entry.query) blocks
      × (text ≡ item_head entry.mark said ++ blocks)

  -- the text of the items of records, one after the other
  abbrev pub AreItems : (before : History) → List Recorded → Text → Type 0
  AreItems before [] text = text ≡ []
  AreItems before (next ∷ more) text =
      (entry : AnsweredQuery) × (entry_of schema next ≡ Some entry)
      × (first rest : Text) × IsItem before entry next.1 first
      × AreItems (before ++ entry ∷ []) more rest × (text ≡ first ++ rest)

-- ---- texts

-- the line of a user with the word of his standing
abbrev pub head_text : Text → UserProfile → Text → Text
head_text name user standing =
    codes "dossier 1 " ++ name ++ codes " " ++ method_word user.method ++ codes " " ++ standing
    ++ codes "\n"

-- the last line
abbrev pub done_text : ℕ → Text
done_text count = codes "done " ++ decimal count ++ codes "\n"

-- the line and the blocks of a user's admission
abbrev pub IsAdmission : DatabaseSchema → UserProfile → Text → Type 0
IsAdmission schema user text =
    (blocks : Text) × AreBlocks schema (probes_against (known user) (guarded user)) blocks
    × (text ≡ codes "admission\n" ++ blocks)

-- the dossier of a user with these records; it is UTF-8
abbrev pub IsDossier : DatabaseSchema → Text → UserProfile → List Recorded → Text → Type 0
IsDossier schema name user records text =
    (admission items : Text) × IsAdmission schema user admission
    × AreItems schema user [] records items
    × (text ≡ head_text name user (codes "open") ++ admission ++ items
    ++ done_text (length records)) × IsUtf8 text

-- records stand for a legal history of a user within the limits
abbrev pub AreLegal : DatabaseSchema → FactSet → UserProfile → List Recorded → Type 0
AreLegal schema world user records =
    (entries : History) × (map (entry_of schema) records ≡ map Some entries)
    × IsLegal schema world user entries × KeepsSizes schema user entries
