-- The sentences of a small log, one at a time.
use Rattle.std.proofs.Common.{◌≡◌, ℕ, ◌+◌, ◌<◌, ◌≤◌, Bool, true, nat_le, List, [], ◌∷◌, ◌++◌, length, take, get_or, sym, ap, ◌∙◌, subst, arith}
use Rattle.std.specs.List.{list_all}
use Rattle.std.proofs.Math.ListN.{get_or-map}
use Rattle.std.proofs.lemmas.Bool.{leb-true}
use Rattle.std.proofs.lemmas.List.{length-map, take_more}
use Rattle.std.proofs.lemmas.List.Elements.{All-get_or}
use Rattle.std.proofs.lemmas.List.Sums.{AllPass-from_list_all, sum_by-append, sum_by-take-le}
use Rattle.cqe_base.specs.Schema.{DatabaseSchema}
use Rattle.cqe_base.specs.Formula.{formula_of, nodes, is_sentence_of}
use Rattle.cqe_base.specs.Entailment.{Signed}
use Rattle.cqe_base.specs.History.{signed_nodes}
use Rattle.entailment.specs.declared.view.Told.{Told}
use Rattle.entailment.specs.Logs.{IsSmallLog, log_nodes, sentence_nodes, told_log}
use Rattle.entailment.proofs.LogNodes.{sentence_nodes-le}

-- what a part of a log in memory tells
abbrev told : Told → Signed
told t = (formula_of t.sentence, t.yes)

-- as many as the log in memory has
pub told-count : (log : List Told) → length (told_log log) ≡ length log
told-count log = length-map log told

-- what each part passes, this one passes
passes : (p : Signed → Bool) (log : List Told) (i : ℕ) (t : Told) → i < length log → t ≡ get_or log i t → list_all p (told_log log) ≡ true → p (told t) ≡ true
passes p log i t below is h =
    ap (λ x. p (told x)) is
    ∙ ap p (sym (get_or-map told log i t))
    ∙ All-get_or (λ x. p x ≡ true) (told_log log) i (told t) (subst (λ n. i < n) (sym (length-map log told)) below) (AllPass-from_list_all p (told_log log) h)

pub item-sentence : (schema : DatabaseSchema) (log : List Told) (i : ℕ) (t : Told) → i < length log → t ≡ get_or log i t → IsSmallLog schema (told_log log)
    → is_sentence_of schema (formula_of t.sentence) ≡ true
item-sentence schema log i t below is small = passes (λ signed. is_sentence_of schema signed.0) log i t below is small.sentences

pub item-small : (schema : DatabaseSchema) (log : List Told) (i : ℕ) (t : Told) → i < length log → t ≡ get_or log i t → IsSmallLog schema (told_log log)
    → nodes schema (formula_of t.sentence) ≤ 20000
item-small schema log i t below is small = leb-true _ 20000 (passes (λ signed. nat_le (nodes schema signed.0) 20000) log i t below is small.each)

-- the log up to a part, and it
pub item-more : (log : List Told) (i : ℕ) (t : Told) → i < length log → t ≡ get_or log i t → take (i + 1) (told_log log) ≡ take i (told_log log) ++ told t ∷ []
item-more log i t below is =
    take_more (told_log log) i (told t) (subst (λ n. i < n) (sym (length-map log told)) below)
    ∙ ap (λ s. take i (told_log log) ++ s ∷ []) (get_or-map told log i t ∙ ap told (sym is))

-- the nodes of the log up to a part are within those of the whole log
pub nodes-before : (schema : DatabaseSchema) (log : List Signed) (i : ℕ) → IsSmallLog schema log → sentence_nodes schema (take i log) ≤ 60000
nodes-before schema log i small =
    let part : sentence_nodes schema (take i log) ≤ sentence_nodes schema log = sum_by-take-le (λ signed. nodes schema signed.0) log i in
    let whole = sentence_nodes-le schema log in
    let all = small.all in
    omega arith

-- so are those of the log up to a part with this part
pub item-room : (schema : DatabaseSchema) (log : List Told) (i : ℕ) (t : Told) → i < length log → t ≡ get_or log i t → IsSmallLog schema (told_log log)
    → log_nodes schema (take i (told_log log)) + signed_nodes schema (formula_of t.sentence) t.yes ≤ 60000
item-room schema log i t below is small =
    let before = take i (told_log log) in
    let part : log_nodes schema (take (i + 1) (told_log log)) ≤ log_nodes schema (told_log log) =
    sum_by-take-le (λ signed. signed_nodes schema signed.0 signed.1) (told_log log) (i + 1) in
    let more : log_nodes schema (take (i + 1) (told_log log)) ≡ log_nodes schema (before ++ told t ∷ []) = ap (log_nodes schema) (item-more log i t below is) in
    let sum : log_nodes schema (before ++ told t ∷ []) ≡ log_nodes schema before + log_nodes schema (told t ∷ []) =
    sum_by-append (λ signed. signed_nodes schema signed.0 signed.1) before (told t ∷ []) in
    let one : log_nodes schema (told t ∷ []) ≡ signed_nodes schema (formula_of t.sentence) t.yes = omega arith in
    let all = small.all in
    omega arith
