use Rattle.std.proofs.Common.{◌≡◌, ◌+◌, Some, map, sym, ap, ◌∙◌, rules}
use Rattle.std.specs.Prelude.{position}
use Rattle.std.specs.List.{before_first, after_first}
use Rattle.std.proofs.lemmas.List.{take_rest}
use Rattle.dossier.specs.Words.{is_colon, read_literal, read_number, all_some, line_by}
use Rattle.dossier.proofs.Colons.{no-such, is-there, before-it, behind-it}
use Rattle.dossier.proofs.words.line_of_words.Goals as goal

-- there is no colon
pub returns-in_default : goal.returns-in_default
returns-in_default c =
    let texts = map (λ word. word.now) c.args.words.now in
    let clause = all_some (map read_literal (before_first is_colon texts)) in
    let chain = all_some (map read_number (after_first is_colon texts)) in
    sym (ap (λ there. line_by there clause chain) (no-such (λ word. word.now) is_colon c.args.words.now (search rules)))

-- there is one
pub returns : goal.returns
returns c =
    let words = c.args.words.now in
    let colon = c.in-Some.colon in
    let found : position (λ word. is_colon word.now) words ≡ Some colon = search rules in
    let clause = c.in_ok-clause.ensures ∙ ap (λ texts. all_some (map read_literal texts)) (before-it (λ word. word.now) is_colon words colon found) in
    let chain = c.in_ok-chain.ensures
    ∙ ap (λ rest. all_some (map read_number (map (λ word. word.now) rest))) (take_rest words (colon + 1))
    ∙ ap (λ texts. all_some (map read_number texts)) (behind-it (λ word. word.now) is_colon words colon found) in
    c.line_by.ensures ∙ (λ i. line_by (sym (is-there (λ word. word.now) is_colon words colon found) i) (clause i) (chain i))
