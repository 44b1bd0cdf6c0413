use Rattle.std.proofs.Common.{sym, ap, ◌∙◌, ◌+◌, arith}
use Rattle.dossier.specs.Words.{read_literal}
use Rattle.dossier.proofs.Spelling.{behind, behind-none, from, one-read, none-read, all-read}
use Rattle.dossier.proofs.words.literals_in.Goals as goal

pub loop-word-init : goal.loop-word-init
loop-word-init c =
    behind-none (from (λ word. word.now) read_literal c.args.words.now 0)
    ∙ ap (λ read. behind read (from (λ word. word.now) read_literal c.args.words.now 0)) (sym c.new-clause.ensures.items)

pub loop-word-preserved : goal.loop-word-preserved
loop-word-preserved c =
    c.loop-word.invariant
    ∙ one-read (λ word. word.now) read_literal c.args.words.now c.loop-word.word-index _ c.loop-word-test.true
    c.loop-word.clause.items c.in-Some.literal (sym c.literal_of.ensures ∙ c.in-Some.is)
    ∙ ap (λ read. behind read (from (λ word. word.now) read_literal c.args.words.now (c.loop-word.word-index + 1))) (sym c.in_ok-push-in-Some.ensures.items)

-- a word that says nothing
pub returns-in-None : goal.returns-in-None
returns-in-None c =
    sym (c.loop-word.invariant
    ∙ none-read (λ word. word.now) read_literal c.args.words.now c.loop-word.word-index _ c.loop-word-test.true
    c.loop-word.clause.items (sym c.literal_of.ensures ∙ c.in-None.is))

pub returns : goal.returns
returns c =
    sym (c.loop-word.invariant
    ∙ all-read (λ word. word.now) read_literal c.args.words.now c.loop-word.clause.items c.loop-word.word-index (omega (arith, c.loop-word-test.false)))
