use Rattle.std.proofs.Common.{◌≡◌, ◌+◌, List, ℕ, length, take, ◌∙◌, ap, subst}
use Rattle.std.proofs.lemmas.Result.{on_ok_weaker}
use Rattle.log_journal.specs.Bytes.{piece_of, with_piece, IsBetween}
use Rattle.log_journal.proofs.Appends.{added, between, ends_behind, on_both}
use Rattle.log_journal.proofs.journal.put_record.Goals as goal

pub returns-clause-added : goal.returns-clause-added
returns-clause-added g c told =
    let R = g.D.Disk.reads c.args.disk.now in
    let piece_is : take (length c.args.text.now + 4) c.deref.result.now ≡ piece_of c.args.kind c.args.text.now =
    ap (λ (l : List ℕ). take (length c.args.text.now + 4) l) c.deref.ensures.value ∙ c.fill_start.ensures.piece in
    on_ok_weaker c.put.result
    (λ is. added R c.args.gate (c.requires.ends told) c.args.kind c.args.text.now c.requires.low c.requires.high c.requires.short
    (g.D.Disk.reads c.put.new.disk)
    (is ∙ ap (λ (l : List ℕ). with_piece R c.args.gate 1 l) piece_is))
    (c.put.ensures.written told)

pub returns-clause-ends : goal.returns-clause-ends
returns-clause-ends g c told =
    let R = g.D.Disk.reads c.args.disk.now in
    let piece_is : take (length c.args.text.now + 4) c.deref.result.now ≡ piece_of c.args.kind c.args.text.now =
    ap (λ (l : List ℕ). take (length c.args.text.now + 4) l) c.deref.ensures.value ∙ c.fill_start.ensures.piece in
    on_both c.put.result
    (λ is fits. ends_behind R c.args.gate (c.requires.ends told) c.args.kind c.args.text.now c.requires.low c.requires.high c.requires.short
    (g.D.Disk.reads c.put.new.disk)
    (is ∙ ap (λ (l : List ℕ). with_piece R c.args.gate 1 l) piece_is) fits)
    (c.put.ensures.written told) (c.put.ensures.fits told)

pub returns-clause-images : goal.returns-clause-images
returns-clause-images g c told c' is =
    let R = g.D.Disk.reads c.args.disk.now in
    let piece_is : take (length c.args.text.now + 4) c.deref.result.now ≡ piece_of c.args.kind c.args.text.now =
    ap (λ (l : List ℕ). take (length c.args.text.now + 4) l) c.deref.ensures.value ∙ c.fill_start.ensures.piece in
    between R c.args.gate (c.requires.ends told) c.args.kind c.args.text.now c.requires.low c.requires.high c.requires.short c'
    (subst (λ p. IsBetween R c.args.gate p c') piece_is (c.put.ensures.images told c' is))

pub returns-clause-moments : goal.returns-clause-moments
returns-clause-moments g c told c' is =
    let R = g.D.Disk.reads c.args.disk.now in
    let piece_is : take (length c.args.text.now + 4) c.deref.result.now ≡ piece_of c.args.kind c.args.text.now =
    ap (λ (l : List ℕ). take (length c.args.text.now + 4) l) c.deref.ensures.value ∙ c.fill_start.ensures.piece in
    between R c.args.gate (c.requires.ends told) c.args.kind c.args.text.now c.requires.low c.requires.high c.requires.short c'
    (subst (λ p. IsBetween R c.args.gate p c') piece_is (c.put.ensures.moments told c' is))
