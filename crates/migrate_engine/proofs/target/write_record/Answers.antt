use Rattle.std.proofs.Common.{rules, ◌≡◌, ◌/◌, ◌%◌, List, ℕ, [], ◌∷◌, ◌++◌, length, sym, subst}
use Rattle.migrate_engine.proofs.Making.{record_more, shut_then}
use Rattle.migrate_engine.proofs.target.write_record.Goals as goal

pub write_more-requires-2-clause-shut : goal.write_more-requires-2-clause-shut
write_more-requires-2-clause-shut g c = λ told. (c.write_more.ensures.shut told).images

pub returns-in_err-behind-clause-shut : goal.returns-in_err-behind-clause-shut
returns-in_err-behind-clause-shut g c = λ told.
    shut_then g.D.Disk c.args.disk.now c.write_more.new.disk c.write_more-2.new.disk (c.write_more.ensures.shut told) (c.write_more-2.ensures.shut told)

pub returns-clause-shut : goal.returns-clause-shut
returns-clause-shut g c = λ told.
    shut_then g.D.Disk c.args.disk.now c.write_more.new.disk c.write_more-2.new.disk (c.write_more.ensures.shut told) (c.write_more-2.ensures.shut told)

pub returns-clause-more : goal.returns-clause-more
returns-clause-more g c = λ told.
    let R = g.D.Disk.reads in
    let old = R c.args.disk.now in
    let mid = R c.write_more.new.disk in
    let new = R c.write_more-2.new.disk in
    let kind = c.args.next.now.kind in
    let text = c.args.next.now.text.items in
    let size : length text ≡ c.len-size.result = search rules in
    record_more old kind text mid new
    (subst (λ (s : ℕ). mid ≡ old ++ 1 ∷ kind ∷ s / 256 ∷ s % 256 ∷ []) (sym size) (c.in_ok-text.ensures.more told))
    (subst (λ (t : List ℕ). new ≡ mid ++ t) c.deref.ensures.value (c.in_ok-behind.ensures.more told))
