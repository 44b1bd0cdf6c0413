use Rattle.std.proofs.Common.{◌≡◌, [], ◌∙◌, inl, inr, refl, sym, subst, map, arith}
use Rattle.std.proofs.lemmas.List.{nil_from_length}
use Rattle.log_journal.specs.Opening.{header_bytes, recorded}
use Rattle.init_engine.proofs.Visiting.{read_stays}
use Rattle.migrate_engine.specs.Moves.{IsFilled}
use Rattle.migrate_engine.proofs.target.fill.Given.{Over}
use Rattle.migrate_engine.proofs.target.fill.Goals as goal
use Rattle.migrate_engine.proofs.target.fill.Goals.{In-Ok-eq0}

-- where its length is 0, it has no bytes
no_bytes : (g : Over) (c : In-Ok-eq0 g) → g.D.Disk.tells → g.D.Disk.reads c.args.disk ≡ []
no_bytes g c told =
    let size = c.in-Ok-eq0.ensures.length told in
    nil_from_length (g.D.Disk.reads c.args.disk) (omega (arith, size))

pub make-requires-clause-empty : goal.make-requires-clause-empty
make-requires-clause-empty g c told =
    c.look.ensures.only.reads ∙ no_bytes g (goal.at.make-requires-clause-empty g c).In-Ok-eq0 told

pub returns-in-Ok-make-clause-filled : goal.returns-in-Ok-make-clause-filled
returns-in-Ok-make-clause-filled g c = λ told.
    subst (λ b. IsFilled g.D.Disk (header_bytes c.args.header.now) (map recorded c.args.records.now) b c.make.new.disk)
    (sym (no_bytes g (goal.at.returns-in-Ok-make-clause-filled g c).In-Ok-eq0 told)) (c.in-Ok-make.ensures.filled told)

pub returns-in-Err-make-clause-left : goal.returns-in-Err-make-clause-left
returns-in-Err-make-clause-left g c = λ told. inr (
  no_bytes g (goal.at.returns-in-Err-make-clause-left g c).In-Ok-eq0 told,
  c.make.new.disk,
  refl,
  c.in-Err-make.ensures.left told,
)

pub returns-in-Ok-clause-left : goal.returns-in-Ok-clause-left
returns-in-Ok-clause-left g c = λ told. read_stays g.D.Disk c.args.disk c.look.new.disk c.look.ensures.only

pub returns-in-Err-clause-left : goal.returns-in-Err-clause-left
returns-in-Err-clause-left g c = λ told. inl (read_stays g.D.Disk c.args.disk c.look.new.disk c.look.ensures.only)
