use Rattle.std.proofs.Common.{rules, ◌≡◌, ◌<◌, ◌≤◌, List, ℕ, true, false, length, refl, ap, sym, ◌∙◌, subst, arith}
use Rattle.std.specs.Prelude.{OnOk, OnErr}
use Rattle.outside.specs.Disk.{Elapses}
use Rattle.outside.specs.Faults.{Rose}
use Rattle.log_journal.specs.Journal.{disk_of, is_broken, room_of}
use Rattle.log_journal.specs.Records.{Adds, KeepsOrAdds}
use Rattle.log_journal.specs.Walk.{records, AreThere}
use Rattle.user_desk.specs.declared.store.Medium.{Medium}
use Rattle.user_desk.specs.Mediums.{medium_disk, is_failed}
use Rattle.user_desk.specs.Stored.{Stored, stored_disk, has_failed}
use Rattle.user_desk.proofs.Since.{goes_appended}
use Rattle.user_desk.proofs.store.Store.append.Goals.{in-Ok, in-Err}
use Rattle.user_desk.proofs.store.Store.append.Goals as goal

pub invariant_of-self : goal.invariant_of-self
invariant_of-self g c =
    let Disk = g.D.Disk in
    let new = disk_of c.append.new.self in
    let same : disk_of c.in-Journal.journal ≡ medium_disk c.self.inside.medium =
    ap (λ (m : Medium g.row.D.Denot g.D.Disk). medium_disk m) (sym c.in-Journal.is) in
    let rose : OnErr c.append.result (Rose (Disk.faults (disk_of c.in-Journal.journal)) (Disk.faults new)) = search rules in
    goes_appended Disk.moment Disk.image_since Disk.tells Disk.reads Disk.faults Disk.heard Disk.origin c.append.result _ new true
    (is_broken c.append.new.self) (room_of c.append.new.self) c.self.invariant refl
    (subst (λ d. Elapses (Disk.moment d) (Disk.moment new) (Disk.image_since d) (Disk.image_since new)) same c.append.ensures.time)
    (subst (λ d. Disk.faults d ≤ Disk.faults new) same c.append.ensures.count) c.append.ensures.whole
    (subst (λ d. OnErr c.append.result (Rose (Disk.faults d) (Disk.faults new))) same rose)
    (subst (λ d. Disk.origin new ≡ Disk.origin d) same c.append.ensures.origin)
    (λ tells there. c.append.ensures.heard tells (subst (λ d. AreThere (Disk.heard d) (Disk.reads d)) (sym same) there))

pub returns-clause-added : goal.returns-clause-added
returns-clause-added g c told =
    let stored = stored_disk c.args.self.now in
    let same : g.D.Disk.reads (disk_of c.in-Journal.journal) ≡ g.D.Disk.reads stored =
    ap (λ (m : Medium g.row.D.Denot g.D.Disk). g.D.Disk.reads (medium_disk m)) (sym c.in-Journal.is)
    ∙ ap (λ (s : Stored g.row.D.Denot). g.D.Disk.reads (stored_disk s)) c.self.view_is in
    elim c.match-append.branch [
      | in-Ok w ↦ subst (λ r. OnOk r ((i : List ℕ) → g.D.Disk.image (disk_of c.append.new.self) i
          → Adds (g.D.Disk.reads stored) (c.args.kind, c.args.text.now) i)) (sym w.result-is)
          (λ i here. subst (λ b. Adds b (c.args.kind, c.args.text.now) i) same (w.in-Ok.ensures.kept told i here))
      | in-Err w ↦ subst (λ r. OnOk r ((i : List ℕ) → g.D.Disk.image (disk_of c.append.new.self) i
          → Adds (g.D.Disk.reads stored) (c.args.kind, c.args.text.now) i)) (sym w.result-is) tt
    ]

pub returns-clause-either : goal.returns-clause-either
returns-clause-either g c told =
    let stored = stored_disk c.args.self.now in
    let same : g.D.Disk.reads (disk_of c.in-Journal.journal) ≡ g.D.Disk.reads stored =
    ap (λ (m : Medium g.row.D.Denot g.D.Disk). g.D.Disk.reads (medium_disk m)) (sym c.in-Journal.is)
    ∙ ap (λ (s : Stored g.row.D.Denot). g.D.Disk.reads (stored_disk s)) c.self.view_is in
    let unbroken : is_broken c.in-Journal.journal ≡ false =
    ap (λ (m : Medium g.row.D.Denot g.D.Disk). is_failed m) (sym c.in-Journal.is)
    ∙ ap (λ (s : Stored g.row.D.Denot). has_failed s) c.self.view_is ∙ c.requires.whole in
    elim c.match-append.branch [
      | in-Ok w ↦ subst (λ r. OnErr r ((i : List ℕ) → g.D.Disk.image (disk_of c.append.new.self) i
          → KeepsOrAdds (g.D.Disk.reads stored) (c.args.kind, c.args.text.now) i)) (sym w.result-is) tt
      | in-Err w ↦ subst (λ r. OnErr r ((i : List ℕ) → g.D.Disk.image (disk_of c.append.new.self) i
          → KeepsOrAdds (g.D.Disk.reads stored) (c.args.kind, c.args.text.now) i)) (sym w.result-is)
          (λ i here. subst (λ b. KeepsOrAdds b (c.args.kind, c.args.text.now) i) same
          (c.append.ensures.moments told unbroken i (g.met.D.Disk.counts_now _ _ i c.append.ensures.time.later here)))
    ]

pub returns-clause-told : goal.returns-clause-told
returns-clause-told g c told =
    let stored = stored_disk c.args.self.now in
    let same : g.D.Disk.reads (disk_of c.in-Journal.journal) ≡ g.D.Disk.reads stored =
    ap (λ (m : Medium g.row.D.Denot g.D.Disk). g.D.Disk.reads (medium_disk m)) (sym c.in-Journal.is)
    ∙ ap (λ (s : Stored g.row.D.Denot). g.D.Disk.reads (stored_disk s)) c.self.view_is in
    let unbroken : is_broken c.in-Journal.journal ≡ false =
    ap (λ (m : Medium g.row.D.Denot g.D.Disk). is_failed m) (sym c.in-Journal.is)
    ∙ ap (λ (s : Stored g.row.D.Denot). has_failed s) c.self.view_is ∙ c.requires.whole in
    elim c.match-append.branch [
      | in-Ok w ↦ subst (λ r. OnOk r (length (records (g.D.Disk.reads stored)) < g.D.Disk.tellable (disk_of c.append.new.self))) (sym w.result-is)
          (omega (arith, w.in-Ok.ensures.may_be_told, c.append.ensures.number told unbroken, ap (λ b. length (records b)) same))
      | in-Err w ↦ subst (λ r. OnOk r (length (records (g.D.Disk.reads stored)) < g.D.Disk.tellable (disk_of c.append.new.self))) (sym w.result-is) tt
    ]
