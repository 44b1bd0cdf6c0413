use Rattle.std.proofs.Common.{ℕ, List, length, map, sym, ap, subst, ◌∙◌, arith}
use Rattle.std.proofs.lemmas.List.{length-map}
use Rattle.cqe_base.specs.History.{profile_of}
use Rattle.log_journal.specs.Opening.{header_bytes, recorded, IsRefused}
use Rattle.log_journal.specs.Records.{IsJournal}
use Rattle.user_log.specs.UserLogs.{kept_history}
use Rattle.user_desk.specs.Causes.{IsStanding}
use Rattle.user_desk.specs.Stored.{stored_disk, opened_disk}
use Rattle.user_desk.proofs.Refusing.{standing_from}
use Rattle.user_desk.proofs.Restarting.{restarts, opens_served}
use Rattle.user_desk.proofs.Keeping.{legal_at, sizes_at, standing_sealed_by, kept_first, open_not_sealed, replayed_within}
use Rattle.user_desk.proofs.Since.{since_first}
use Rattle.user_desk.proofs.Sizes.{size_at_opening}
use Rattle.user_desk.proofs.Taking.{count_of}
use Rattle.user_desk.proofs.opening.open_desk.Goals as goal

pub returns-in-Ok-replay_log-clause-standing : goal.returns-in-Ok-replay_log-clause-standing
returns-in-Ok-replay_log-clause-standing g c =
    let is = c.in-Ok-replay_log.ensures.log in
    let bytes : List ℕ = g.D.Disk.reads c.args.disk in
    let journal = λ (told : g.D.Disk.tells).
    subst (λ l. IsJournal (header_bytes c.args.header.now) (map recorded l) bytes) (sym c.deref.ensures.value) (c.in-Ok.ensures.opened told) in
    standing_from c.args.schema.now c.args.world.now (profile_of c.args.user.now) g.D.Disk.tells (header_bytes c.args.header.now) bytes
    (map recorded c.deref.result.now) (kept_history c.in-Ok-replay_log.log) (g.D.Disk.faults c.args.disk) (g.D.Disk.faults (stored_disk c.new.result))
    c.in-Ok-replay_log.standing journal (legal_at _ _ _ _ _ _ _ is.schema_is is.world_is is.user_is c.known.ensures.legal)
    (sizes_at _ _ _ _ _ is.schema_is is.user_is c.known.ensures.sizes) c.in-Ok-replay_log.ensures.replay

pub invariant_of-result : goal.invariant_of-result
invariant_of-result g c =
    let is = c.in-Ok-replay_log.ensures.log in
    let bytes : List ℕ = g.D.Disk.reads c.args.disk in
    let store = c.new.result in
    let before = g.D.Disk.faults c.args.disk in
    let now = g.D.Disk.faults (stored_disk store) in
    let journal = λ (told : g.D.Disk.tells).
    subst (λ l. IsJournal (header_bytes c.args.header.now) (map recorded l) bytes) (sym c.deref.ensures.value) (c.in-Ok.ensures.opened told) in
    let standing = standing_from c.args.schema.now c.args.world.now (profile_of c.args.user.now) g.D.Disk.tells (header_bytes c.args.header.now) bytes
    (map recorded c.deref.result.now) (kept_history c.in-Ok-replay_log.log) before now c.in-Ok-replay_log.standing journal
    (legal_at _ _ _ _ _ _ _ is.schema_is is.world_is is.user_is c.known.ensures.legal)
    (sizes_at _ _ _ _ _ is.schema_is is.user_is c.known.ensures.sizes) c.in-Ok-replay_log.ensures.replay in
    let at = c.new.ensures.disk ∙ c.kept_medium.ensures.disk in
    let began = c.new.ensures.opened ∙ sym c.new.ensures.disk in
    let kept = kept_first c.args.schema.now _ c.args.world.now _ (profile_of c.args.user.now) _ g.D.Disk.tells (λ i. g.D.Disk.image (stored_disk store) i)
    (header_bytes c.args.header.now) bytes (kept_history c.in-Ok-replay_log.log) before now c.in-Ok-replay_log.standing _ _
    is.schema_is is.world_is is.user_is standing c.known.ensures.legal c.known.ensures.sizes (λ served i here.
    c.in-Ok.ensures.durable i (subst (λ d. g.D.Disk.image d i) at here))
    (λ opened. c.new.ensures.journal ∙ c.kept_medium.ensures.served (open_not_sealed c.in-Ok-replay_log.standing opened)) c.new.ensures.whole in
    record {
      kept = kept;
      still = λ count none. sym began;
      size = λ told whole. size_at_opening (kept_history c.in-Ok-replay_log.log) _ _ (ap (λ d. g.D.Disk.reads d) began);
      told = λ tells.
          let most = replayed_within c.args.schema.now c.args.world.now (profile_of c.args.user.now) (map recorded c.deref.result.now)
          (kept_history c.in-Ok-replay_log.log) c.in-Ok-replay_log.standing c.in-Ok-replay_log.ensures.replay in
          let many = length-map c.deref.result.now recorded in
          let same = ap length c.deref.ensures.value in
          let disk = ap g.D.Disk.tellable at in
          omega (arith, most, many, same, disk, c.in-Ok.ensures.tellable);
      since = since_first g.D.Disk.tells (λ i. g.D.Disk.image (stored_disk store) i) (λ i.
          g.D.Disk.image_since (stored_disk store) (g.D.Disk.moment (opened_disk store)) i) _ _ _ (header_bytes c.args.header.now) c.in-Ok-replay_log.standing _
          (kept_history c.in-Ok-replay_log.log) _ _ kept
          (count_of c.entries-opened.result.now (kept_history c.in-Ok-replay_log.log) c.entries-opened.ensures)
          (λ i here. g.met.D.Disk.only_now (stored_disk store) i (subst (λ d. g.D.Disk.image_since (stored_disk store) (g.D.Disk.moment d) i) began here))
          (λ sealed. c.new.ensures.journal ∙ c.kept_medium.ensures.sealed sealed);
    }

pub returns-in-Ok-replay_log-clause-sound : goal.returns-in-Ok-replay_log-clause-sound
returns-in-Ok-replay_log-clause-sound g c told served =
    opens_served c.args.schema.now c.args.world.now (profile_of c.args.user.now) g.D.Disk.tells (header_bytes c.args.header.now) (g.D.Disk.reads c.args.disk)
    (kept_history c.in-Ok-replay_log.log) (g.D.Disk.faults c.args.disk) (g.D.Disk.faults (stored_disk c.new.result))
    c.in-Ok-replay_log.standing (returns-in-Ok-replay_log-clause-standing g c) told served

pub returns-in-Ok-replay_log-clause-restarted : goal.returns-in-Ok-replay_log-clause-restarted
returns-in-Ok-replay_log-clause-restarted g c told state holds =
    restarts c.args.schema.now c.args.world.now (profile_of c.args.user.now) g.D.Disk.tells c.args.header.now (g.D.Disk.reads c.args.disk)
    (kept_history c.in-Ok-replay_log.log) (g.D.Disk.faults c.args.disk) (g.D.Disk.faults (stored_disk c.new.result))
    c.in-Ok-replay_log.standing told (returns-in-Ok-replay_log-clause-standing g c) state holds

pub returns-in-Ok-refused_journal-clause-standing : goal.returns-in-Ok-refused_journal-clause-standing
returns-in-Ok-refused_journal-clause-standing g c =
    let found = c.in-Ok-refused_journal.ensures in
    let bytes : List ℕ = g.D.Disk.reads c.args.disk in
    let before = g.D.Disk.faults c.args.disk in
    let store = c.new-in-Ok-refused_journal.result in
    let refused = subst (λ d. IsRefused g.D.Disk.tells (header_bytes c.args.header.now) bytes before (g.D.Disk.faults d) c.in-Err.refused.why)
    (sym c.new-in-Ok-refused_journal.ensures.disk) c.in-Err.ensures.refused in
    subst
    (λ s. IsStanding c.args.schema.now c.args.world.now (profile_of c.args.user.now) g.D.Disk.tells (header_bytes c.args.header.now) bytes
    (kept_history c.in-Ok-refused_journal.log) before (g.D.Disk.faults (stored_disk store)) s)
    (sym found.sealed)
    (standing_sealed_by c.args.schema.now c.args.world.now (profile_of c.args.user.now) g.D.Disk.tells (header_bytes c.args.header.now) bytes
    (kept_history c.in-Ok-refused_journal.log) before (g.D.Disk.faults (stored_disk store))
    c.in-Err.refused.why found.none refused found.outside)

pub returns-in-Ok-refused_journal-clause-restarted : goal.returns-in-Ok-refused_journal-clause-restarted
returns-in-Ok-refused_journal-clause-restarted g c told state holds =
    restarts c.args.schema.now c.args.world.now (profile_of c.args.user.now) g.D.Disk.tells c.args.header.now (g.D.Disk.reads c.args.disk)
    (kept_history c.in-Ok-refused_journal.log) (g.D.Disk.faults c.args.disk)
    (g.D.Disk.faults (stored_disk c.new-in-Ok-refused_journal.result)) c.in-Ok-refused_journal.standing told
    (returns-in-Ok-refused_journal-clause-standing g c) state holds
