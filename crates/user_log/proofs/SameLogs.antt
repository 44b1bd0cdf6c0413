-- A log whose view is as it was is as it was.
use Rattle.std.proofs.Common.{◌≡◌, map, sym, subst}
use mathlib.Core.HLevel.{is_prop→PathP}
use Rattle.cqe_base.specs.History.{profile_of, answered_query_of}
use Rattle.entailment.specs.Views.{LogView, schema_of, log_of}
use Rattle.user_log.specs.Kept.{IsConsistentLog, IsConsistentLog-prop, IsAmended, IsAmended-prop}
use Rattle.user_log.specs.declared.log.UserLog.{UserLog}

module _ (log : UserLog) where
  -- what the log keeps, of a view
  abbrev pub KeptWith : LogView → Type 0
  KeptWith view =
      IsConsistentLog log.schema.now log.world.now (profile_of log.user.now) (map answered_query_of log.entries.items)
      (schema_of view) (log_of view) log.text_bytes log.view_nodes

  pub kept_with : (view : LogView) → view ≡ log.views → KeptWith view
  kept_with view same = subst KeptWith (sym same) log.kept

  pub same_log : (view : LogView) → view ≡ log.views → (kept : KeptWith view)
      (amended : IsAmended log.schema.now (profile_of log.user.now) (map answered_query_of log.entries.items) (profile_of log.current) log.guards)
      → record log { views = view; kept = kept; amended = amended } ≡ log
  same_log view same kept amended = λ i. record log {
    views = same i;
    kept = is_prop→PathP (λ j. KeptWith (same j)) (λ j. IsConsistentLog-prop _ _ _ _ _ _ _ _) kept log.kept i;
    amended = IsAmended-prop _ _ _ _ _ amended log.amended i;
  }
