use Rattle.std.proofs.Common.{sym, subst, IsUtf8}
use Rattle.dossier.proofs.writing.said_in.Goals as goal

pub unreachable-requires : goal.unreachable-requires
unreachable-requires c = c.in-Err.ensures.cases.0 (subst IsUtf8 (sym c.deref.ensures.value) c.requires)
