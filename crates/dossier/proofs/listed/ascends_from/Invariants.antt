use Rattle.std.proofs.Common.{◌≡◌, ◌∷◌, drop}
use Rattle.dossier.specs.Words.{ascends}
use Rattle.dossier.proofs.listed.ascends_from.Given as goal

-- the facts so far ascend: all do where those from the last of them on do
abbrev pub invariant-loop-fact : goal.invariant-loop-fact
invariant-loop-fact l = ascends (l.fn.first ∷ l.others) ≡ ascends (l.last ∷ drop l.fact-index l.others)
