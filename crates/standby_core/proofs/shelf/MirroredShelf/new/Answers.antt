use Rattle.std.proofs.Common.{◌≡◌, true, false, sym, ◌∙◌}
use Rattle.standby_core.proofs.shelf.MirroredShelf.new.Goals as goal

-- no disk is out yet
pub invariant_of-result : goal.invariant_of-result
invariant_of-result g c = record {
  there = λ name is. let clash : true ≡ false = sym is ∙ c.requires.inside name in absurd cc;
  back = λ name is. c.requires.there name;
  unused = λ told dials_told name none inside. c.requires.silent dials_told name;
}
