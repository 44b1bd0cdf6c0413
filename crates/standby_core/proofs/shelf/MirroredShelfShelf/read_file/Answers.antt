use Rattle.std.proofs.Common.{ap, map}
use Rattle.standby_core.specs.Slots.{slot_texts, made_at, mirrored_lent}
use Rattle.standby_core.proofs.shelf.MirroredShelfShelf.read_file.Goals as goal

pub returns-clause-lent : goal.returns-clause-lent
returns-clause-lent g c =
    ap (mirrored_lent c.args.self.now.shelf.ghost_name c.args.self.now.mirrors.ghost_name
    (map (slot_texts g.C.Dial.name g.C.Dial.address) c.args.self.now.mirrors.now.slots.items)
    (made_at g.C.Dial.name g.C.Dial.address c.args.self.now.mirrors.now.slots.items)) c.read_file.ensures.lent
