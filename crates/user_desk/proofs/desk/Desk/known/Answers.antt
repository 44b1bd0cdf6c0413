use Rattle.user_desk.proofs.Restarting.{holds_image, stands_image}
use Rattle.user_desk.proofs.Within.{opens_since}
use Rattle.user_desk.proofs.desk.Desk.known.Goals as goal

pub returns-clause-images : goal.returns-clause-images
returns-clause-images g c = holds_image _ _ _ _ _ _ _ _ _ _ _ c.args.self.now.kept c.known.ensures.legal c.known.ensures.sizes

pub returns-clause-whole : goal.returns-clause-whole
returns-clause-whole g c = stands_image _ _ _ _ _ _ _ _ _ _ _ c.args.self.now.kept

pub returns-clause-since : goal.returns-clause-since
returns-clause-since g c = opens_since _ _ _ _ _ _ _ _ _ _ _ _ _ c.args.self.now.kept c.args.self.now.since
