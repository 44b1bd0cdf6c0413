use Rattle.session_core.proofs.Alike.{replied_alike}
use Rattle.session_core.proofs.laws.law_replies_alike.Goals as goal

pub returns : goal.returns
returns c = λ schema world other user standing history broke least failed asks entries in_flight legal replied.
    replied_alike schema world other user c.law_rules_add_none.ensures standing history legal replied
