-- What dials leave of links.
use Rattle.std.specs.Prelude.{◌≡◌}
use Rattle.outside.specs.Shelf.{SameNames}
use Rattle.outside.specs.declared.links.Links.{Ghosts as LinksGhosts}

-- Of the links' doors and connections all is as it was, and their count of faults too: of links
-- that only dial and hang up, the dials alone may be others, with what they exchanged and the
-- second count.
pub record KeepsDoors {L D C S K : Type 0} (Links : LinksGhosts L D C S K) (old new : L) :
    Type 0 where
  pub faults : Links.faults new ≡ Links.faults old
  pub out : Links.out new ≡ Links.out old
  pub ended : Links.ended new ≡ Links.ended old
  pub given : Links.tells → Links.given new ≡ Links.given old
  pub left : Links.tells → Links.left new ≡ Links.left old
  pub at_hand : Links.tells → Links.at_hand new ≡ Links.at_hand old
  pub back : Links.tells → Links.back new ≡ Links.back old
  pub listened : Links.tells → Links.listened new ≡ Links.listened old

-- What dials exchanged that were hung up is what it was, and so are their faults, under each name.
pub record KeepsCalls {L D C S K : Type 0} (Links : LinksGhosts L D C S K) (old new : L) :
    Type 0 where
  pub exchanged : Links.tells → Links.exchanged new ≡ Links.exchanged old
  pub exchange_faults : SameNames (Links.exchange_faults old) (Links.exchange_faults new)
