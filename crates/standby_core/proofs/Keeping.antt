-- What dials leave of links, over several calls.
use Rattle.std.proofs.Common.{refl, ◌∙◌}
use Rattle.outside.specs.declared.links.Links.{Ghosts as LinksGhosts}
use Rattle.standby_core.specs.Doors.{KeepsDoors, KeepsCalls}

module _ {L D C S K : Type 0} (Links : LinksGhosts L D C S K) where
  pub keeps_all : (links : L) → KeepsDoors Links links links
  keeps_all links = record {
    faults = refl;
    out = refl;
    ended = refl;
    given = λ told. refl;
    left = λ told. refl;
    at_hand = λ told. refl;
    back = λ told. refl;
    listened = λ told. refl;
  }

  pub keeps_then : (a b c : L) → KeepsDoors Links a b → KeepsDoors Links b c → KeepsDoors Links a c
  keeps_then a b c first second = record {
    faults = second.faults ∙ first.faults;
    out = second.out ∙ first.out;
    ended = second.ended ∙ first.ended;
    given = λ told. second.given told ∙ first.given told;
    left = λ told. second.left told ∙ first.left told;
    at_hand = λ told. second.at_hand told ∙ first.at_hand told;
    back = λ told. second.back told ∙ first.back told;
    listened = λ told. second.listened told ∙ first.listened told;
  }

  -- what was exchanged stays too
  pub calls_all : (links : L) → KeepsCalls Links links links
  calls_all links = record { exchanged = λ told. refl; exchange_faults = λ name. refl }

  pub calls_then : (a b c : L) → KeepsCalls Links a b → KeepsCalls Links b c → KeepsCalls Links a c
  calls_then a b c first second = record {
    exchanged = λ told. second.exchanged told ∙ first.exchanged told;
    exchange_faults = λ name. second.exchange_faults name ∙ first.exchange_faults name;
  }
