use Rattle.std.proofs.Common.{◌≡◌, ◌+◌, length, subst, arith}
use Rattle.outside.specs.Disk.{Holds, Torn}
use Rattle.outside.proofs.Moments.{over_both}
use Rattle.log_journal.specs.Bytes.{IsBetween}
use Rattle.log_journal.proofs.Pieces.{torn_piece, torn_after}
use Rattle.log_journal.proofs.put.put.Goals as goal

pub returns-clause-images : goal.returns-clause-images
returns-clause-images g c told c' is =
    let R = g.D.Disk.reads c.args.disk.now in
    let within = c.requires.within told in
    let place : c.saturating_add.result ≡ c.args.gate + 1 = omega (arith, within, c.requires.fits told, c.saturating_add.ensures) in
    let holds = subst (λ at. Holds R at c.args.piece.now (g.D.Disk.reads c.write_synced.new.disk)) place (c.in_ok-write_synced.ensures.written told) in
    torn_after R c.args.gate within c.args.piece.now (g.D.Disk.reads c.write_synced.new.disk) holds c' (c.write_synced-2.ensures.images c' is)

pub returns-clause-moments : goal.returns-clause-moments
returns-clause-moments g c told =
    let R = g.D.Disk.reads c.args.disk.now in
    let within = c.requires.within told in
    let place : c.saturating_add.result ≡ c.args.gate + 1 = omega (arith, within, c.requires.fits told, c.saturating_add.ensures) in
    let holds = subst (λ at. Holds R at c.args.piece.now (g.D.Disk.reads c.write_synced.new.disk)) place (c.in_ok-write_synced.ensures.written told) in
    over_both (g.D.Disk.moment c.args.disk.now) (g.D.Disk.moment c.write_synced.new.disk) (g.D.Disk.moment c.write_synced-2.new.disk)
    (g.D.Disk.image_since c.write_synced.new.disk) (g.D.Disk.image_since c.write_synced-2.new.disk) (IsBetween R c.args.gate c.args.piece.now)
    c.write_synced.ensures.time.later c.write_synced-2.ensures.time
    (λ d is. torn_piece R c.args.gate within c.args.piece.now d
    (subst (λ at. Torn at (length c.args.piece.now) R d) place (c.write_synced.ensures.moments d is)))
    (λ d is. torn_after R c.args.gate within c.args.piece.now (g.D.Disk.reads c.write_synced.new.disk) holds d (c.write_synced-2.ensures.moments d is))
