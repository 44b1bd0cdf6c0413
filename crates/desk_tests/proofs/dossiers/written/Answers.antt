use Rattle.desk_tests.proofs.dossiers.written.Goals as goal

pub write_dossier-wrote-requires-clause-admitted : goal.write_dossier-wrote-requires-clause-admitted
write_dossier-wrote-requires-clause-admitted g c = (rw c.in-Open.is at c.in-Ok.ensures).0.0

pub write_dossier-wrote-requires-clause-legal : goal.write_dossier-wrote-requires-clause-legal
write_dossier-wrote-requires-clause-legal g c =
    let opened = rw c.in-Open.is at c.in-Ok.ensures in
    (_, opened.0.1, opened.1, opened.2)
