use Rattle.std.proofs.Common.{subst, codes}
use Rattle.command_tree.specs.Rows.{rows_in}
use Rattle.command_line.specs.Values.{Finds, GivesHosts, GivesPaths}
use Rattle.command_line.specs.declared.sites.Places.{Places}
use Rattle.command_line.proofs.Reading.{no_places, no_serve}
use Rattle.command_line.proofs.sites.serve_in.Goals as goal

pub returns-in_default-2 : goal.returns-in_default-2
returns-in_default-2 c =
    let rows = rows_in c.args.values.now in
    no_places rows
    (subst (Finds (λ (places : Places). GivesPaths rows (codes "listen") places.sockets.items × GivesHosts rows (codes "listen") places.hosts.items)) c.in_default-2.is c.in_ok-places.ensures)

pub returns-in-None : goal.returns-in-None
returns-in-None c = no_serve (rows_in c.args.values.now) c.in-None.ensures.none
