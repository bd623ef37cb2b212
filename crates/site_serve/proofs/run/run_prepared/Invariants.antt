use Rattle.site_shared.specs.Publishes.{arrive}
use Rattle.site_serve.proofs.run.run_prepared.Given as goal

-- the opening's list of publishes
abbrev pub ghosts-run_opened-J-Naming : goal.ghosts-run_opened-J-Naming
ghosts-run_opened-J-Naming g a = record { book = a.desk.book }

-- the record that it begins with, what the keeper has, and what is known of it
abbrev pub ghosts-run_opened-J-Opening : goal.ghosts-run_opened-J-Opening
ghosts-run_opened-J-Opening g a = record {
  journal = arrive a.desk.published;
  had = g.K.Keeps.holds a.keeper;
  known = g.K.Keeps.is_known a.keeper;
}
