use Rattle.archive_bench.proofs.searched.Given as goal

abbrev pub ghosts-find_each : goal.ghosts-find_each
ghosts-find_each a = record { name = a.blank.name; parts = a.blank.parts }
