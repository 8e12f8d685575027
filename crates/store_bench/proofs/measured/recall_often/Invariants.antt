use Rattle.store_bench.proofs.measured.recall_often.Given as goal

abbrev pub ghosts-recall_each : goal.ghosts-recall_each
ghosts-recall_each g a = record { name = a.blank.name; parts = a.blank.parts }
