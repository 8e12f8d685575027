use Rattle.store_tests.proofs.steps.recalls.Given as goal

abbrev pub ghosts-recalls_by : goal.ghosts-recalls_by
ghosts-recalls_by g a = record { name = a.blank.name; parts = a.blank.parts }
