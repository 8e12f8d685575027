use Rattle.skippy_tests.proofs.support.extend.Given as goal

abbrev pub ghosts-extend_on : goal.ghosts-extend_on
ghosts-extend_on a = record { name = a.blank.name; parts = a.blank.parts }
