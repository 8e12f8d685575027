use Rattle.skippy_tests.proofs.support.first_mappings.Given as goal

abbrev pub ghosts-scan_on : goal.ghosts-scan_on
ghosts-scan_on a = record { name = a.blank.name; parts = a.blank.parts }
