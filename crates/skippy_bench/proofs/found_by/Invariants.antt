use Rattle.skippy_bench.proofs.found_by.Given as goal

abbrev pub ghosts-table_of : goal.ghosts-table_of
ghosts-table_of a = record { name = a.blank.name; parts = a.blank.parts }
