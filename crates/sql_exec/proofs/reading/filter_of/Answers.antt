use Rattle.sql_exec.proofs.reading.filter_of.Goals as goal

pub returns : goal.returns
returns c = rw c.of_one.ensures at c.bind.ensures
