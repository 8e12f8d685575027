use Rattle.sql_select.proofs.selecting.kept_rows.Goals as goal

pub returns-in-None : goal.returns-in-None
returns-in-None g c = rw c.in-None.is (rw c.in_ok-filter.ensures at c.keep_of_one.ensures)

pub returns : goal.returns
returns g c = rw c.in-Some.is (rw c.in_ok-filter.ensures at c.keep_of_two.ensures)
