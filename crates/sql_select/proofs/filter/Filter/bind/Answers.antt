use Rattle.sql_select.proofs.filter.Filter.bind.Goals as goal

pub returns-in_ok-bound-in-Some : goal.returns-in_ok-bound-in-Some
returns-in_ok-bound-in-Some c = rw c.in-Some.is c.in_ok-bound-in-Some.ensures
