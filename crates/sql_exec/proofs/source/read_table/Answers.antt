use Rattle.std.proofs.Common.{rules}
use Rattle.sql_exec.proofs.Answering.{few-named}
use Rattle.sql_exec.proofs.source.read_table.Goals as goal

pub returns-clause-few : goal.returns-clause-few
returns-clause-few g c =
    rw c.in_ok-schema.ensures (few-named c.args.name.now c.args.catalog.now.tables c.in-Some.table.now c.requires c.in-Some.ensures).1

pub returns-in_err-rows-clause-source : goal.returns-in_err-rows-clause-source
returns-in_err-rows-clause-source g c =
    let rows = c.in_err-rows.ensures.rows c.args.snapshot c.in_ok-filter.ensures in
    search rules

pub returns-clause-source : goal.returns-clause-source
returns-clause-source g c =
    let rows = c.in_ok-rows.ensures.rows c.args.snapshot c.in_ok-filter.ensures in
    search rules
