use Rattle.std.proofs.Common.{◌≡◌, ◌≤◌, length, arith}
use Rattle.retro_base.specs.declared.limits.TheConstants.{LINE_BYTES}
use Rattle.rql_arguments.proofs.QueryLaws.{broken, query_found}
use Rattle.rql_arguments.proofs.query.query_of.Goals as goal

pub returns-in-Ok : goal.returns-in-Ok
returns-in-Ok c =
    let short : length c.args.text.now ≤ LINE_BYTES = omega arith in
    rw c.select_of.ensures (query_found c.args.text.now c.in-Ok.parsed short c.in-Ok.ensures.found c.in-Ok.ensures.only)

pub returns-in-Err-Syntax : goal.returns-in-Err-Syntax
returns-in-Err-Syntax c = broken c.broken_lines_say_nothing.ensures c.args.text.now _ (rw c.in-Err-Syntax.field-0-is at c.in-Err-Syntax.ensures.refused)
