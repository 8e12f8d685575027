use Rattle.std.proofs.Common.{◌≡◌, ◌∙◌, sym}
use Rattle.rql_arguments.proofs.QueryLaws.{lists, lists_no, no_query}
use Rattle.rql_arguments.proofs.query.snapshot_query_of.Goals as goal

pub returns-in-None : goal.returns-in-None
returns-in-None c = no_query c.args.text.now (rw c.in-None.is at c.in_ok-query.ensures)

pub returns-then-lists_only : goal.returns-then-lists_only
returns-then-lists_only c =
    lists c.args.text.now c.in_ok-lexed.lexed c.in-Some.query c.in_ok-lexed.ensures (rw c.in-Some.is at c.in_ok-query.ensures) (sym c.lists_only.ensures ∙ c.if-lists_only.true)

pub returns-else-lists_only : goal.returns-else-lists_only
returns-else-lists_only c =
    lists_no c.one_reading.ensures c.args.text.now c.in_ok-lexed.lexed c.in-Some.query c.in_ok-lexed.ensures (rw c.in-Some.is at c.in_ok-query.ensures) (sym c.lists_only.ensures ∙ c.if-lists_only.false)
