use Rattle.std.proofs.Common.{rules}
use Rattle.sql_select.specs.Order.{keys_cmp}
use Rattle.sql_select.proofs.SortKeys.{keys_total}
use Rattle.sql_select.proofs.Sorting.{from_sort_by}
use Rattle.sql_select.proofs.ordering.sort.Goals as goal

pub returns-clause-sorted : goal.returns-clause-sorted
returns-clause-sorted c =
    from_sort_by (keys_cmp c.args.keys.now) (keys_total c.args.keys.now) _ _ c.in_ok-sort_by.ensures.sorted c.in_ok-sort_by.ensures.stable (λ a r f' k. search rules)
