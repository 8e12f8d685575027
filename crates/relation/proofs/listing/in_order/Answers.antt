use Rattle.std.proofs.Common.{rules}
use Rattle.pager.proofs.Orders.{found_total}
use Rattle.pager.specs.Index.{found_cmp}
use Rattle.relation.proofs.Sorted.{sorted-from}
use Rattle.relation.proofs.listing.in_order.Goals as goal

pub returns : goal.returns
returns c = (c.in_ok-sort_by.ensures.permutation, sorted-from found_cmp found_total _ c.in_ok-sort_by.ensures.sorted (λ a r f' q. search rules))
