-- Comparing entries.
use Rattle.std.specs.Cmp.{IsTotalOrder}
use Rattle.std.proofs.lemmas.Cmp.{nat_cmp_total, on_total, then_total}
use Rattle.values.proofs.Orders.{value_total}
use Rattle.pager.specs.Index.{found_cmp}
use Rattle.pager.specs.declared.index.Found.{Found}

-- comparing entries is a total order
pub found_total : IsTotalOrder found_cmp
found_total = then_total (on_total (λ (found : Found). found.value) value_total) (on_total (λ (found : Found). found.number) nat_cmp_total)
