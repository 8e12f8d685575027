use Rattle.values.proofs.Orders.{value_total}
use Rattle.values.proofs.value.value_order.Goals as goal

pub returns : goal.returns
returns c = value_total
