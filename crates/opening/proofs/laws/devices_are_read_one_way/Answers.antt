use Rattle.opening.proofs.OneWay.{are_read_one_way}
use Rattle.opening.proofs.laws.devices_are_read_one_way.Goals as goal

pub returns : goal.returns
returns c = are_read_one_way
