use Rattle.area_log.proofs.Unique.{device_one_way}
use Rattle.area_log.proofs.laws.device_is_read_one_way.Goals as goal

pub returns : goal.returns
returns c = device_one_way
