use Rattle.desk.proofs.Opens.{desk_bytes_open}
use Rattle.desk.proofs.laws.desk_bytes_open.Goals as goal

pub returns : goal.returns
returns c = desk_bytes_open
