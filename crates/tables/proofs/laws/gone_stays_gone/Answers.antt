use Rattle.tables.proofs.Keeping.{gone_stays_gone}
use Rattle.tables.proofs.laws.gone_stays_gone.Goals as goal

pub returns : goal.returns
returns c = gone_stays_gone
