use Rattle.index_page.proofs.Packing.{written_holds}
use Rattle.index_page.proofs.laws.written_holds.Goals as goal

pub returns : goal.returns
returns c = written_holds
