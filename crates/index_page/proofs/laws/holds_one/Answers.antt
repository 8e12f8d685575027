use Rattle.index_page.proofs.Packing.{holds_one}
use Rattle.index_page.proofs.laws.holds_one.Goals as goal

pub returns : goal.returns
returns c = holds_one
