use Rattle.index_page.proofs.Halving.{four_fit}
use Rattle.index_page.proofs.laws.four_fit.Goals as goal

pub returns : goal.returns
returns c = four_fit
