use Rattle.index_page.proofs.Halving.{halves_fit}
use Rattle.index_page.proofs.laws.halves_fit.Goals as goal

pub returns : goal.returns
returns c = halves_fit
