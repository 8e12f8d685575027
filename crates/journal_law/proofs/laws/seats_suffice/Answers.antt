use Rattle.journal_law.proofs.Seating.{suffice}
use Rattle.journal_law.proofs.laws.seats_suffice.Goals as goal

pub returns : goal.returns
returns g c items = suffice g.T.Language.language items
