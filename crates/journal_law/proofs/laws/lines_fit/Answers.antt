use Rattle.journal_law.proofs.LineFacts.{lines_fit}
use Rattle.journal_law.proofs.laws.lines_fit.Goals as goal

pub returns : goal.returns
returns g c = lines_fit g.T.Language.language
