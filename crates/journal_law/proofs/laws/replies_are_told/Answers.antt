use Rattle.journal_law.proofs.Replies.{replies_told}
use Rattle.journal_law.proofs.laws.replies_are_told.Goals as goal

pub returns : goal.returns
returns g c = replies_told g.T.Language.language
