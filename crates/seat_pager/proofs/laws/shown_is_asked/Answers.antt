use Rattle.seat_pager.proofs.Suffice.{shown_is_asked}
use Rattle.seat_pager.proofs.laws.shown_is_asked.Goals as goal

pub returns : goal.returns
returns g c = shown_is_asked g.T.Language.language
