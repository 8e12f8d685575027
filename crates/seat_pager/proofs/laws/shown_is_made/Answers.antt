use Rattle.seat_pager.proofs.Suffice.{shown_is_made}
use Rattle.seat_pager.proofs.laws.shown_is_made.Goals as goal

pub returns : goal.returns
returns g c = shown_is_made g.T.Language.language
