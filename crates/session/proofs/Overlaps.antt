-- An overlap with an item that had an attempt open fits.
use Rattle.std.proofs.Common.{Option}
use Rattle.retro_base.specs.declared.who.Who.{Who}
use Rattle.journal_law.specs.Language.{Language}
use Rattle.journal_law.proofs.LineFacts.{lines_fit}
use Rattle.session.specs.Attempts.{OverlapsFit}

pub overlaps_fit : (L : Language) (items : Who → Option L.Item) → OverlapsFit L items
overlaps_fit L items ground before who item end session number is is_kind by = (lines_fit L).transactions.overlapped items ground before who item is end is_kind session number by
