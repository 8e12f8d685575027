use Rattle.history.proofs.Journals.{one_more_line, journal_pages, journal_captures_grow}
use Rattle.history.proofs.laws.laws_of_journals.Goals as goal

pub returns : goal.returns
returns c = record { one_more = one_more_line; pages = journal_pages; captures = journal_captures_grow }
