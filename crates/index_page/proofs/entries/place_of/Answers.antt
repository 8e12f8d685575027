use Rattle.index_page.specs.Entries.{is_behind}
use Rattle.index_page.proofs.Placing.{place-or_end}
use Rattle.index_page.proofs.entries.place_of.Goals as goal

pub returns-clause-place : goal.returns-clause-place
returns-clause-place c = rw (c.unwrap_or.ensures, c.first_behind.ensures) (place-or_end (is_behind c.args.entry.now) c.args.entries.now)
