use Rattle.turn_tests.proofs.Listing.{new_ready}
use Rattle.turn_tests.proofs.threads.opened.Goals as goal

pub returns-in-Ok-clause-ready : goal.returns-in-Ok-clause-ready
returns-in-Ok-clause-ready c = new_ready c.in-Ok.made.0.table.shared.table_id _ c.in-Ok.made.1.items c.in-Ok.ensures.new
