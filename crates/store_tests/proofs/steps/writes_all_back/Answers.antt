use Rattle.std.proofs.Common.{refl}
use Rattle.store_tests.proofs.steps.writes_all_back.Goals as goal

pub returns-in-Ok-clause-rests : goal.returns-in-Ok-clause-rests
returns-in-Ok-clause-rests g c = (c.flusher.ensures.ready, c.in-Ok.ensures.again refl)
