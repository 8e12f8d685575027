use Rattle.std.proofs.Common.{refl}
use Rattle.store_tests.proofs.steps.copies_all.Goals as goal

pub returns-in-Ok-clause-rests : goal.returns-in-Ok-clause-rests
returns-in-Ok-clause-rests g c = (c.copier.ensures.ready, c.in-Ok.ensures.again refl)
