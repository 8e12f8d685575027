use Rattle.history.specs.declared.journal.FailedCall.TheVariants.{Read}
use Rattle.turn_tests.proofs.visits.meet_faults.Goals as goal

pub add-requires-clause-told : goal.add-requires-clause-told
add-requires-clause-told g c = c.fail_in_vault-count.ensures.told Read
