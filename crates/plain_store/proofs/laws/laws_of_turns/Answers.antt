use Rattle.plain_store.proofs.Turns.{turns_join}
use Rattle.plain_store.proofs.laws.laws_of_turns.Goals as goal

pub returns : goal.returns
returns c = turns_join
