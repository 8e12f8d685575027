use Rattle.history.specs.declared.entry.Change.TheVariants.{Drop}
use Rattle.store_core.proofs.dropping.send_drop.Goals as goal

pub returns-clause-any_moment : goal.returns-clause-any_moment
returns-clause-any_moment g c = λ plain may told. c.change.ensures.any_moment plain (Drop c.args.below) may told
