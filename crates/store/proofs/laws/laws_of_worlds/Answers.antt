use Rattle.store.proofs.Named.{names_same, names_stay, others_refused, pins_same, retained_held}
use Rattle.store.proofs.Worlds.{world_is}
use Rattle.store.proofs.laws.laws_of_worlds.Goals as goal

pub returns-clause-names : goal.returns-clause-names
returns-clause-names c = names_stay

pub returns-clause-pins : goal.returns-clause-pins
returns-clause-pins c = pins_same

pub returns-clause-same : goal.returns-clause-same
returns-clause-same c = names_same

pub returns-clause-held : goal.returns-clause-held
returns-clause-held c = retained_held

pub returns-clause-others : goal.returns-clause-others
returns-clause-others c = others_refused

pub returns-clause-world : goal.returns-clause-world
returns-clause-world c = world_is
