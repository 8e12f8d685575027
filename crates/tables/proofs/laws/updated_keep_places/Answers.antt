use Rattle.tables.proofs.Keeping.{updated_keep_places}
use Rattle.tables.proofs.laws.updated_keep_places.Goals as goal

pub returns : goal.returns
returns c = updated_keep_places
