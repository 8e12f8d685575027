use Rattle.tables.proofs.Finding.{by_position}
use Rattle.tables.proofs.tables.Tables.place.Goals as goal

pub returns : goal.returns
returns c = by_position c.args.name.now c.args.self.now c.position.result c.ok_or.result c.position.ensures.lawful c.position.ensures.place c.ok_or.ensures.value
