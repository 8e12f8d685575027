use Rattle.store.proofs.Leaving.{whole_core}
use Rattle.std.proofs.Common.{refl}
use Rattle.store.proofs.Calling.{begins}
use Rattle.store.proofs.desk_side.DeskSide.begin.Goals as goal

pub begin-requires-clause-core : goal.begin-requires-clause-core
begin-requires-clause-core g c = whole_core g.D.Disk.is_honest g.D.Disk.state c.args.self.now c.requires.stands

pub returns-clause-does : goal.returns-clause-does
returns-clause-does g c = record { desk = c.begin.ensures.desk; begun = c.begin.ensures.begun; stays = c.begin.ensures.core }

pub returns-clause-visit : goal.returns-clause-visit
returns-clause-visit g c = begins g.D.Disk.is_honest g.D.Disk.state g.D.Disk.faults c.args.who c.args.self.now (record { core = c.begin.new.self; start = c.args.self.now.start }) refl c.requires.stands c.begin.result c.requires.idle (record { desk = c.begin.ensures.desk; begun = c.begin.ensures.begun; stays = c.begin.ensures.core })
