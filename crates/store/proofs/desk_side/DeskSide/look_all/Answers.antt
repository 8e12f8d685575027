use Rattle.store.proofs.Leaving.{whole_core}
use Rattle.std.proofs.Common.{refl}
use Rattle.store.proofs.Calling.{looks_all}
use Rattle.store.proofs.desk_side.DeskSide.look_all.Goals as goal

pub look_all-requires-clause-core : goal.look_all-requires-clause-core
look_all-requires-clause-core g c = whole_core g.D.Disk.is_honest g.D.Disk.state c.args.self.now c.requires.stands

pub returns-clause-does : goal.returns-clause-does
returns-clause-does g c = record { desk = c.look_all.ensures.desk; looked = c.look_all.ensures.looked; marks = c.look_all.ensures.marks; stays = c.look_all.ensures.core }

pub returns-clause-visit : goal.returns-clause-visit
returns-clause-visit g c = looks_all g.D.Disk.is_honest g.D.Disk.state g.D.Disk.faults c.args.who c.args.self.now (record { core = c.look_all.new.self; start = c.args.self.now.start }) refl c.requires.stands c.look_all.result c.requires.idle (record { desk = c.look_all.ensures.desk; looked = c.look_all.ensures.looked; marks = c.look_all.ensures.marks; stays = c.look_all.ensures.core })
