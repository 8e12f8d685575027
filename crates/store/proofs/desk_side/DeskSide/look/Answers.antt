use Rattle.store.proofs.Leaving.{whole_core}
use Rattle.std.proofs.Common.{refl}
use Rattle.store.proofs.Calling.{looks}
use Rattle.store.proofs.desk_side.DeskSide.look.Goals as goal

pub look-requires-clause-core : goal.look-requires-clause-core
look-requires-clause-core g c = whole_core g.D.Disk.is_honest g.D.Disk.state c.args.self.now c.requires.stands

pub returns-clause-does : goal.returns-clause-does
returns-clause-does g c = record { desk = c.look.ensures.desk; looked = c.look.ensures.looked; start = c.look.ensures.start; stays = c.look.ensures.core }

pub returns-clause-visit : goal.returns-clause-visit
returns-clause-visit g c = looks g.D.Disk.is_honest g.D.Disk.state g.D.Disk.faults c.args.who c.args.self.now (record { core = c.look.new.self; start = c.args.self.now.start }) refl c.requires.stands c.args.number c.look.result c.requires.idle (record { desk = c.look.ensures.desk; looked = c.look.ensures.looked; start = c.look.ensures.start; stays = c.look.ensures.core })
