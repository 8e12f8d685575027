use Rattle.store.proofs.Leaving.{whole_core}
use Rattle.std.proofs.Common.{refl}
use Rattle.store.proofs.Answering.{rolls_back}
use Rattle.store.proofs.desk_side.DeskSide.rollback.Goals as goal

pub rollback-requires-clause-core : goal.rollback-requires-clause-core
rollback-requires-clause-core g c = whole_core g.D.Disk.is_honest g.D.Disk.state c.args.self.now c.requires.stands

pub returns-clause-does : goal.returns-clause-does
returns-clause-does g c = λ t there. record { rest = c.rollback.ensures.rest; file = c.rollback.ensures.file; closed = c.rollback.ensures.closed t there; stays = c.rollback.ensures.core }

pub returns-clause-visit : goal.returns-clause-visit
returns-clause-visit g c = let t = c.requires.is_open.transaction in let there = c.requires.is_open.open_there in rolls_back g.D.Disk.is_honest g.D.Disk.state g.D.Disk.faults c.args.who c.args.self.now (record { core = c.rollback.new.self; start = c.args.self.now.start }) refl c.requires.stands c.args.why t there (record { rest = c.rollback.ensures.rest; file = c.rollback.ensures.file; closed = c.rollback.ensures.closed t there; stays = c.rollback.ensures.core })
