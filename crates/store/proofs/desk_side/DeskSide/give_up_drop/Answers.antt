use Rattle.std.proofs.Common.{refl}
use Rattle.store.proofs.Dropping.{gives_up_visit, none_kept}
use Rattle.store.proofs.Leaving.{whole_core}
use Rattle.store.proofs.desk_side.DeskSide.give_up_drop.Goals as goal

pub give_up_drop-requires : goal.give_up_drop-requires
give_up_drop-requires g c = record { core = whole_core g.D.Disk.is_honest g.D.Disk.state c.args.self.now c.requires.stands }

pub returns-clause-does : goal.returns-clause-does
returns-clause-does g c = record { desk = c.give_up_drop.ensures.desk; ledger = c.give_up_drop.ensures.given_up; stays = c.give_up_drop.ensures.core }

pub returns-clause-visit : goal.returns-clause-visit
returns-clause-visit g c = gives_up_visit g.D.Disk.is_honest g.D.Disk.state g.D.Disk.faults c.args.who c.args.self.now (record { core = c.give_up_drop.new.self; start = c.args.self.now.start }) refl c.requires.stands c.requires.is_closed (record { desk = c.give_up_drop.ensures.desk; ledger = c.give_up_drop.ensures.given_up; stays = c.give_up_drop.ensures.core })

pub returns-clause-none : goal.returns-clause-none
returns-clause-none g c = none_kept g.D.Disk.is_honest g.D.Disk.state g.D.Disk.faults c.args.who c.args.self.now (record { core = c.give_up_drop.new.self; start = c.args.self.now.start }) refl c.requires.stands c.requires.is_closed (record { desk = c.give_up_drop.ensures.desk; ledger = c.give_up_drop.ensures.given_up; stays = c.give_up_drop.ensures.core })
