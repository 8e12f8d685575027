use Rattle.std.proofs.Common.{refl}
use Rattle.store.proofs.Dropping.{drops, drops_closed, drops_kept}
use Rattle.store.proofs.Leaving.{whole_core}
use Rattle.store.proofs.desk_side.DeskSide.drop_below.Goals as goal

pub drop_below-answer-requires-clause-core : goal.drop_below-answer-requires-clause-core
drop_below-answer-requires-clause-core g c = whole_core g.D.Disk.is_honest g.D.Disk.state c.args.self.now c.requires.stands

pub returns-clause-does : goal.returns-clause-does
returns-clause-does g c = record { pages = c.drop_below-answer.ensures.pages; honest = c.drop_below-answer.ensures.same.honest; names = c.names_log.ensures; dropped = c.drop_below-answer.ensures.dropped; cause = c.drop_below-answer.ensures.cause; untouched = c.drop_below-answer.ensures.untouched; nothing = c.drop_below-answer.ensures.nothing; done = c.drop_below-answer.ensures.done; failed = c.drop_below-answer.ensures.failed; stays = c.drop_below-answer.ensures.stays; any_moment = c.drop_below-answer.ensures.any_moment }

pub returns-clause-visit : goal.returns-clause-visit
returns-clause-visit g c = drops g.D.Disk.is_honest g.D.Disk.state g.D.Disk.faults g.D.Disk.remembers g.D.Disk.clock c.args.who c.args.self.now (record { core = c.drop_below-answer.new.self; start = c.args.self.now.start }) refl c.requires.stands c.args.below c.drop_below-answer.result c.requires.is_closed c.count_fits.ensures (record { pages = c.drop_below-answer.ensures.pages; honest = c.drop_below-answer.ensures.same.honest; names = c.names_log.ensures; dropped = c.drop_below-answer.ensures.dropped; cause = c.drop_below-answer.ensures.cause; untouched = c.drop_below-answer.ensures.untouched; nothing = c.drop_below-answer.ensures.nothing; done = c.drop_below-answer.ensures.done; failed = c.drop_below-answer.ensures.failed; stays = c.drop_below-answer.ensures.stays; any_moment = c.drop_below-answer.ensures.any_moment })

pub returns-clause-is_closed : goal.returns-clause-is_closed
returns-clause-is_closed g c = drops_closed g.D.Disk.is_honest g.D.Disk.state g.D.Disk.faults g.D.Disk.remembers g.D.Disk.clock c.args.who c.args.self.now (record { core = c.drop_below-answer.new.self; start = c.args.self.now.start }) refl c.requires.stands c.args.below c.drop_below-answer.result c.requires.is_closed c.count_fits.ensures (record { pages = c.drop_below-answer.ensures.pages; honest = c.drop_below-answer.ensures.same.honest; names = c.names_log.ensures; dropped = c.drop_below-answer.ensures.dropped; cause = c.drop_below-answer.ensures.cause; untouched = c.drop_below-answer.ensures.untouched; nothing = c.drop_below-answer.ensures.nothing; done = c.drop_below-answer.ensures.done; failed = c.drop_below-answer.ensures.failed; stays = c.drop_below-answer.ensures.stays; any_moment = c.drop_below-answer.ensures.any_moment })

pub returns-clause-kept : goal.returns-clause-kept
returns-clause-kept g c = drops_kept g.D.Disk.is_honest g.D.Disk.state g.D.Disk.faults g.D.Disk.remembers g.D.Disk.clock c.args.who c.args.self.now (record { core = c.drop_below-answer.new.self; start = c.args.self.now.start }) refl c.requires.stands c.args.below c.drop_below-answer.result c.requires.is_closed c.count_fits.ensures (record { pages = c.drop_below-answer.ensures.pages; honest = c.drop_below-answer.ensures.same.honest; names = c.names_log.ensures; dropped = c.drop_below-answer.ensures.dropped; cause = c.drop_below-answer.ensures.cause; untouched = c.drop_below-answer.ensures.untouched; nothing = c.drop_below-answer.ensures.nothing; done = c.drop_below-answer.ensures.done; failed = c.drop_below-answer.ensures.failed; stays = c.drop_below-answer.ensures.stays; any_moment = c.drop_below-answer.ensures.any_moment })
