use Rattle.store.proofs.Leaving.{whole_core}
use Rattle.std.proofs.Common.{refl}
use Rattle.store.proofs.Answering.{edits}
use Rattle.store.proofs.desk_side.DeskSide.edit.Goals as goal

pub edit-answer-requires-clause-core : goal.edit-answer-requires-clause-core
edit-answer-requires-clause-core g c = whole_core g.D.Disk.is_honest g.D.Disk.state c.args.self.now c.requires.stands

pub returns-clause-does : goal.returns-clause-does
returns-clause-does g c = λ t there. record { refused = λ why e. c.edit-answer.ensures.refused t why there e; answered = c.edit-answer.ensures.ledger t there; cause = c.edit-answer.ensures.cause t there; rest = c.edit-answer.ensures.rest; same = c.edit-answer.ensures.same; quiet = λ honest. (c.edit-answer.ensures.quiet honest).any_moment; stays = c.edit-answer.ensures.core }

pub returns-clause-visit : goal.returns-clause-visit
returns-clause-visit g c = let t = c.requires.is_open.transaction in let there = c.requires.is_open.open_there in edits g.D.Disk.is_honest g.D.Disk.state g.D.Disk.faults c.args.who c.args.self.now (record { core = c.edit-answer.new.self; start = c.args.self.now.start }) refl c.requires.stands {remembers = g.D.Disk.remembers} {clock = g.D.Disk.clock} c.args.page c.args.bytes.now t c.edit-answer.result there c.count_fits.ensures (record { refused = λ why e. c.edit-answer.ensures.refused t why there e; answered = c.edit-answer.ensures.ledger t there; cause = c.edit-answer.ensures.cause t there; rest = c.edit-answer.ensures.rest; same = c.edit-answer.ensures.same; quiet = λ honest. (c.edit-answer.ensures.quiet honest).any_moment; stays = c.edit-answer.ensures.core })
