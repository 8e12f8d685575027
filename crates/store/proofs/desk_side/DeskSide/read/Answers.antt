use Rattle.store.proofs.Leaving.{whole_core}
use Rattle.std.proofs.Common.{refl}
use Rattle.store.proofs.Answering.{reads}
use Rattle.store.proofs.desk_side.DeskSide.read.Goals as goal

pub read-answer-requires-clause-core : goal.read-answer-requires-clause-core
read-answer-requires-clause-core g c = whole_core g.D.Disk.is_honest g.D.Disk.state c.args.self.now c.requires.stands

pub returns-clause-does : goal.returns-clause-does
returns-clause-does g c = λ t there. record { refused = λ why e. c.read-answer.ensures.refused t why there e; err = c.read-answer.ensures.err; answered = c.read-answer.ensures.ledger t there; cause = c.read-answer.ensures.cause t there; own = λ bytes. c.read-answer.ensures.own t bytes there; current = λ opening plain is honest. c.read-answer.ensures.page opening plain t is honest there; read_before = c.read-answer.ensures.read_before t there; rest = c.read-answer.ensures.rest; same = c.read-answer.ensures.same; quiet = λ honest. (c.read-answer.ensures.quiet honest).any_moment; stays = c.read-answer.ensures.core }

pub returns-clause-visit : goal.returns-clause-visit
returns-clause-visit g c = let t = c.requires.is_open.transaction in let there = c.requires.is_open.open_there in reads g.D.Disk.is_honest g.D.Disk.state g.D.Disk.faults c.args.who c.args.self.now (record { core = c.read-answer.new.self; start = c.args.self.now.start }) refl c.requires.stands {remembers = g.D.Disk.remembers} {clock = g.D.Disk.clock} c.args.page c.args.out.now c.read-answer.new.out t c.read-answer.result there c.count_fits.ensures (record { refused = λ why e. c.read-answer.ensures.refused t why there e; err = c.read-answer.ensures.err; answered = c.read-answer.ensures.ledger t there; cause = c.read-answer.ensures.cause t there; own = λ bytes. c.read-answer.ensures.own t bytes there; current = λ opening plain is honest. c.read-answer.ensures.page opening plain t is honest there; read_before = c.read-answer.ensures.read_before t there; rest = c.read-answer.ensures.rest; same = c.read-answer.ensures.same; quiet = λ honest. (c.read-answer.ensures.quiet honest).any_moment; stays = c.read-answer.ensures.core })
