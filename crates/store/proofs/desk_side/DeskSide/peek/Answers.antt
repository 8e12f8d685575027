use Rattle.std.proofs.Common.{refl}
use Rattle.store.proofs.Answering.{peeks}
use Rattle.store.proofs.Leaving.{whole_core}
use Rattle.store.proofs.desk_side.DeskSide.peek.Goals as goal

pub peek-answer-requires-clause-core : goal.peek-answer-requires-clause-core
peek-answer-requires-clause-core g c = whole_core g.D.Disk.is_honest g.D.Disk.state c.args.self.now c.requires.stands

pub returns-clause-does : goal.returns-clause-does
returns-clause-does g c = record { cause = c.peek-answer.ensures.cause; upto = c.peek-answer.ensures.upto; told = c.peek-answer.ensures.told; err = c.peek-answer.ensures.err; ledger = c.peek-answer.ensures.ledger; rest = c.peek-answer.ensures.rest; same = c.peek-answer.ensures.same; quiet = λ honest. (c.peek-answer.ensures.quiet honest).any_moment; stays = c.peek-answer.ensures.core }

pub returns-clause-glance : goal.returns-clause-glance
returns-clause-glance g c =
    peeks g.D.Disk.is_honest g.D.Disk.state g.D.Disk.faults c.args.self.now (record { core = c.peek-answer.new.self; start = c.args.self.now.start }) refl c.requires.stands {remembers = g.D.Disk.remembers} {clock = g.D.Disk.clock} c.args.page c.args.snapshot c.args.out.now c.peek-answer.new.out c.peek-answer.result
    (record { cause = c.peek-answer.ensures.cause; upto = c.peek-answer.ensures.upto; told = c.peek-answer.ensures.told; err = c.peek-answer.ensures.err; ledger = c.peek-answer.ensures.ledger; rest = c.peek-answer.ensures.rest; same = c.peek-answer.ensures.same; quiet = λ honest. (c.peek-answer.ensures.quiet honest).any_moment; stays = c.peek-answer.ensures.core })
