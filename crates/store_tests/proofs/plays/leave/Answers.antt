use Rattle.store.specs.Seats.{IsReady, IsWhole, Sat}
use Rattle.turn.specs.Tables.{table_of}
use Rattle.store.proofs.WorkerSeats.{pushed}
use Rattle.store_tests.proofs.plays.leave.Goals as goal

pub close-requires-clause-ready : goal.close-requires-clause-ready
close-requires-clause-ready g c =
    pushed (λ (s : Sat _). IsReady (table_of c.args.crew.store.turn) s × IsWhole s) c.args.crew.others.items c.push_reserved.new.self.items c.push_reserved-2.new.self.items c.push_reserved-3.new.self.items
    c.args.crew.session c.args.crew.copying c.args.crew.flushing c.push_reserved.ensures.items c.push_reserved-2.ensures.items c.push_reserved-3.ensures.items
    c.requires.others c.requires.session c.requires.copying c.requires.flushing
