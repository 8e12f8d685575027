use Rattle.turn.specs.Tables.{table_of}
use Rattle.store.proofs.WorkerSeats.{copier_works, flusher_works, rest_calls, session_calls, session_idle}
use Rattle.store_tests.proofs.plays.open.Goals as goal

pub returns-in-Some-pop-2-clause-session : goal.returns-in-Some-pop-2-clause-session
returns-in-Some-pop-2-clause-session g c = (
  session_calls (table_of c.in-Ok.store.turn) c.in-Ok.seats.items c.pop.new.self.items c.pop-in-Ok.new.self.items c.pop-in-Ok-2.new.self.items c.in-Some.flushing c.in-Some-pop.copying c.in-Some-pop-2.session c.in-Some.ensures.items c.in-Some-pop.ensures.items c.in-Some-pop-2.ensures.items c.in-Ok.ensures.ready,
  session_idle (table_of c.in-Ok.store.turn) c.in-Ok.seats.items c.pop.new.self.items c.pop-in-Ok.new.self.items c.pop-in-Ok-2.new.self.items c.in-Some.flushing c.in-Some-pop.copying c.in-Some-pop-2.session c.in-Some.ensures.items c.in-Some-pop.ensures.items c.in-Some-pop-2.ensures.items c.in-Ok.ensures.ready c.in-Ok.ensures.seats.1 (λ k s e. c.in-Ok.ensures.new k s e),
)

pub returns-in-Some-pop-2-clause-copying : goal.returns-in-Some-pop-2-clause-copying
returns-in-Some-pop-2-clause-copying g c =
    let works = copier_works (table_of c.in-Ok.store.turn) c.in-Ok.seats.items c.pop.new.self.items c.pop-in-Ok.new.self.items c.pop-in-Ok-2.new.self.items c.in-Some.flushing c.in-Some-pop.copying c.in-Some-pop-2.session c.in-Some.ensures.items c.in-Some-pop.ensures.items c.in-Some-pop-2.ensures.items c.in-Ok.ensures.ready c.in-Ok.ensures.seats.1 (λ k s e. c.in-Ok.ensures.new k s e) in
    ((works.0, works.1), works.2)

pub returns-in-Some-pop-2-clause-flushing : goal.returns-in-Some-pop-2-clause-flushing
returns-in-Some-pop-2-clause-flushing g c =
    let works = flusher_works (table_of c.in-Ok.store.turn) c.in-Ok.seats.items c.pop.new.self.items c.pop-in-Ok.new.self.items c.pop-in-Ok-2.new.self.items c.in-Some.flushing c.in-Some-pop.copying c.in-Some-pop-2.session c.in-Some.ensures.items c.in-Some-pop.ensures.items c.in-Some-pop-2.ensures.items c.in-Ok.ensures.ready c.in-Ok.ensures.seats.1 (λ k s e. c.in-Ok.ensures.new k s e) in
    ((works.0, works.1), works.2)

pub returns-in-Some-pop-2-clause-others : goal.returns-in-Some-pop-2-clause-others
returns-in-Some-pop-2-clause-others g c = rest_calls (table_of c.in-Ok.store.turn) c.in-Ok.seats.items c.pop.new.self.items c.pop-in-Ok.new.self.items c.pop-in-Ok-2.new.self.items c.in-Some.flushing c.in-Some-pop.copying c.in-Some-pop-2.session c.in-Some.ensures.items c.in-Some-pop.ensures.items c.in-Some-pop-2.ensures.items c.in-Ok.ensures.ready
