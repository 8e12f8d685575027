use Rattle.store.specs.Seats.{IsReady, IsSized, IsWhole, Sat}
use Rattle.turn.specs.Tables.{table_of}
use Rattle.store.proofs.WorkerSeats.{copier_works, flusher_works, last_three, pushed, rest_calls, session_calls, session_idle}
use Rattle.store_bench.proofs.tell_on.Goals as goal

pub tell_job-told-requires-clause-session : goal.tell_job-told-requires-clause-session
tell_job-told-requires-clause-session g c = session_calls (table_of c.in-Ok.store.turn) c.in-Ok.seats.items c.pop.new.self.items c.pop-2.new.self.items c.pop-3.new.self.items c.in-Some.flushing c.in-Some-pop.copying c.in-Some-pop-2.session c.in-Some.ensures.items c.in-Some-pop.ensures.items c.in-Some-pop-2.ensures.items c.in-Ok.ensures.ready

pub tell_job-told-requires-clause-idle : goal.tell_job-told-requires-clause-idle
tell_job-told-requires-clause-idle g c = session_idle (table_of c.in-Ok.store.turn) c.in-Ok.seats.items c.pop.new.self.items c.pop-2.new.self.items c.pop-3.new.self.items c.in-Some.flushing c.in-Some-pop.copying c.in-Some-pop-2.session c.in-Some.ensures.items c.in-Some-pop.ensures.items c.in-Some-pop-2.ensures.items c.in-Ok.ensures.ready c.in-Ok.ensures.seats.1 (λ k s e. c.in-Ok.ensures.new k s e)

pub tell_job-told-requires-clause-sized : goal.tell_job-told-requires-clause-sized
tell_job-told-requires-clause-sized g c = (last_three (λ k (s : Sat _). IsSized c.in-Ok.store.pages s) c.in-Ok.seats.items c.pop.new.self.items c.pop-2.new.self.items c.pop-3.new.self.items c.in-Some.flushing c.in-Some-pop.copying c.in-Some-pop-2.session c.in-Some.ensures.items c.in-Some-pop.ensures.items c.in-Some-pop-2.ensures.items (λ k s e. c.in-Ok.ensures.sized k s e)).2

pub tell_job-told-requires-clause-copying : goal.tell_job-told-requires-clause-copying
tell_job-told-requires-clause-copying g c = copier_works (table_of c.in-Ok.store.turn) c.in-Ok.seats.items c.pop.new.self.items c.pop-2.new.self.items c.pop-3.new.self.items c.in-Some.flushing c.in-Some-pop.copying c.in-Some-pop-2.session c.in-Some.ensures.items c.in-Some-pop.ensures.items c.in-Some-pop-2.ensures.items c.in-Ok.ensures.ready c.in-Ok.ensures.seats.1 (λ k s e. c.in-Ok.ensures.new k s e)

pub tell_job-told-requires-clause-flushing : goal.tell_job-told-requires-clause-flushing
tell_job-told-requires-clause-flushing g c = flusher_works (table_of c.in-Ok.store.turn) c.in-Ok.seats.items c.pop.new.self.items c.pop-2.new.self.items c.pop-3.new.self.items c.in-Some.flushing c.in-Some-pop.copying c.in-Some-pop-2.session c.in-Some.ensures.items c.in-Some-pop.ensures.items c.in-Some-pop-2.ensures.items c.in-Ok.ensures.ready c.in-Ok.ensures.seats.1 (λ k s e. c.in-Ok.ensures.new k s e)

pub close-closed-requires-clause-ready : goal.close-closed-requires-clause-ready
close-closed-requires-clause-ready g c =
    pushed (λ (s : Sat _). IsReady (table_of c.in-Ok.store.turn) s × IsWhole s) c.pop-3.new.self.items c.push_reserved.new.self.items c.push_reserved-2.new.self.items c.push_reserved-3.new.self.items
    c.tell_job-told.new.session c.tell_job-told.new.copying c.tell_job-told.new.flushing c.push_reserved.ensures.items c.push_reserved-2.ensures.items c.push_reserved-3.ensures.items (rest_calls (table_of c.in-Ok.store.turn) c.in-Ok.seats.items c.pop.new.self.items c.pop-2.new.self.items c.pop-3.new.self.items c.in-Some.flushing c.in-Some-pop.copying c.in-Some-pop-2.session c.in-Some.ensures.items c.in-Some-pop.ensures.items c.in-Some-pop-2.ensures.items c.in-Ok.ensures.ready)
    c.tell_job-told.ensures.session c.tell_job-told.ensures.copying c.tell_job-told.ensures.flushing
