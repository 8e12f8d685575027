use Rattle.turn.specs.Tables.{table_of}
use Rattle.store_tests.proofs.LastSeats.{all_call, may_copy, session_calls, session_idle}
use Rattle.store_tests.proofs.copied.copied.Goals as goal

pub act_all-done-requires : goal.act_all-done-requires
act_all-done-requires g c = record {
  rests = (
    session_calls (table_of c.in-Ok.store.turn) g.D.Disk.state g.D.Disk.faults c.in-Ok.seats.items c.pop.new.self.items c.pop-2.new.self.items c.in-Some.copying c.in-Some-pop.session c.in-Some.ensures.items c.in-Some-pop.ensures.items c.in-Ok.ensures.ready,
    session_idle (table_of c.in-Ok.store.turn) g.D.Disk.state g.D.Disk.faults c.in-Ok.seats.items c.pop.new.self.items c.pop-2.new.self.items c.in-Some.copying c.in-Some-pop.session c.in-Some.ensures.items c.in-Some-pop.ensures.items (λ k s e. c.in-Ok.ensures.new k s e),
  );
}

pub close_copied-closed-requires-clause-ready : goal.close_copied-closed-requires-clause-ready
close_copied-closed-requires-clause-ready g c =
    all_call (table_of c.in-Ok.store.turn) g.D.Disk.state g.D.Disk.faults c.in-Ok.seats.items c.pop.new.self.items c.pop-2.new.self.items c.in-Some.copying c.in-Some-pop.session c.in-Some.ensures.items c.in-Some-pop.ensures.items c.in-Ok.ensures.ready
    c.act_all-done.new.seat c.push_reserved.new.self.items c.push_reserved-2.new.self.items c.push_reserved.ensures.items c.push_reserved-2.ensures.items c.act_all-done.ensures.ready

pub close_copied-closed-requires-clause-may : goal.close_copied-closed-requires-clause-may
close_copied-closed-requires-clause-may g c =
    may_copy (table_of c.in-Ok.store.turn) g.D.Disk.state g.D.Disk.faults c.in-Ok.seats.items c.pop.new.self.items c.pop-2.new.self.items c.in-Some.copying c.in-Some-pop.session c.in-Some.ensures.items c.in-Some-pop.ensures.items (λ k s e. c.in-Ok.ensures.new k s e) c.in-Ok.ensures.seats.1
    c.act_all-done.new.seat c.push_reserved.new.self.items c.push_reserved-2.new.self.items c.push_reserved.ensures.items c.push_reserved-2.ensures.items c.act_all-done.ensures.same
