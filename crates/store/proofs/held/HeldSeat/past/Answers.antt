use Rattle.std.proofs.Common.{List, Err, Ok, ap, subst, sym, take}
use Rattle.journal_law.specs.Seats.{PastGives}
use Rattle.turn.specs.Seats.{mine, opening, seen}
use Rattle.journal_law.specs.declared.seat.ToldFault.{ToldFault}
use Rattle.store.specs.Seen.{IsHonest, IsSeated, view_of, work_in}
use Rattle.store.proofs.Coming.{looking_is, some_looking}
use Rattle.store.proofs.Pasts.{pinned_so, some_there}
use Rattle.store.proofs.Recalled.{keeps_seated, past_err, past_keeps, past_ok, sized_on, told_on}
use Rattle.store.proofs.held.HeldSeat.past.Goals as goal

pub recall-requires-clause-pinned : goal.recall-requires-clause-pinned
recall-requires-clause-pinned g c =
    let h = c.args.self.now in
    let o = some_looking h.asked (seen h.seat) (mine h.seat).work c.requires.looking_now in
    let found = some_there (opening h.seat) h.ready.rests.seat.opened in
    pinned_so g.D.Disk.state g.D.Disk.faults h.seat h.who h.asked h.told.items h.seated o.0 o.1 found.0 found.1 c.args.snapshot
    (c.requires.pinned (record { who = o.0.who; since = take o.0.began (seen h.seat); snapshot = h.asked }) (ap (work_in h.asked (seen h.seat)) o.1))

pub invariant_of-self-in-Ok : goal.invariant_of-self-in-Ok
invariant_of-self-in-Ok g c =
    let h = c.args.self.now in
    record {
      ready = c.recall.ensures.ready.0;
      whole = c.recall.ensures.ready.1;
      sized = sized_on h.store.now.pages h.seat c.recall.new.seat c.recall.ensures.same.same.opening h.sized;
      tabled = c.recall.ensures.kept;
      seated = subst (λ (ts : List ToldFault). IsSeated h.who h.asked ts c.recall.new.seat) (sym c.reserve.ensures.items)
          (keeps_seated g.D.Disk.state g.D.Disk.faults _ h.seat c.recall.new.seat h.ready c.recall.ensures.same c.recall.ensures.waits h.who h.asked h.told.items h.seated);
    }

pub invariant_of-self-in-Err : goal.invariant_of-self-in-Err
invariant_of-self-in-Err g c =
    let h = c.args.self.now in
    let o = some_looking h.asked (seen h.seat) (mine h.seat).work c.requires.looking_now in
    record {
      ready = c.recall.ensures.ready.0;
      whole = c.recall.ensures.ready.1;
      sized = sized_on h.store.now.pages h.seat c.recall.new.seat c.recall.ensures.same.same.opening h.sized;
      tabled = c.recall.ensures.kept;
      seated = subst (λ (ts : List ToldFault). IsSeated h.who h.asked ts c.recall.new.seat) (sym (told_on h.told.items c.reserve.new.self.items c.tell.new.told.items c.in-Err.fault.why c.reserve.ensures.items c.tell.ensures))
          (past_keeps g.D.Disk.state g.D.Disk.faults _ h.seat c.recall.new.seat h.ready c.recall.ensures.same c.recall.ensures.waits h.who h.asked h.told.items h.seated o.0 o.1 c.in-Err.fault.why c.in-Err.ensures.cause.table.covered c.in-Err.ensures.cause.refuses.before.core.desk.queue.first c.in-Err.ensures.cause.refuses.refused.1);
    }

pub returns-in-Ok-clause-gives : goal.returns-in-Ok-clause-gives
returns-in-Ok-clause-gives g c = λ l e.
    let h = c.args.self.now in
    let o = looking_is h.asked (seen h.seat) (mine h.seat).work l e in
    subst (λ x. PastGives (IsHonest g.D.Disk.is_honest g.D.Disk.state c.recall.new.seat) c.args.snapshot c.args.page c.recall.new.out (view_of g.D.Disk.state g.D.Disk.faults h.asked h.told.items h.seat) (view_of g.D.Disk.state g.D.Disk.faults h.asked c.reserve.new.self.items c.recall.new.seat) x (Ok tt)) o.2
    (subst (λ (ts : List ToldFault). PastGives (IsHonest g.D.Disk.is_honest g.D.Disk.state c.recall.new.seat) c.args.snapshot c.args.page c.recall.new.out (view_of g.D.Disk.state g.D.Disk.faults h.asked h.told.items h.seat) (view_of g.D.Disk.state g.D.Disk.faults h.asked ts c.recall.new.seat) (record { who = o.0.who; since = take o.0.began (seen h.seat); snapshot = h.asked }) (Ok tt)) (sym c.reserve.ensures.items)
    (past_ok g.D.Disk.state g.D.Disk.faults _ h.seat c.recall.new.seat h.ready c.recall.ensures.same c.recall.ensures.waits h.who h.asked h.told.items h.seated o.0 o.1 g.D.Disk.is_honest c.args.snapshot c.args.page c.recall.new.out c.in-Ok.ensures.page c.in-Ok.ensures.retained))

pub returns-in-Err-clause-gives : goal.returns-in-Err-clause-gives
returns-in-Err-clause-gives g c = λ l e.
    let h = c.args.self.now in
    let o = looking_is h.asked (seen h.seat) (mine h.seat).work l e in
    subst (λ x. PastGives (IsHonest g.D.Disk.is_honest g.D.Disk.state c.recall.new.seat) c.args.snapshot c.args.page c.recall.new.out (view_of g.D.Disk.state g.D.Disk.faults h.asked h.told.items h.seat) (view_of g.D.Disk.state g.D.Disk.faults h.asked c.tell.new.told.items c.recall.new.seat) x (Err c.in-Err.fault.why)) o.2
    (subst (λ (ts : List ToldFault). PastGives (IsHonest g.D.Disk.is_honest g.D.Disk.state c.recall.new.seat) c.args.snapshot c.args.page c.recall.new.out (view_of g.D.Disk.state g.D.Disk.faults h.asked h.told.items h.seat) (view_of g.D.Disk.state g.D.Disk.faults h.asked ts c.recall.new.seat) (record { who = o.0.who; since = take o.0.began (seen h.seat); snapshot = h.asked }) (Err c.in-Err.fault.why))
    (sym (told_on h.told.items c.reserve.new.self.items c.tell.new.told.items c.in-Err.fault.why c.reserve.ensures.items c.tell.ensures))
    (past_err g.D.Disk.state g.D.Disk.faults _ h.seat c.recall.new.seat h.ready c.recall.ensures.same c.recall.ensures.waits h.who h.asked h.told.items h.seated o.0 o.1 (IsHonest g.D.Disk.is_honest g.D.Disk.state c.recall.new.seat) c.args.snapshot c.args.page c.recall.new.out c.in-Err.fault.why c.in-Err.ensures.cause.table.covered c.in-Err.ensures.cause.refuses.before.core.desk.queue.first c.in-Err.ensures.cause.refuses.refused.1 c.in-Err.ensures.fault))
