use Rattle.std.proofs.Common.{◌≡◌, List, None, [], refl, subst, sym}
use Rattle.journal_law.specs.Seats as law
use Rattle.journal_law.specs.Seats.{View}
use Rattle.journal_law.specs.declared.seat.ToldFault.{ToldFault}
use Rattle.store.specs.Seen.{IsSeated, view_of, work_in}
use Rattle.store.specs.WorkerRounds.{IsFreshOrStopped, WorkerLeaves, worker}
use Rattle.store.proofs.Coming.{idle_view, seated_none}
use Rattle.store.proofs.Recalled.{sized_on}
use Rattle.store.proofs.held.Held.work.Goals as goal

pub run_unless_stopped-requires-clause-idle : goal.run_unless_stopped-requires-clause-idle
run_unless_stopped-requires-clause-idle g c =
    let h = c.args.self.now in
    (idle_view g.D.Disk.state g.D.Disk.faults h.who h.asked h.told.items h.seat h.seated c.requires.idle).0

pub run_unless_stopped-requires-clause-may : goal.run_unless_stopped-requires-clause-may
run_unless_stopped-requires-clause-may g c =
    let h = c.args.self.now in
    subst IsFreshOrStopped (idle_view g.D.Disk.state g.D.Disk.faults h.who h.asked h.told.items h.seat h.seated c.requires.idle).1 c.requires.may

pub invariant_of-self : goal.invariant_of-self
invariant_of-self g c =
    let h = c.args.self.now in
    let e = c.run_unless_stopped.ensures in
    let none = (idle_view g.D.Disk.state g.D.Disk.faults h.who h.asked h.told.items h.seat h.seated c.requires.idle).0 in
    record {
      ready = e.ready.0;
      whole = e.ready.1;
      sized = sized_on h.store.now.pages h.seat c.run_unless_stopped.new.seat e.same.opening h.sized;
      tabled = tt;
      seated = subst (λ (ts : List ToldFault). IsSeated h.who h.asked ts c.run_unless_stopped.new.seat) (sym (h.seated.quiet none)) (seated_none h.who h.asked c.run_unless_stopped.new.seat e.idle);
    }

pub returns-clause-leaves : goal.returns-clause-leaves
returns-clause-leaves g c =
    let h = c.args.self.now in
    let s = c.run_unless_stopped.new.seat in
    let e = c.run_unless_stopped.ensures in
    let old = idle_view g.D.Disk.state g.D.Disk.faults h.who h.asked h.told.items h.seat h.seated c.requires.idle in
    let told : h.told.items ≡ [] = h.seated.quiet old.0 in
    let seated : IsSeated h.who h.asked [] s = seated_none h.who h.asked s e.idle in
    let new = idle_view g.D.Disk.state g.D.Disk.faults h.who h.asked [] s seated (subst (λ w. work_in h.asked (view_of g.D.Disk.state g.D.Disk.faults None [] s).front w ≡ law.Idle) (sym e.idle) refl) in
    subst (λ (ts : List ToldFault). WorkerLeaves (worker c.args.phase h.seat.number) (view_of g.D.Disk.state g.D.Disk.faults h.asked h.told.items h.seat) (view_of g.D.Disk.state g.D.Disk.faults h.asked ts s)) (sym told)
    (subst (λ (v : View). WorkerLeaves (worker c.args.phase h.seat.number) (view_of g.D.Disk.state g.D.Disk.faults h.asked h.told.items h.seat) v) (sym new.1)
    (subst (λ (v : View). WorkerLeaves (worker c.args.phase h.seat.number) v (view_of g.D.Disk.state g.D.Disk.faults None [] s)) (sym old.1) e.leaves))
