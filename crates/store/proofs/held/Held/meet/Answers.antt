use Rattle.std.proofs.Common.{subst, sym}
use Rattle.store.specs.Seats.{IsReady}
use Rattle.store.proofs.Recalled.{keeps_seated, sized_on, waits_seen}
use Rattle.store.proofs.held.Held.meet.Goals as goal

pub invariant_of-self : goal.invariant_of-self
invariant_of-self g c =
    let h = c.args.self.now in
    let e = c.meet.ensures in
    record {
      ready = e.ready.0;
      whole = e.whole.0 h.whole;
      sized = sized_on h.store.now.pages h.seat c.meet.new.one e.same.0.same.opening h.sized;
      tabled = tt;
      seated = keeps_seated g.D.Disk.state g.D.Disk.faults _ h.seat c.meet.new.one h.ready e.same.0 e.waits.0 h.who h.asked h.told.items h.seated;
    }

pub invariant_of-other : goal.invariant_of-other
invariant_of-other g c =
    let k = c.args.other.now in
    let e = c.meet.ensures in
    record {
      ready = subst (λ z. IsReady z c.meet.new.other) (sym c.requires.store) e.ready.1;
      whole = e.whole.1 k.whole;
      sized = sized_on k.store.now.pages k.seat c.meet.new.other e.same.1.same.opening k.sized;
      tabled = tt;
      seated = keeps_seated g.D.Disk.state g.D.Disk.faults _ k.seat c.meet.new.other k.ready e.same.1 e.waits.1 k.who k.asked k.told.items k.seated;
    }

pub returns-clause-waits : goal.returns-clause-waits
returns-clause-waits g c =
    let h = c.args.self.now in
    waits_seen g.D.Disk.state g.D.Disk.faults _ h.seat c.meet.new.one h.ready c.meet.ensures.same.0 c.meet.ensures.waits.0 h.who h.asked h.told.items

pub returns-clause-others : goal.returns-clause-others
returns-clause-others g c =
    let k = c.args.other.now in
    waits_seen g.D.Disk.state g.D.Disk.faults _ k.seat c.meet.new.other k.ready c.meet.ensures.same.1 c.meet.ensures.waits.1 k.who k.asked k.told.items
