use Rattle.std.proofs.Common.{ap, refl}
use Rattle.history.specs.declared.journal.What.TheVariants.{Began}
use Rattle.txn_set.specs.Ledger.{fresh}
use Rattle.store.specs.Kept.{looks}
use Rattle.store.specs.Seats.{journal}
use Rattle.store.proofs.Coming.{idle_is}
use Rattle.store.proofs.Gives.{begin_gives, begin_keeps, same_given}
use Rattle.store.proofs.Needs.{opened_tells}
use Rattle.store.proofs.Recalled.{no_table, sized_on}
use Rattle.store.proofs.held.HeldSeat.begin.Goals as goal

pub invariant_of-self : goal.invariant_of-self
invariant_of-self g c =
    let h = c.args.self.now in
    let v = c.begin.ensures.visits in
    let none = idle_is h.who h.asked h.told.items h.seat h.seated c.requires.idle in
    record { ready = c.begin.ensures.ready.0; whole = c.begin.ensures.ready.1; seated = begin_keeps g.D.Disk.is_honest g.D.Disk.state g.D.Disk.faults _ h.seat c.begin.new.seat v.before v.after h.ready v.visited c.args.who h.asked h.told.items c.requires.own none (h.seated.quiet none) c.begin.result v.does; sized = sized_on h.store.now.pages h.seat c.begin.new.seat c.begin.ensures.same.opening h.sized; tabled = no_table h.seat c.begin.new.seat h.kept (ap looks none) h.tabled }

pub returns : goal.returns
returns g c =
    let h = c.args.self.now in
    let v = c.begin.ensures.visits in
    let none = idle_is h.who h.asked h.told.items h.seat h.seated c.requires.idle in
    record { gives = begin_gives g.D.Disk.is_honest g.D.Disk.state g.D.Disk.faults _ h.seat c.begin.new.seat v.before v.after h.ready v.visited c.args.who h.asked h.told.items c.requires.own none (h.seated.quiet none) c.begin.result v.does; need = opened_tells g.D.Disk.is_honest g.D.Disk.state g.D.Disk.faults _ h.seat c.begin.new.seat v.before v.after v.visited c.args.who h.asked h.told.items (same_given g.D.Disk.is_honest g.D.Disk.state g.D.Disk.faults _ h.seat c.begin.new.seat v.before v.after h.ready v.visited c.args.who h.asked h.told.items c.requires.own none) Began (fresh c.args.who (journal v.before)) c.begin.result v.does.begun; goes = record { store = refl; same = c.begin.ensures.same } }
