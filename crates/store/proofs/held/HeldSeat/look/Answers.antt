use Rattle.std.proofs.Common.{Some, ap, refl}
use Rattle.store.specs.Kept.{looks}
use Rattle.store.proofs.Coming.{idle_is}
use Rattle.store.proofs.Gives.{look_err, look_keeps, look_ok, same_given}
use Rattle.store.proofs.Needs.{looked_tells}
use Rattle.store.proofs.Recalled.{no_table, sized_on}
use Rattle.store.proofs.held.HeldSeat.look.Goals as goal

pub invariant_of-self : goal.invariant_of-self
invariant_of-self g c =
    let h = c.args.self.now in
    let v = c.look.ensures.visits in
    let none = idle_is h.who h.asked h.told.items h.seat h.seated c.requires.idle in
    record { ready = c.look.ensures.ready.0; whole = c.look.ensures.ready.1; seated = look_keeps g.D.Disk.is_honest g.D.Disk.state g.D.Disk.faults _ h.seat c.look.new.seat v.before v.after h.ready v.visited c.args.who h.asked h.told.items c.requires.own none c.args.snapshot (h.seated.quiet none) c.look.result v.does; sized = sized_on h.store.now.pages h.seat c.look.new.seat c.look.ensures.same.opening h.sized; tabled = no_table h.seat c.look.new.seat h.kept (ap looks none) h.tabled }

pub returns-in-Ok : goal.returns-in-Ok
returns-in-Ok g c =
    let h = c.args.self.now in
    let v = c.in-Ok.ensures.visits in
    let none = idle_is h.who h.asked h.told.items h.seat h.seated c.requires.idle in
    record { gives = look_ok g.D.Disk.is_honest g.D.Disk.state g.D.Disk.faults _ h.seat c.look.new.seat v.before v.after h.ready v.visited c.args.who h.asked h.told.items c.requires.own none c.args.snapshot c.in-Ok.field-0 (h.seated.quiet none) v.does; need = tt; goes = record { store = refl; same = c.look.ensures.same } }

pub returns-in-Err : goal.returns-in-Err
returns-in-Err g c =
    let h = c.args.self.now in
    let v = c.in-Err.ensures.visits in
    let none = idle_is h.who h.asked h.told.items h.seat h.seated c.requires.idle in
    record { gives = look_err g.D.Disk.is_honest g.D.Disk.state g.D.Disk.faults _ h.seat c.look.new.seat v.before v.after h.ready v.visited c.args.who h.asked h.told.items c.requires.own none c.args.snapshot c.in-Err.why (h.seated.quiet none) v.does; need = looked_tells g.D.Disk.is_honest g.D.Disk.state g.D.Disk.faults _ h.seat c.look.new.seat v.before v.after v.visited c.args.who (Some c.args.snapshot) h.told.items (same_given g.D.Disk.is_honest g.D.Disk.state g.D.Disk.faults _ h.seat c.look.new.seat v.before v.after h.ready v.visited c.args.who h.asked h.told.items c.requires.own none) c.args.snapshot _ _ c.in-Err.why v.does.looked; goes = record { store = refl; same = c.look.ensures.same } }
