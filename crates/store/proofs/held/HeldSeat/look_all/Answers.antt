use Rattle.std.proofs.Common.{None, ap, refl}
use Rattle.history.specs.declared.journal.What.TheVariants.{LookedAll}
use Rattle.store.specs.Kept.{looks}
use Rattle.store.proofs.Coming.{idle_is}
use Rattle.store.proofs.Gives.{all_gives, all_keeps, same_given}
use Rattle.store.proofs.Needs.{opened_tells}
use Rattle.store.proofs.Recalled.{no_table, sized_on}
use Rattle.store.proofs.held.HeldSeat.look_all.Goals as goal

pub invariant_of-self : goal.invariant_of-self
invariant_of-self g c =
    let h = c.args.self.now in
    let v = c.look_all.ensures.visits in
    let none = idle_is h.who h.asked h.told.items h.seat h.seated c.requires.idle in
    record { ready = c.look_all.ensures.ready.0; whole = c.look_all.ensures.ready.1; seated = all_keeps g.D.Disk.is_honest g.D.Disk.state g.D.Disk.faults _ h.seat c.look_all.new.seat v.before v.after h.ready v.visited c.args.who h.asked h.told.items c.requires.own none (h.seated.quiet none) c.look_all.result v.does; sized = sized_on h.store.now.pages h.seat c.look_all.new.seat c.look_all.ensures.same.opening h.sized; tabled = no_table h.seat c.look_all.new.seat h.kept (ap looks none) h.tabled }

pub returns : goal.returns
returns g c =
    let h = c.args.self.now in
    let v = c.look_all.ensures.visits in
    let none = idle_is h.who h.asked h.told.items h.seat h.seated c.requires.idle in
    record { gives = all_gives g.D.Disk.is_honest g.D.Disk.state g.D.Disk.faults _ h.seat c.look_all.new.seat v.before v.after h.ready v.visited c.args.who h.asked h.told.items c.requires.own none (h.seated.quiet none) c.look_all.result v.does; need = opened_tells g.D.Disk.is_honest g.D.Disk.state g.D.Disk.faults _ h.seat c.look_all.new.seat v.before v.after v.visited c.args.who None h.told.items (same_given g.D.Disk.is_honest g.D.Disk.state g.D.Disk.faults _ h.seat c.look_all.new.seat v.before v.after h.ready v.visited c.args.who h.asked h.told.items c.requires.own none) LookedAll _ c.look_all.result v.does.looked; goes = record { store = refl; same = c.look_all.ensures.same } }
