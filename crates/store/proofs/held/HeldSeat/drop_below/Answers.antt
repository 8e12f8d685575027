use Rattle.std.proofs.Common.{ap, refl, sym, subst}
use Rattle.txn_set.specs.Ledger.{is_closed}
use Rattle.store.specs.Seen.{IsSeated}
use Rattle.store.specs.Kept.{looks}
use Rattle.store.proofs.Coming.{idle_is, seated_none}
use Rattle.store.proofs.DropGiven.{drop_gives, drop_tells}
use Rattle.store.proofs.Recalled.{no_table, sized_on}
use Rattle.store.proofs.held.HeldSeat.drop_below.Goals as goal

pub drop_below-requires-clause-is_closed : goal.drop_below-requires-clause-is_closed
drop_below-requires-clause-is_closed g c =
    let h = c.args.self.now in
    ap is_closed (idle_is h.who h.asked h.told.items h.seat h.seated c.requires.idle)

pub invariant_of-self : goal.invariant_of-self
invariant_of-self g c =
    let h = c.args.self.now in
    let none = idle_is h.who h.asked h.told.items h.seat h.seated c.requires.idle in
    record { ready = c.drop_below.ensures.ready.0; whole = c.drop_below.ensures.ready.1; seated = subst (λ ts. IsSeated c.args.who h.asked ts c.drop_below.new.seat) (sym (h.seated.quiet none)) (seated_none c.args.who h.asked c.drop_below.new.seat c.drop_below.ensures.none); sized = sized_on h.store.now.pages h.seat c.drop_below.new.seat c.drop_below.ensures.same.opening h.sized; tabled = no_table h.seat c.drop_below.new.seat h.kept (ap looks none) h.tabled }

pub returns : goal.returns
returns g c =
    let h = c.args.self.now in
    let none = idle_is h.who h.asked h.told.items h.seat h.seated c.requires.idle in
    record { gives = drop_gives g.D.Disk.is_honest g.D.Disk.state g.D.Disk.faults _ g.D.Disk.remembers g.D.Disk.clock c.args.who c.args.below h.seat c.drop_below.new.seat h.asked h.told.items (h.seated.quiet none) none c.drop_below.ensures.none h.ready c.requires.own c.drop_below.result c.drop_below.ensures.answers; need = drop_tells g.D.Disk.is_honest g.D.Disk.state g.D.Disk.faults _ g.D.Disk.remembers g.D.Disk.clock c.args.who c.args.below h.seat c.drop_below.new.seat h.asked h.told.items (h.seated.quiet none) none c.drop_below.ensures.none h.ready c.requires.own c.drop_below.result c.drop_below.ensures.answers; goes = record { store = refl; same = c.drop_below.ensures.same } }
