use Rattle.std.proofs.Common.{ap, refl, subst, sym}
use Rattle.journal_book.specs.declared.work.Work.TheVariants.{Open}
use Rattle.turn.specs.Seats.{mine, seen}
use Rattle.turn.specs.Tables.{table_of}
use Rattle.store.specs.Calls.{RollbackDoes}
use Rattle.store.specs.Seats.{EndingIsTold, Visits}
use Rattle.store.specs.Kept.{looks}
use Rattle.store.proofs.Coming.{own_session, some_open}
use Rattle.store.proofs.Gives.{may_end, rolls_back, still_seated}
use Rattle.store.proofs.Recalled.{no_table, sized_on}
use Rattle.store.proofs.held.HeldSeat.rollback.Goals as goal

pub rollback-requires-clause-own : goal.rollback-requires-clause-own
rollback-requires-clause-own g c = let h = c.args.self.now in let o = some_open h.asked (seen h.seat) (mine h.seat).work c.requires.open_now in own_session _ h.seat h.who h.asked h.told.items h.ready h.seated (Open o.0) o.1

pub rollback-requires-clause-is_open : goal.rollback-requires-clause-is_open
rollback-requires-clause-is_open g c = let h = c.args.self.now in let o = some_open h.asked (seen h.seat) (mine h.seat).work c.requires.open_now in record { transaction = o.0; open_there = o.1; is_of = h.seated.item (Open o.0) o.1 }

pub rollback-requires-clause-told : goal.rollback-requires-clause-told
rollback-requires-clause-told g c = let h = c.args.self.now in subst (λ why. EndingIsTold why (mine h.seat).faults) (sym c.ending_of.ensures) (may_end g.D.Disk.state g.D.Disk.faults h.who h.asked h.told.items h.seat h.seated c.args.why c.requires.may_end)

pub invariant_of-self : goal.invariant_of-self
invariant_of-self g c = let h = c.args.self.now in let o = some_open h.asked (seen h.seat) (mine h.seat).work c.requires.open_now in
    record {
      ready = c.rollback.ensures.ready.0;
      whole = c.rollback.ensures.ready.1;
      seated = still_seated g.D.Disk.is_honest g.D.Disk.state g.D.Disk.faults _ h.seat c.rollback.new.seat h.ready h.who (own_session _ h.seat h.who h.asked h.told.items h.ready h.seated (Open o.0) o.1) h.asked h.told.items c.clear.new.self.items c.clear.ensures.items h.seated c.args.why c.rollback.ensures.ended;
      sized = sized_on h.store.now.pages h.seat c.rollback.new.seat c.rollback.ensures.same.opening h.sized;
      tabled = no_table h.seat c.rollback.new.seat h.kept (ap looks o.1) h.tabled;
    }

pub returns : goal.returns
returns g c = let h = c.args.self.now in let o = some_open h.asked (seen h.seat) (mine h.seat).work c.requires.open_now in
    record { gives = rolls_back g.D.Disk.is_honest g.D.Disk.state g.D.Disk.faults _ h.seat c.rollback.new.seat h.ready h.who (own_session _ h.seat h.who h.asked h.told.items h.ready h.seated (Open o.0) o.1) h.asked h.told.items c.clear.new.self.items c.clear.ensures.items h.seated c.args.why (λ t there. subst (λ why. Visits g.D.Disk.is_honest g.D.Disk.state g.D.Disk.faults (table_of h.store.now.turn) (RollbackDoes g.D.Disk.is_honest g.D.Disk.state h.who why t) h.seat c.rollback.new.seat) c.ending_of.ensures (c.rollback.ensures.visits t there)); goes = record { store = refl; same = c.rollback.ensures.same } }
