use Rattle.std.proofs.Common.{refl, subst, sym}
use Rattle.journal_book.specs.declared.work.Work.TheVariants.{Looking}
use Rattle.turn.specs.Seats.{mine, seen}
use Rattle.turn.specs.Tables.{table_of}
use Rattle.store.specs.Calls.{UnlookDoes}
use Rattle.store.specs.Seats.{EndingIsTold, Visits}
use Rattle.store.proofs.Coming.{own_session, some_looking}
use Rattle.store.proofs.Gives.{may_end, still_seated, unlooks}
use Rattle.store.proofs.Recalled.{sized_on}
use Rattle.store.proofs.held.HeldSeat.unlook.Goals as goal

pub unlook-requires-clause-own : goal.unlook-requires-clause-own
unlook-requires-clause-own g c = let h = c.args.self.now in let o = some_looking h.asked (seen h.seat) (mine h.seat).work c.requires.looking_now in own_session _ h.seat h.who h.asked h.told.items h.ready h.seated (Looking o.0) o.1

pub unlook-requires-clause-is_looking : goal.unlook-requires-clause-is_looking
unlook-requires-clause-is_looking g c = let h = c.args.self.now in let o = some_looking h.asked (seen h.seat) (mine h.seat).work c.requires.looking_now in record { look = o.0; open_there = o.1; is_of = h.seated.item (Looking o.0) o.1 }

pub unlook-requires-clause-told : goal.unlook-requires-clause-told
unlook-requires-clause-told g c = let h = c.args.self.now in subst (λ why. EndingIsTold why (mine h.seat).faults) (sym c.ending_of.ensures) (may_end g.D.Disk.state g.D.Disk.faults h.who h.asked h.told.items h.seat h.seated c.args.why c.requires.may_end)

pub invariant_of-self : goal.invariant_of-self
invariant_of-self g c = let h = c.args.self.now in let o = some_looking h.asked (seen h.seat) (mine h.seat).work c.requires.looking_now in
    record {
      ready = c.unlook.ensures.ready.0;
      whole = c.unlook.ensures.ready.1;
      seated = still_seated g.D.Disk.is_honest g.D.Disk.state g.D.Disk.faults _ h.seat c.unlook.new.seat h.ready h.who (own_session _ h.seat h.who h.asked h.told.items h.ready h.seated (Looking o.0) o.1) h.asked h.told.items c.clear.new.self.items c.clear.ensures.items h.seated c.args.why c.unlook.ensures.ended;
      sized = sized_on h.store.now.pages h.seat c.unlook.new.seat c.unlook.ensures.same.opening h.sized;
      tabled = tt;
    }

pub returns : goal.returns
returns g c = let h = c.args.self.now in let o = some_looking h.asked (seen h.seat) (mine h.seat).work c.requires.looking_now in
    record { gives = unlooks g.D.Disk.is_honest g.D.Disk.state g.D.Disk.faults _ h.seat c.unlook.new.seat h.ready h.who (own_session _ h.seat h.who h.asked h.told.items h.ready h.seated (Looking o.0) o.1) h.asked h.told.items c.clear.new.self.items c.clear.ensures.items h.seated c.args.why (subst (λ why. Visits g.D.Disk.is_honest g.D.Disk.state g.D.Disk.faults (table_of h.store.now.turn) (UnlookDoes g.D.Disk.is_honest g.D.Disk.state h.who why) h.seat c.unlook.new.seat) c.ending_of.ensures c.unlook.ensures.visits); goes = record { store = refl; same = c.unlook.ensures.same } }
