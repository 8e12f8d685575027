use Rattle.std.proofs.Common.{ap, refl, subst}
use Rattle.journal_book.specs.declared.work.Work.TheVariants.{Open}
use Rattle.journal_law.specs.Seats.{EditGives}
use Rattle.turn.specs.Seats.{mine, opening, seen}
use Rattle.store.specs.Seen.{view_of}
use Rattle.store.specs.Kept.{looks}
use Rattle.store.proofs.Coming.{open_is, own_session, some_open}
use Rattle.store.proofs.ReadGiven.{page_in, edit_gives, edit_keeps}
use Rattle.store.proofs.Recalled.{no_table, sized_on}
use Rattle.store.proofs.held.HeldSeat.edit.Goals as goal

pub edit-requires-clause-own : goal.edit-requires-clause-own
edit-requires-clause-own g c = let h = c.args.self.now in let o = some_open h.asked (seen h.seat) (mine h.seat).work c.requires.open_now in (own_session _ h.seat h.who h.asked h.told.items h.ready h.seated (Open o.0) o.1)

pub edit-requires-clause-is_open : goal.edit-requires-clause-is_open
edit-requires-clause-is_open g c = let h = c.args.self.now in let o = some_open h.asked (seen h.seat) (mine h.seat).work c.requires.open_now in record { transaction = o.0; open_there = o.1; is_of = h.seated.item (Open o.0) o.1 }

pub edit-requires-clause-inside : goal.edit-requires-clause-inside
edit-requires-clause-inside g c = page_in g.D.Disk.state g.D.Disk.faults c.args.page (opening c.args.self.now.seat) c.requires.in_store

pub invariant_of-self : goal.invariant_of-self
invariant_of-self g c = let h = c.args.self.now in let o = some_open h.asked (seen h.seat) (mine h.seat).work c.requires.open_now in
    let v = c.edit.ensures.visits o.0 o.1 in
    record {
      ready = c.edit.ensures.ready.0;
      whole = c.edit.ensures.ready.1;
      seated = edit_keeps g.D.Disk.is_honest g.D.Disk.state g.D.Disk.faults _ h.seat c.edit.new.seat v.before v.after h.ready v.visited h.who h.asked h.told.items (own_session _ h.seat h.who h.asked h.told.items h.ready h.seated (Open o.0) o.1) o.0 o.1 (h.seated.item (Open o.0) o.1) (h.seated.begun o.0 o.1) c.args.page c.args.bytes.now c.edit.result v.does c.edit.result refl h.seated;
      sized = sized_on h.store.now.pages h.seat c.edit.new.seat c.edit.ensures.same.opening h.sized;
      tabled = no_table h.seat c.edit.new.seat h.kept (ap looks o.1) h.tabled;
    }

pub returns : goal.returns
returns g c = record {
  gives = λ a e. let h = c.args.self.now in let o = some_open h.asked (seen h.seat) (mine h.seat).work c.requires.open_now in
      let is = open_is h.asked (seen h.seat) (mine h.seat).work a e in
      let v = c.edit.ensures.visits is.0 is.1 in
      subst (λ x. EditGives c.args.page c.args.bytes.now (view_of g.D.Disk.state g.D.Disk.faults h.asked h.told.items h.seat) (view_of g.D.Disk.state g.D.Disk.faults h.asked h.told.items c.edit.new.seat) x c.edit.result) is.2
      (edit_gives g.D.Disk.is_honest g.D.Disk.state g.D.Disk.faults _ h.seat c.edit.new.seat v.before v.after h.ready v.visited h.who h.asked h.told.items (own_session _ h.seat h.who h.asked h.told.items h.ready h.seated (Open is.0) is.1) is.0 is.1 (h.seated.item (Open is.0) is.1) (h.seated.begun is.0 is.1) c.args.page c.args.bytes.now c.edit.result v.does c.edit.result refl);
  goes = record { store = refl; same = c.edit.ensures.same };
}
