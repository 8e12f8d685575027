use Rattle.std.proofs.Common.{ap, option_copied, refl, subst}
use Rattle.journal_book.specs.declared.work.Work.TheVariants.{Open}
use Rattle.journal_law.specs.Seats.{CommitGives}
use Rattle.turn.specs.Seats.{mine, seen}
use Rattle.store.specs.Seen.{view_of}
use Rattle.store.specs.Kept.{looks}
use Rattle.store.proofs.Coming.{open_is, own_session, some_open}
use Rattle.store.proofs.CommitGiven.{commit_answers}
use Rattle.store.proofs.Recalled.{no_table, sized_on}
use Rattle.store.proofs.held.HeldSeat.commit.Goals as goal

pub commit-requires-clause-own : goal.commit-requires-clause-own
commit-requires-clause-own g c = let h = c.args.self.now in let o = some_open h.asked (seen h.seat) (mine h.seat).work c.requires.open_now in (own_session _ h.seat h.who h.asked h.told.items h.ready h.seated (Open o.0) o.1)

pub commit-requires-clause-is_open : goal.commit-requires-clause-is_open
commit-requires-clause-is_open g c = let h = c.args.self.now in let o = some_open h.asked (seen h.seat) (mine h.seat).work c.requires.open_now in record { transaction = o.0; open_there = o.1; is_of = h.seated.item (Open o.0) o.1 }

pub invariant_of-self : goal.invariant_of-self
invariant_of-self g c = let h = c.args.self.now in let o = some_open h.asked (seen h.seat) (mine h.seat).work c.requires.open_now in
    record { ready = c.commit.ensures.ready.0; whole = c.commit.ensures.ready.1; seated = (commit_answers g.D.Disk.is_honest g.D.Disk.state g.D.Disk.faults g.D.Disk.remembers g.D.Disk.clock _ h.seat c.commit.new.seat h.ready h.who h.asked h.told.items h.told.items (own_session _ h.seat h.who h.asked h.told.items h.ready h.seated (Open o.0) o.1) o.0 o.1 (h.seated.item (Open o.0) o.1) (h.seated.begun o.0 o.1) (h.seated.silent o.0 o.1) refl _ c.commit.result (c.commit.ensures.answers o.0 o.1)).1; sized = sized_on h.store.now.pages h.seat c.commit.new.seat c.commit.ensures.same.opening h.sized; tabled = no_table h.seat c.commit.new.seat h.kept (ap looks o.1) h.tabled }

pub returns : goal.returns
returns g c = record {
  gives = λ a e. let h = c.args.self.now in
      let is = open_is h.asked (seen h.seat) (mine h.seat).work a e in
      subst (λ x. CommitGives (option_copied c.args.label) (view_of g.D.Disk.state g.D.Disk.faults h.asked h.told.items h.seat) (view_of g.D.Disk.state g.D.Disk.faults h.asked h.told.items c.commit.new.seat) x c.commit.result) is.2
      (commit_answers g.D.Disk.is_honest g.D.Disk.state g.D.Disk.faults g.D.Disk.remembers g.D.Disk.clock _ h.seat c.commit.new.seat h.ready h.who h.asked h.told.items h.told.items (own_session _ h.seat h.who h.asked h.told.items h.ready h.seated (Open is.0) is.1) is.0 is.1 (h.seated.item (Open is.0) is.1) (h.seated.begun is.0 is.1) (h.seated.silent is.0 is.1) refl _ c.commit.result (c.commit.ensures.answers is.0 is.1)).0;
  goes = record { store = refl; same = c.commit.ensures.same };
}
