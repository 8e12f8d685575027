use Rattle.std.specs.Prelude.{◌≡◌, Some, option_copied}
use Rattle.journal_book.specs.declared.work.Transaction.{Transaction}
use Rattle.journal_book.specs.declared.work.Work.TheVariants.{Open}
use Rattle.turn.specs.Seats.{mine}
use Rattle.turn.specs.Tables.{table_of}
use Rattle.store.specs.Calls.{CommitDoes}
use Rattle.store.specs.Rounds.{Passes}
use Rattle.store.proofs.Rooming.{LeadsOn}
use Rattle.store.proofs.shared.Store.commit.Given as goal

abbrev pub invariant-ask : goal.invariant-ask
invariant-ask g l = record {
  passes : Passes (table_of l.self.turn) l.fn.seat l.seat;
  leads : (t : Transaction) → (mine l.fn.seat).work ≡ Some (Open t) → LeadsOn g.D.Disk.is_honest g.D.Disk.state g.D.Disk.faults (table_of l.self.turn) g.D.Disk.remembers g.D.Disk.clock l.who
      (CommitDoes g.D.Disk.is_honest g.D.Disk.state g.D.Disk.faults g.D.Disk.remembers g.D.Disk.clock l.who (option_copied l.mark) t) l.fn.seat l.seat;
}
