use Rattle.std.proofs.Common.{◌∙◌, sym, subst}
use Rattle.history.specs.declared.entry.Change.TheVariants.{Drop}
use Rattle.history.specs.declared.journal.FailedCall.TheVariants.{Append}
use Rattle.txn_set.specs.declared.ledger.Ledger.{Ledger}
use Rattle.store_core.specs.declared.desk_core.Core.{Core}
use Rattle.store_core.specs.Core.{IsCore}
use Rattle.store_core.proofs.Committed.{core_pair}
use Rattle.store_core.proofs.Faulted.{failed_same}
use Rattle.store_core.proofs.Kept.{core_gives_up}
use Rattle.store_core.proofs.desk_core.Core.end_drop.Goals as goal

pub returns-in-OutOfMemory-clause-stays : goal.returns-in-OutOfMemory-clause-stays
returns-in-OutOfMemory-clause-stays g c = λ other opening plain is.
    subst (λ (l : Ledger). IsCore g.D.Disk.is_honest g.D.Disk.state opening (record { desk = c.args.self.now.desk; ledger = l }) plain) (sym c.give_up.ensures.done)
    (core_gives_up g.D.Disk.is_honest g.D.Disk.state opening c.args.self.now plain is c.args.who c.requires.kept)

pub returns-in_default : goal.returns-in_default
returns-in_default g c = record {
  rest = c.record.ensures.rest;
  file = c.record.ensures.file;
  works = c.record.ensures.works;
  ledger = record { memory = λ e. absurd (c.in_default.not-OutOfMemory e); other = λ not. c.record.ensures.ledger };
  untouched = c.record.ensures.untouched;
  held = λ fault. c.record.ensures.held;
  desk = c.record.ensures.desk;
  stays = λ other opening plain is.
      subst (λ (x : Core g.row.D.Denot). IsCore g.D.Disk.is_honest g.D.Disk.state opening x plain)
      (sym (core_pair c.record.new.self c.args.self.now (c.record.ensures.untouched other) (c.record.ensures.ledger ∙ failed_same (Append (Drop c.args.below)) c.args.who c.args.why c.args.self.now.ledger other))) is;
}
