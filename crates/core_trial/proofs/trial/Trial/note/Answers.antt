use Rattle.std.proofs.Common.{refl, subst}
use Rattle.history.specs.Lines.{is_write}
use Rattle.history.specs.declared.journal.What.TheVariants.{Fault}
use Rattle.journal_book.specs.Works.{work_at}
use Rattle.txn_set.specs.declared.ledger.Ledger.{Ledger}
use Rattle.txn_set.specs.WorksFit.{Closes}
use Rattle.core_trial.proofs.Wholes.{note_whole}
use Rattle.core_trial.proofs.trial.Trial.note.Goals as goal

pub note-requires-clause-closes : goal.note-requires-clause-closes
note-requires-clause-closes g c =
    subst (λ (l : Ledger). Closes c.args.who (Fault c.args.device c.args.count c.call_of.result) (work_at l.works.slots c.args.who.session)) c.ledger.ensures
    (c.if-not-may_fault.ensures.closes refl c.args.device c.args.count c.call_of.result)

pub invariant_of-self : goal.invariant_of-self
invariant_of-self g c =
    let whole = c.self.invariant in
    note_whole g.D.Disk.is_honest g.D.Disk.state c.self.inside.core c.note.new.self whole (is_write c.call_of.result) (c.note.ensures.stops whole.opening whole.plain whole.is) c.note.ensures.quiet
