use Rattle.std.proofs.Common.{◌≡◌, ◌≤◌, ℕ, Option, Some, refl, sym, subst}
use Rattle.std.specs.Prelude.{IsSome}
use Rattle.gate_log.specs.Cause.{IsDiskFault}
use Rattle.history.specs.declared.entry.Change.TheVariants.{Commit}
use Rattle.history.specs.declared.journal.FailedCall.TheVariants.{Append}
use Rattle.journal_book.specs.declared.work.Work.TheVariants.{Open}
use Rattle.journal_book.specs.Works.{work_at}
use Rattle.page_pool.specs.Side.{held}
use Rattle.txn_set.specs.declared.ledger.Ledger.{Ledger}
use Rattle.txn_set.proofs.LedgerSteps.{some_kept}
use Rattle.store_core.specs.Calls.{has_released}
use Rattle.store_core.proofs.Faulted.{failed_same, no_fault, none_released, still_held}
use Rattle.store_core.proofs.desk_core.Core.record_commit.Goals as goal

pub fail-requires : goal.fail-requires
fail-requires g c =
    let open_now = c.requires.is_open in
    record {
      kept = subst (λ (l : Ledger). 1 ≤ l.book.kept) (sym c.take-edits.ensures.ledger)
          (subst (λ (n : ℕ). 1 ≤ n) (sym c.requires.works.kept) (some_kept c.args.self.now.ledger.works.slots c.args.who.session (subst IsSome (sym open_now.open_there) refl)));
    }

pub returns-in-DiskFault-clause-works : goal.returns-in-DiskFault-clause-works
returns-in-DiskFault-clause-works g c =
    let open_now = c.requires.is_open in
    c.fail.ensures.fits c.args.self.now.ledger open_now.transaction c.requires.works open_now.open_there open_now.is_of c.take-edits.ensures.ledger

pub returns-in_default : goal.returns-in_default
returns-in_default g c =
    let none : IsDiskFault c.args.why → ⊥ = no_fault c.args.why c.in_default.not-DiskFault in
    record {
      rest = refl;
      file = refl;
      works = c.requires.works;
      ledger = λ t there. sym (failed_same (Append (Commit c.args.label t.edits)) c.args.who c.args.why c.args.self.now.ledger none);
      untouched = λ other. refl;
      held = λ page. still_held (held c.args.self.now.desk.pool page) (has_released c.args.who c.args.why page c.args.self.now.ledger) (none_released c.args.who c.args.why page c.args.self.now.ledger none);
      desk = λ plain is. is;
    }
