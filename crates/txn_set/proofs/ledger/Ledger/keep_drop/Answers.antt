use Rattle.std.proofs.Common.{◌≡◌, ◌∙◌, Some, None, sym, ap}
use Rattle.journal_book.specs.declared.work.Work.TheVariants.{KeptDrop}
use Rattle.journal_book.specs.Book.{keeping}
use Rattle.journal_book.specs.Works.{edits_of, work_at, working}
use Rattle.txn_set.specs.declared.ledger.Ledger.{Ledger}
use Rattle.txn_set.proofs.LedgerSteps.{idle_left, is_idle_so}
use Rattle.txn_set.proofs.FitSteps.{fits_keeping_drop, idle_none, ok_done, parts_fit}
use Rattle.txn_set.proofs.ledger.Ledger.keep_drop.Goals as goal

pub put-requires-clause-idle : goal.put-requires-clause-idle
put-requires-clause-idle c =
    ap (λ (l : Ledger). edits_of (work_at l.works.slots c.args.who.session)) c.give_up_other.ensures.done
    ∙ idle_left c.args.who c.args.self.now (is_idle_so c.args.who c.args.self.now c.requires.is_closed (sym c.keeps_drop.ensures ∙ c.if-keeps_drop.false))

pub returns-clause-fits : goal.returns-clause-fits
returns-clause-fits c =
    let idle = is_idle_so c.args.who c.args.self.now c.requires.is_closed (sym c.keeps_drop.ensures ∙ c.if-keeps_drop.false) in
    let none : work_at c.give_up_other.new.self.works.slots c.args.who.session ≡ None = ap (λ (l : Ledger). work_at l.works.slots c.args.who.session) c.give_up_other.ensures.done ∙ idle_none c.args.self.now c.args.who idle in
    parts_fit c.keep_lines.new.self (keeping c.give_up_other.new.self.book 1) c.put.new.self (working c.give_up_other.new.self.works c.args.who.session (Some (KeptDrop c.args.who))) c.in_ok-keep_lines.ensures.done
    (ok_done c.put.result (sym c.is_err.ensures.value ∙ c.if-is_err.false) c.put.ensures.done) (fits_keeping_drop c.give_up_other.new.self c.args.who c.give_up_other.ensures.fits none)
