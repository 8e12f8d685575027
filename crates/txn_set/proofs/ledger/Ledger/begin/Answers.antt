use Rattle.std.proofs.Common.{◌≡◌, ◌∙◌, List, None, length, refl, ap}
use Rattle.history.specs.declared.journal.Line.{Line}
use Rattle.journal_book.specs.Works.{edits_of, work_at}
use Rattle.txn_set.specs.declared.ledger.Ledger.{Ledger}
use Rattle.txn_set.specs.WorksFit.{WorksFit}
use Rattle.txn_set.proofs.LedgerSteps.{idle_left}
use Rattle.txn_set.proofs.FitSteps.{by_result, fits_begun, idle_none}
use Rattle.txn_set.proofs.ledger.Ledger.begin.Goals as goal

pub open_work-requires-clause-idle : goal.open_work-requires-clause-idle
open_work-requires-clause-idle c = ap (λ (l : Ledger). edits_of (work_at l.works.slots c.args.who.session)) c.give_up_other.ensures.done ∙ idle_left c.args.who c.args.self.now c.requires.idle

pub returns-clause-fits : goal.returns-clause-fits
returns-clause-fits c =
    let none : work_at c.give_up_other.new.self.works.slots c.args.who.session ≡ None = ap (λ (l : Ledger). work_at l.works.slots c.args.who.session) c.give_up_other.ensures.done ∙ idle_none c.args.self.now c.args.who c.requires.idle in
    by_result c.open_work.result WorksFit c.open_work.new.self _ c.give_up_other.new.self c.open_work.ensures.done c.open_work.ensures.stays
    (fits_begun c.give_up_other.new.self c.args.who (record { who = c.args.who; began = length c.lines.result.now; edits = c.new-2.result; reads = c.new-3.result; kept = None }) c.give_up_other.ensures.fits none refl
    (ap (λ (l : List Line). length l) c.lines.ensures) (c.new-2.ensures ∙ c.new.ensures.items) c.new-3.ensures.empty refl)
    c.give_up_other.ensures.fits
