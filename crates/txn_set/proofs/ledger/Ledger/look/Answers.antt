use Rattle.std.proofs.Common.{◌≡◌, ◌∙◌, ◌∷◌, [], List, None, length, refl, sym, ap, subst}
use Rattle.history.specs.declared.journal.Line.{Line}
use Rattle.history.specs.Writes.{rises}
use Rattle.history.specs.declared.journal.What.TheVariants as whats
use Rattle.journal_book.specs.Works.{edits_of, work_at}
use Rattle.txn_set.specs.declared.ledger.Ledger.{Ledger}
use Rattle.txn_set.specs.Ledger.{with_told_line}
use Rattle.txn_set.specs.WorksFit.{WorksFit}
use Rattle.txn_set.proofs.LedgerSteps.{idle_left}
use Rattle.txn_set.proofs.FitSteps.{by_result, fits_lone, fits_looked, idle_none, rises_one}
use Rattle.txn_set.proofs.ledger.Ledger.look.Goals as goal

pub open_work-requires-clause-idle : goal.open_work-requires-clause-idle
open_work-requires-clause-idle c = ap (λ (l : Ledger). edits_of (work_at l.works.slots c.args.who.session)) c.give_up_other.ensures.done ∙ idle_left c.args.who c.args.self.now c.requires.idle

pub returns-in-Some-look_refused-clause-fits : goal.returns-in-Some-look_refused-clause-fits
returns-in-Some-look_refused-clause-fits c =
    let none : work_at c.give_up_other.new.self.works.slots c.args.who.session ≡ None = ap (λ (l : Ledger). work_at l.works.slots c.args.who.session) c.give_up_other.ensures.done ∙ idle_none c.args.self.now c.args.who c.requires.idle in
    let lone : WorksFit (with_told_line c.args.who (whats.Refused c.in-Some-look_refused.why) c.give_up_other.new.self) = fits_lone c.give_up_other.new.self c.args.who (whats.Refused c.in-Some-look_refused.why) c.give_up_other.new.self.book.workers c.give_up_other.ensures.fits none refl refl in
    subst WorksFit (sym c.in_ok-tell.ensures.done) lone

pub returns-clause-fits : goal.returns-clause-fits
returns-clause-fits c =
    let none : work_at c.give_up_other.new.self.works.slots c.args.who.session ≡ None = ap (λ (l : Ledger). work_at l.works.slots c.args.who.session) c.give_up_other.ensures.done ∙ idle_none c.args.self.now c.args.who c.requires.idle in
    let pins : c.from.result ≡ c.args.number ∷ [] = c.from.ensures ∙ c.in_ok-vec.ensures.items in
    by_result c.open_work.result WorksFit c.open_work.new.self _ c.give_up_other.new.self c.open_work.ensures.done c.open_work.ensures.stays
    (fits_looked c.give_up_other.new.self c.args.who (whats.Looked c.args.number) (record { who = c.args.who; began = length c.lines.result.now; pins = c.from.result }) c.give_up_other.ensures.fits none refl refl refl
    (ap (λ (l : List Line). length l) c.lines.ensures) (ap (rises 0) pins ∙ rises_one c.args.number))
    c.give_up_other.ensures.fits
