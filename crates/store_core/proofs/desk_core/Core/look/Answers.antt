use Rattle.std.proofs.Common.{◌≡◌, ◌∙◌, ℕ, sym, ap, None}
use Rattle.history.specs.Marks.{newest}
use Rattle.journal_book.specs.Book.{lines_refused}
use Rattle.txn_set.specs.Ledger.{given_up}
use Rattle.txn_set.specs.Refused.{look_refused}
use Rattle.store_core.proofs.Looked.{core_looks, look_allowed, look_retained}
use Rattle.store_core.proofs.desk_core.Core.look.Goals as goal

pub returns-in_err-look-clause-core : goal.returns-in_err-look-clause-core
returns-in_err-look-clause-core g c = λ opening plain is.
    core_looks g.D.Disk.is_honest g.D.Disk.state opening c.args.self.now plain is c.args.who c.args.number c.horizon-oldest.result.0 c.horizon-oldest.result.1 c.look.new.self c.look.result
    (ap (λ (p : ℕ × ℕ). p.0) c.horizon-oldest.ensures) (ap (λ (p : ℕ × ℕ). p.1) c.horizon-oldest.ensures) c.requires.idle c.look.ensures.full c.look.ensures.refused c.look.ensures.done c.look.ensures.memory c.look.ensures.fits

pub start-requires-clause-retained : goal.start-requires-clause-retained
start-requires-clause-retained g c =
    let old = ap (λ (p : ℕ × ℕ). p.0) c.horizon-oldest.ensures in
    let new = ap (λ (p : ℕ × ℕ). p.1) c.horizon-oldest.ensures in
    let none : look_refused c.args.number c.horizon-oldest.result.0 c.horizon-oldest.result.1 ≡ None =
    look_allowed (lines_refused (given_up c.args.who c.args.self.now.ledger).book 2) (look_refused c.args.number c.horizon-oldest.result.0 c.horizon-oldest.result.1) (λ why e. absurd (cc ((c.in_ok-look.ensures.full why e).0))) (λ why free e. c.in_ok-look.ensures.refused why free e) in
    look_retained c.args.self.now.desk.base.marks c.args.number c.requires.core.is.is.fits.numbered
    (ap (λ (n : ℕ). look_refused c.args.number n (newest c.args.self.now.desk.base.marks)) (sym old) ∙ ap (look_refused c.args.number c.horizon-oldest.result.0) (sym new) ∙ none)

pub returns-clause-looked : goal.returns-clause-looked
returns-clause-looked g c =
    let old = ap (λ (p : ℕ × ℕ). p.0) c.horizon-oldest.ensures in
    let new = ap (λ (p : ℕ × ℕ). p.1) c.horizon-oldest.ensures in
    let none : look_refused c.args.number c.horizon-oldest.result.0 c.horizon-oldest.result.1 ≡ None =
    look_allowed (lines_refused (given_up c.args.who c.args.self.now.ledger).book 2) (look_refused c.args.number c.horizon-oldest.result.0 c.horizon-oldest.result.1) (λ why e. absurd (cc ((c.in_ok-look.ensures.full why e).0))) (λ why free e. c.in_ok-look.ensures.refused why free e) in
    record {
      full = λ why e. absurd (cc ((c.in_ok-look.ensures.full why e).0));
      done = (ap (λ (n : ℕ). look_refused c.args.number n (newest c.args.self.now.desk.base.marks)) (sym old) ∙ ap (look_refused c.args.number c.horizon-oldest.result.0) (sym new) ∙ none, c.in_ok-look.ensures.done);
      refused = λ why free e. tt;
      memory = λ free e. tt;
    }

pub returns-clause-core : goal.returns-clause-core
returns-clause-core g c = λ opening plain is.
    core_looks g.D.Disk.is_honest g.D.Disk.state opening c.args.self.now plain is c.args.who c.args.number c.horizon-oldest.result.0 c.horizon-oldest.result.1 c.look.new.self c.look.result
    (ap (λ (p : ℕ × ℕ). p.0) c.horizon-oldest.ensures) (ap (λ (p : ℕ × ℕ). p.1) c.horizon-oldest.ensures) c.requires.idle c.look.ensures.full c.look.ensures.refused c.look.ensures.done c.look.ensures.memory c.look.ensures.fits
