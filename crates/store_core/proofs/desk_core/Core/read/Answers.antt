use Rattle.std.proofs.Common.{◌≡◌, ◌∙◌, refl, sym, ap, subst, Some}
use Rattle.retro_base.specs.declared.refusal.Refusal.TheVariants.{OutOfMemory}
use Rattle.journal_book.specs.declared.work.Work.TheVariants.{Open}
use Rattle.journal_book.specs.Works.{reading, work_at}
use Rattle.txn_set.specs.declared.ledger.Ledger.{Ledger}
use Rattle.txn_set.specs.Ledger.{kept_behind}
use Rattle.store_core.specs.Core.{IsCore}
use Rattle.store_core.proofs.Edits.{core_with, kept_edits, still_open}
use Rattle.store_core.proofs.desk_core.Core.read.Goals as goal

pub returns-in-Some-clause-core : goal.returns-in-Some-clause-core
returns-in-Some-clause-core g c = λ opening plain is.
    core_with g.D.Disk.is_honest g.D.Disk.state opening c.args.self.now plain is c.keep.new.self c.args.who c.requires.is_open.transaction (kept_behind c.in-Some.why c.requires.is_open.transaction) c.requires.is_open.open_there
    (kept_edits c.in-Some.why c.requires.is_open.transaction) (c.keep.ensures.done c.requires.is_open.transaction c.requires.is_open.open_there) c.keep.ensures.fits

pub returns-in-Ok-add_read-clause-core : goal.returns-in-Ok-add_read-clause-core
returns-in-Ok-add_read-clause-core g c = λ opening plain is.
    let there : work_at c.page_for.new.self.ledger.works.slots c.args.who.session ≡ Some (Open c.requires.is_open.transaction) =
    ap (λ (l : Ledger). work_at l.works.slots c.args.who.session) c.page_for.ensures.ledger ∙ c.requires.is_open.open_there in
    core_with g.D.Disk.is_honest g.D.Disk.state opening c.page_for.new.self plain (c.page_for.ensures.core opening plain is) c.add_read.new.self c.args.who c.requires.is_open.transaction (reading c.args.page c.requires.is_open.transaction) there
    refl (c.in-Ok-add_read.ensures.done c.requires.is_open.transaction there) c.add_read.ensures.fits

pub returns-in-Err-add_read-clause-ledger : goal.returns-in-Err-add_read-clause-ledger
returns-in-Err-add_read-clause-ledger g c = λ t there. record {
  allowed = tt;
  kept = c.in-Err-add_read.ensures.refused ∙ c.page_for.ensures.ledger ∙ still_open c.args.who c.args.self.now.ledger (kept_behind OutOfMemory t) there;
}

pub returns-in-Err-add_read-clause-core : goal.returns-in-Err-add_read-clause-core
returns-in-Err-add_read-clause-core g c = λ opening plain is.
    subst (λ (l : Ledger). IsCore g.D.Disk.is_honest g.D.Disk.state opening (record { desk = c.page_for.new.self.desk; ledger = l }) plain) (sym c.in-Err-add_read.ensures.refused) (c.page_for.ensures.core opening plain is)

pub returns-in-Err-clause-core : goal.returns-in-Err-clause-core
returns-in-Err-clause-core g c = λ opening plain is.
    let there : work_at c.page_for.new.self.ledger.works.slots c.args.who.session ≡ Some (Open c.requires.is_open.transaction) =
    ap (λ (l : Ledger). work_at l.works.slots c.args.who.session) c.page_for.ensures.ledger ∙ c.requires.is_open.open_there in
    core_with g.D.Disk.is_honest g.D.Disk.state opening c.page_for.new.self plain (c.page_for.ensures.core opening plain is) c.keep-in-Err.new.self c.args.who c.requires.is_open.transaction (kept_behind c.in-Err.why c.requires.is_open.transaction) there
    (kept_edits c.in-Err.why c.requires.is_open.transaction) (c.keep-in-Err.ensures.done c.requires.is_open.transaction there) c.keep-in-Err.ensures.fits
