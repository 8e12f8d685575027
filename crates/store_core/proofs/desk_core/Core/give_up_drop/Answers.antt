use Rattle.std.proofs.Common.{◌∙◌, sym, subst}
use Rattle.journal_book.specs.Works.{work_at}
use Rattle.txn_set.specs.declared.ledger.Ledger.{Ledger}
use Rattle.store_core.specs.Core.{IsCore}
use Rattle.store_core.proofs.Kept.{core_gives_up, is_kept}
use Rattle.store_core.proofs.desk_core.Core.give_up_drop.Goals as goal

pub give_up-requires-clause-drop : goal.give_up-requires-clause-drop
give_up-requires-clause-drop g c = is_kept (work_at c.args.self.now.ledger.works.slots c.args.who.session) (sym c.keeps_drop.ensures ∙ c.if-keeps_drop.true)

pub returns-then-keeps_drop-clause-core : goal.returns-then-keeps_drop-clause-core
returns-then-keeps_drop-clause-core g c = λ opening plain is.
    subst (λ (l : Ledger). IsCore g.D.Disk.is_honest g.D.Disk.state opening (record { desk = c.args.self.now.desk; ledger = l }) plain) (sym c.give_up.ensures.done)
    (core_gives_up g.D.Disk.is_honest g.D.Disk.state opening c.args.self.now plain is c.args.who (is_kept (work_at c.args.self.now.ledger.works.slots c.args.who.session) (sym c.keeps_drop.ensures ∙ c.if-keeps_drop.true)))
