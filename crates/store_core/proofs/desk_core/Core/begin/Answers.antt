use Rattle.std.proofs.Common.{refl}
use Rattle.history.specs.declared.journal.What.TheVariants.{Began}
use Rattle.history.specs.History.{now}
use Rattle.txn_set.specs.Ledger.{fresh, given_up}
use Rattle.txn_set.proofs.FitSteps.{idle_none}
use Rattle.store_core.proofs.Ledgers.{ledger_given_up}
use Rattle.store_core.proofs.Opened.{began_pins, core_opens, quiet_began}
use Rattle.store_core.proofs.desk_core.Core.begin.Goals as goal

pub returns-clause-core : goal.returns-clause-core
returns-clause-core g c = λ opening plain is.
    core_opens g.D.Disk.is_honest g.D.Disk.state opening c.args.self.now plain is c.args.who Began (fresh c.args.who c.args.self.now.ledger.book.lines) c.begin.new.self c.begin.result c.requires.idle
    (record { full = c.begin.ensures.full; done = c.begin.ensures.done; memory = c.begin.ensures.memory; stays = c.begin.ensures.stays }) c.begin.ensures.fits tt (λ other differs. refl)
    (began_pins (now opening).base (given_up c.args.who c.args.self.now.ledger) c.args.who (ledger_given_up (now opening).base c.args.self.now.ledger is.ledger c.args.who) (idle_none c.args.self.now.ledger c.args.who c.requires.idle)) refl quiet_began
