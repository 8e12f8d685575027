use Rattle.std.proofs.Common.{◌∙◌, refl, ap, subst}
use Rattle.journal_book.specs.Book.{Book}
use Rattle.journal_law.specs.Lawful.{IsFault}
use Rattle.journal_law.specs.Seats as seat
use Rattle.plain_store.specs.Plain.{Plain, view_of}
use Rattle.plain_store.proofs.Gives.{closed_keeps, goes, mine_open, no_fault_closes, rollback_gives}
use Rattle.plain_store.proofs.seat.PlainStoreSeat.rollback.Goals as goal

pub invariant_of-self : goal.invariant_of-self
invariant_of-self c = closed_keeps _ c.take_transaction-transaction.result _ c.args.why c.close.new.self c.take_transaction-transaction.new.self c.self.invariant c.take_transaction-transaction.ensures.transaction c.closing.ensures c.close.ensures c.take_transaction-transaction.ensures.idle

pub returns-clause-gives : goal.returns-clause-gives
returns-clause-gives c a open_now =
    let p : Plain = record { session = c.self.inside.session; base = c.self.inside.base; book = c.self.inside.book; pages = c.self.inside.pages.items; work = c.self.inside.work } in
    let q : Plain = record p { book = c.close.new.self; work = c.take_transaction-transaction.new.self } in
    subst (λ (r : Plain). seat.RollbackGives c.args.why (view_of r) (view_of q) a) c.self.view_is
    (rollback_gives p q c.take_transaction-transaction.result _ c.args.why a c.take_transaction-transaction.ensures.transaction c.closing.ensures refl refl (ap (λ (b : Book). b.lines) c.close.ensures) c.take_transaction-transaction.ensures.idle (ap (λ (r : Plain). (view_of r).work) c.self.view_is ∙ open_now))

pub returns-clause-goes : goal.returns-clause-goes
returns-clause-goes c =
    let p : Plain = record { session = c.self.inside.session; base = c.self.inside.base; book = c.self.inside.book; pages = c.self.inside.pages.items; work = c.self.inside.work } in
    goes p c.args.self.now _ c.take_transaction-transaction.result.who _ c.self.view_is refl refl (mine_open p c.take_transaction-transaction.result c.self.invariant c.take_transaction-transaction.ensures.transaction)
    (λ fault. no_fault_closes (view_of c.args.self.now) c.take_transaction-transaction.result.too_many c.args.why refl c.requires.may_end (subst IsFault c.closing.ensures fault)) (ap (λ (b : Book). b.lines) c.close.ensures)
