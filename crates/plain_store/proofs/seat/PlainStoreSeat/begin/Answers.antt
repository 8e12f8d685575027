use Rattle.std.proofs.Common.{false, ◌∙◌, Ok, refl, sym, ap, subst}
use Rattle.history.specs.declared.journal.What.TheVariants.{Began}
use Rattle.journal_book.specs.Book.{Book}
use Rattle.journal_law.specs.Seats as seat
use Rattle.plain_store.specs.Plain.{Plain, view_of}
use Rattle.plain_store.specs.declared.work.Work.TheVariants as work
use Rattle.plain_store.proofs.Gives.{begin_gives, begin_keeps, goes}
use Rattle.plain_store.proofs.seat.PlainStoreSeat.begin.Goals as goal

pub invariant_of-self-2 : goal.invariant_of-self-2
invariant_of-self-2 c =
    begin_keeps _ c.args.who c.open_line.new.book c.new-2.result c.self.invariant (ap (λ (p : Plain). (view_of p).work) c.self.view_is ∙ c.requires.idle) (c.requires.own ∙ sym (ap (λ (p : Plain). p.session) c.self.view_is))
    c.in_ok-open_line.ensures.done (c.new-2.ensures ∙ c.new.ensures.items)

pub returns-clause-gives : goal.returns-clause-gives
returns-clause-gives c =
    let p : Plain = record { session = c.self.inside.session; base = c.self.inside.base; book = c.self.inside.book; pages = c.self.inside.pages.items; work = c.self.inside.work } in
    let q : Plain = record p { book = c.open_line.new.book; work = work.Open (record { who = c.args.who; has_read = false; edits = c.new-2.result; too_many = false }) } in
    subst (λ (r : Plain). seat.BeginGives c.args.who (view_of r) (view_of q) (Ok tt)) c.self.view_is
    (begin_gives p q c.args.who c.new-2.result refl refl (ap (λ (b : Book). b.lines) c.in_ok-open_line.ensures.done) refl (c.new-2.ensures ∙ c.new.ensures.items))

pub returns-clause-goes : goal.returns-clause-goes
returns-clause-goes c =
    let p : Plain = record { session = c.self.inside.session; base = c.self.inside.base; book = c.self.inside.book; pages = c.self.inside.pages.items; work = c.self.inside.work } in
    goes p c.args.self.now _ c.args.who Began c.self.view_is refl refl (c.requires.own ∙ sym (ap (λ (r : Plain). r.session) c.self.view_is)) (λ fault. fault) (ap (λ (b : Book). b.lines) c.in_ok-open_line.ensures.done)
