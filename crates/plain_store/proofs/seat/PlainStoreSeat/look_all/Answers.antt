use Rattle.std.proofs.Common.{◌∙◌, Ok, refl, sym, ap, subst}
use Rattle.std.specs.Prelude.{None}
use Rattle.history.specs.declared.journal.What.TheVariants.{LookedAll}
use Rattle.journal_book.specs.Book.{Book}
use Rattle.journal_law.specs.Seats as seat
use Rattle.plain_store.specs.Plain.{Plain, view_of}
use Rattle.plain_store.specs.declared.work.Work.TheVariants as work
use Rattle.plain_store.proofs.Gives.{goes}
use Rattle.plain_store.proofs.Looks.{look_all_gives, looked_all_keeps}
use Rattle.plain_store.proofs.seat.PlainStoreSeat.look_all.Goals as goal

pub invariant_of-self-2 : goal.invariant_of-self-2
invariant_of-self-2 c = looked_all_keeps _ c.args.who c.open_line.new.book c.self.invariant (ap (λ (r : Plain). (view_of r).work) c.self.view_is ∙ c.requires.idle) (c.requires.own ∙ sym (ap (λ (r : Plain). r.session) c.self.view_is)) c.in_ok-open_line.ensures.done

pub returns-clause-gives : goal.returns-clause-gives
returns-clause-gives c =
    let p : Plain = record { session = c.self.inside.session; base = c.self.inside.base; book = c.self.inside.book; pages = c.self.inside.pages.items; work = c.self.inside.work } in
    let q : Plain = record p { book = c.open_line.new.book; work = work.Looking (record { who = c.args.who; snapshot = None }) } in
    subst (λ (r : Plain). seat.LookAllGives c.args.who (view_of r) (view_of q) (Ok c.from.result)) c.self.view_is
    (look_all_gives p q c.args.who c.from.result c.self.invariant refl refl (ap (λ (b : Book). b.lines) c.in_ok-open_line.ensures.done) refl (c.from.ensures ∙ c.in_ok-marks.ensures ∙ c.marks.ensures))

pub returns-clause-goes : goal.returns-clause-goes
returns-clause-goes c =
    let p : Plain = record { session = c.self.inside.session; base = c.self.inside.base; book = c.self.inside.book; pages = c.self.inside.pages.items; work = c.self.inside.work } in
    goes p c.args.self.now _ c.args.who LookedAll c.self.view_is refl refl (c.requires.own ∙ sym (ap (λ (r : Plain). r.session) c.self.view_is)) (λ fault. fault) (ap (λ (b : Book). b.lines) c.in_ok-open_line.ensures.done)
