use Rattle.std.proofs.Common.{◌∙◌, Ok, Err, refl, sym, ap, subst}
use Rattle.std.specs.Prelude.{Some}
use Rattle.history.specs.declared.journal.What.TheVariants.{Looked, Refused}
use Rattle.journal_book.specs.Book.{Book}
use Rattle.journal_law.specs.Seats as seat
use Rattle.plain_store.specs.Numbers.{look_refused}
use Rattle.plain_store.specs.Plain.{Plain, view_of}
use Rattle.plain_store.specs.declared.work.Work.TheVariants as work
use Rattle.plain_store.proofs.Gives.{goes}
use Rattle.plain_store.proofs.Looks.{look_gives, look_refused_gives, looked_keeps, refused_keeps}
use Rattle.plain_store.proofs.seat.PlainStoreSeat.look.Goals as goal

pub invariant_of-self-in-Some-look_refused : goal.invariant_of-self-in-Some-look_refused
invariant_of-self-in-Some-look_refused c = refused_keeps _ c.args.who c.in-Some-look_refused.why c.add_line.new.book c.self.invariant (ap (λ (r : Plain). (view_of r).work) c.self.view_is ∙ c.requires.idle) c.in_ok-add_line.ensures.done

pub returns-in-Some-look_refused-clause-gives : goal.returns-in-Some-look_refused-clause-gives
returns-in-Some-look_refused-clause-gives c =
    let p : Plain = record { session = c.self.inside.session; base = c.self.inside.base; book = c.self.inside.book; pages = c.self.inside.pages.items; work = c.self.inside.work } in
    let q : Plain = record p { book = c.add_line.new.book } in
    let why = c.in-Some-look_refused.why in
    let refused = sym c.look_refused.ensures ∙ c.in-Some-look_refused.is in
    subst (λ (r : Plain). seat.LookGives c.args.who c.args.snapshot (view_of r) (view_of q) (Err why)) c.self.view_is
    (look_refused_gives p q c.args.who c.args.snapshot why c.self.invariant (ap (λ (r : Plain). (view_of r).work) c.self.view_is ∙ c.requires.idle) refl refl (ap (λ (b : Book). b.lines) c.in_ok-add_line.ensures.done) refl (ap (look_refused c.args.snapshot) (sym c.marks.ensures) ∙ refused))

pub returns-in-Some-look_refused-clause-goes : goal.returns-in-Some-look_refused-clause-goes
returns-in-Some-look_refused-clause-goes c =
    let p : Plain = record { session = c.self.inside.session; base = c.self.inside.base; book = c.self.inside.book; pages = c.self.inside.pages.items; work = c.self.inside.work } in
    goes p c.args.self.now _ c.args.who (Refused c.in-Some-look_refused.why) c.self.view_is refl refl (c.requires.own ∙ sym (ap (λ (r : Plain). r.session) c.self.view_is)) (λ fault. fault) (ap (λ (b : Book). b.lines) c.in_ok-add_line.ensures.done)

pub invariant_of-self-2 : goal.invariant_of-self-2
invariant_of-self-2 c = looked_keeps _ c.args.who c.args.snapshot c.open_line.new.book c.self.invariant (ap (λ (r : Plain). (view_of r).work) c.self.view_is ∙ c.requires.idle) (c.requires.own ∙ sym (ap (λ (r : Plain). r.session) c.self.view_is)) c.in_ok-open_line.ensures.done

pub returns-clause-gives : goal.returns-clause-gives
returns-clause-gives c =
    let p : Plain = record { session = c.self.inside.session; base = c.self.inside.base; book = c.self.inside.book; pages = c.self.inside.pages.items; work = c.self.inside.work } in
    let q : Plain = record p { book = c.open_line.new.book; work = work.Looking (record { who = c.args.who; snapshot = Some c.args.snapshot }) } in
    subst (λ (r : Plain). seat.LookGives c.args.who c.args.snapshot (view_of r) (view_of q) (Ok tt)) c.self.view_is
    (look_gives p q c.args.who c.args.snapshot c.self.invariant refl refl (ap (λ (b : Book). b.lines) c.in_ok-open_line.ensures.done) refl (ap (look_refused c.args.snapshot) (sym c.marks.ensures) ∙ sym c.look_refused.ensures ∙ c.in_default-look_refused.is))

pub returns-clause-goes : goal.returns-clause-goes
returns-clause-goes c =
    let p : Plain = record { session = c.self.inside.session; base = c.self.inside.base; book = c.self.inside.book; pages = c.self.inside.pages.items; work = c.self.inside.work } in
    goes p c.args.self.now _ c.args.who (Looked c.args.snapshot) c.self.view_is refl refl (c.requires.own ∙ sym (ap (λ (r : Plain). r.session) c.self.view_is)) (λ fault. fault) (ap (λ (b : Book). b.lines) c.in_ok-open_line.ensures.done)
