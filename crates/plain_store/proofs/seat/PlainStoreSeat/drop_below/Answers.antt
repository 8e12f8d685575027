use Rattle.std.proofs.Common.{◌∙◌, ◌<◌, ◌≤◌, Ok, Err, refl, sym, ap, subst}
use Rattle.history.specs.declared.journal.What.TheVariants.{Dropped, Refused}
use Rattle.history.specs.Marks.{oldest}
use Rattle.journal_book.specs.Book.{Book}
use Rattle.journal_law.specs.Seats as seat
use Rattle.plain_store.specs.Numbers.{no_snapshot}
use Rattle.plain_store.specs.Plain.{Plain, ground_of, view_of}
use Rattle.plain_store.proofs.Drops.{drop_gives, drop_refused_gives, drop_tells, dropped_none, dropped_some}
use Rattle.plain_store.proofs.Gives.{goes}
use Rattle.plain_store.proofs.Looks.{refused_keeps}
use Rattle.plain_store.proofs.seat.PlainStoreSeat.drop_below.Goals as goal

pub returns-in-Some-clause-need : goal.returns-in-Some-clause-need
returns-in-Some-clause-need c =
    let p : Plain = record { session = c.self.inside.session; base = c.self.inside.base; book = c.self.inside.book; pages = c.self.inside.pages.items; work = c.self.inside.work } in
    subst (λ (r : Plain). seat.TellsDropNeed 1 (view_of r) (view_of r) (Err c.in-Some.why)) c.self.view_is
    (drop_tells p c.in-Some.why c.self.invariant (ap (λ (r : Plain). (view_of r).work) c.self.view_is ∙ c.requires.idle) (sym c.lines_refused.ensures ∙ c.in-Some.is))

pub invariant_of-self-in-Some-no_snapshot : goal.invariant_of-self-in-Some-no_snapshot
invariant_of-self-in-Some-no_snapshot c = refused_keeps _ c.args.who c.in-Some-no_snapshot.why c.add_line.new.book c.self.invariant (ap (λ (r : Plain). (view_of r).work) c.self.view_is ∙ c.requires.idle) c.in_ok-add_line.ensures.done

pub returns-in-Some-no_snapshot-clause-gives : goal.returns-in-Some-no_snapshot-clause-gives
returns-in-Some-no_snapshot-clause-gives c =
    let p : Plain = record { session = c.self.inside.session; base = c.self.inside.base; book = c.self.inside.book; pages = c.self.inside.pages.items; work = c.self.inside.work } in
    let q : Plain = record p { book = c.add_line.new.book } in
    let why = c.in-Some-no_snapshot.why in
    subst (λ (r : Plain). seat.DropGives c.args.who c.args.below (view_of r) (view_of q) (Err why)) c.self.view_is
    (drop_refused_gives p q c.args.who c.args.below why c.self.invariant (ap (λ (r : Plain). (view_of r).work) c.self.view_is ∙ c.requires.idle) refl refl (ap (λ (b : Book). b.lines) c.in_ok-add_line.ensures.done) refl
    (ap (no_snapshot c.args.below) (sym c.marks.ensures) ∙ sym c.no_snapshot.ensures ∙ c.in-Some-no_snapshot.is))

pub returns-in-Some-no_snapshot-clause-goes : goal.returns-in-Some-no_snapshot-clause-goes
returns-in-Some-no_snapshot-clause-goes c =
    let p : Plain = record { session = c.self.inside.session; base = c.self.inside.base; book = c.self.inside.book; pages = c.self.inside.pages.items; work = c.self.inside.work } in
    goes p c.args.self.now _ c.args.who (Refused c.in-Some-no_snapshot.why) c.self.view_is refl refl (c.requires.own ∙ sym (ap (λ (r : Plain). r.session) c.self.view_is)) (λ fault. fault) (ap (λ (b : Book). b.lines) c.in_ok-add_line.ensures.done)

pub invariant_of-self-then-oldest-below : goal.invariant_of-self-then-oldest-below
invariant_of-self-then-oldest-below c =
    let p : Plain = record { session = c.self.inside.session; base = c.self.inside.base; book = c.self.inside.book; pages = c.self.inside.pages.items; work = c.self.inside.work } in
    dropped_some p c.args.who c.args.below c.self.invariant (ap (λ (r : Plain). (view_of r).work) c.self.view_is ∙ c.requires.idle) (ap (no_snapshot c.args.below) (sym c.marks.ensures) ∙ sym c.no_snapshot.ensures ∙ c.in_default-no_snapshot.is) c.add_line-2.new.book c.drop_below.new.self (subst (λ n. n < c.args.below) (c.oldest.ensures ∙ ap oldest c.marks-2.ensures) c.if-oldest-below.true) c.drop_below.ensures c.in_ok-add_line-2.ensures.done

pub invariant_of-self-else-oldest-below : goal.invariant_of-self-else-oldest-below
invariant_of-self-else-oldest-below c =
    let p : Plain = record { session = c.self.inside.session; base = c.self.inside.base; book = c.self.inside.book; pages = c.self.inside.pages.items; work = c.self.inside.work } in
    dropped_none p c.args.who c.args.below c.self.invariant (ap (λ (r : Plain). (view_of r).work) c.self.view_is ∙ c.requires.idle) (ap (no_snapshot c.args.below) (sym c.marks.ensures) ∙ sym c.no_snapshot.ensures ∙ c.in_default-no_snapshot.is) c.add_line-2.new.book (subst (λ n. c.args.below ≤ n) (c.oldest.ensures ∙ ap oldest c.marks-2.ensures) c.if-oldest-below.false) c.in_ok-add_line-2.ensures.done

pub returns-then-oldest-below-clause-gives : goal.returns-then-oldest-below-clause-gives
returns-then-oldest-below-clause-gives c =
    let p : Plain = record { session = c.self.inside.session; base = c.self.inside.base; book = c.self.inside.book; pages = c.self.inside.pages.items; work = c.self.inside.work } in
    let q : Plain = record p { base = c.drop_below.new.self; book = c.add_line-2.new.book } in
    subst (λ (r : Plain). seat.DropGives c.args.who c.args.below (view_of r) (view_of q) (Ok tt)) c.self.view_is
    (drop_gives p c.args.who c.args.below c.self.invariant (ap (λ (r : Plain). (view_of r).work) c.self.view_is ∙ c.requires.idle) (ap (no_snapshot c.args.below) (sym c.marks.ensures) ∙ sym c.no_snapshot.ensures ∙ c.in_default-no_snapshot.is) q refl (ap (λ b. ground_of (record p { base = b })) c.drop_below.ensures) (ap (λ (b : Book). b.lines) c.in_ok-add_line-2.ensures.done) refl)

pub returns-then-oldest-below-clause-goes : goal.returns-then-oldest-below-clause-goes
returns-then-oldest-below-clause-goes c =
    let p : Plain = record { session = c.self.inside.session; base = c.self.inside.base; book = c.self.inside.book; pages = c.self.inside.pages.items; work = c.self.inside.work } in
    goes p c.args.self.now _ c.args.who (Dropped c.args.below) c.self.view_is refl (ap (λ b. ground_of (record p { base = b })) c.drop_below.ensures) (c.requires.own ∙ sym (ap (λ (r : Plain). r.session) c.self.view_is)) (λ fault. fault) (ap (λ (b : Book). b.lines) c.in_ok-add_line-2.ensures.done)

pub returns-else-oldest-below-clause-gives : goal.returns-else-oldest-below-clause-gives
returns-else-oldest-below-clause-gives c =
    let p : Plain = record { session = c.self.inside.session; base = c.self.inside.base; book = c.self.inside.book; pages = c.self.inside.pages.items; work = c.self.inside.work } in
    let q : Plain = record p { book = c.add_line-2.new.book } in
    subst (λ (r : Plain). seat.DropGives c.args.who c.args.below (view_of r) (view_of q) (Ok tt)) c.self.view_is
    (drop_gives p c.args.who c.args.below c.self.invariant (ap (λ (r : Plain). (view_of r).work) c.self.view_is ∙ c.requires.idle) (ap (no_snapshot c.args.below) (sym c.marks.ensures) ∙ sym c.no_snapshot.ensures ∙ c.in_default-no_snapshot.is) q refl refl (ap (λ (b : Book). b.lines) c.in_ok-add_line-2.ensures.done) refl)

pub returns-else-oldest-below-clause-goes : goal.returns-else-oldest-below-clause-goes
returns-else-oldest-below-clause-goes c =
    let p : Plain = record { session = c.self.inside.session; base = c.self.inside.base; book = c.self.inside.book; pages = c.self.inside.pages.items; work = c.self.inside.work } in
    goes p c.args.self.now _ c.args.who (Dropped c.args.below) c.self.view_is refl refl (c.requires.own ∙ sym (ap (λ (r : Plain). r.session) c.self.view_is)) (λ fault. fault) (ap (λ (b : Book). b.lines) c.in_ok-add_line-2.ensures.done)
