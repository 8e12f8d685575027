use Rattle.std.proofs.Common.{◌<◌, ◌∙◌, List, Ok, refl, sym, ap, subst}
use Rattle.history.specs.History.{written}
use Rattle.history.specs.declared.writes.PageImage.{PageImage}
use Rattle.journal_law.specs.Seats as seat
use Rattle.plain_store.specs.Page.{PlainPage, bytes_in}
use Rattle.plain_store.specs.Plain.{Plain, view_of}
use Rattle.plain_store.proofs.Gives.{read_gives}
use Rattle.plain_store.proofs.seat.PlainStoreSeat.read.Goals as goal

pub returns-clause-gives : goal.returns-clause-gives
returns-clause-gives c a open_now =
    let p : Plain = record { session = c.self.inside.session; base = c.self.inside.base; book = c.self.inside.book; pages = c.self.inside.pages.items; work = c.self.inside.work } in
    let q : Plain = record p { work = c.note_read.new.self } in
    let t = c.transaction-transaction.result.now in
    let out = c.shown_page.ensures ∙ ap (λ (ps : List PlainPage). written (bytes_in ps) c.images.result.now c.args.page) c.deref.ensures.value ∙ ap (λ (es : List PageImage). written (bytes_in p.pages) es c.args.page) c.images.ensures.value in
    subst (λ (r : Plain). seat.ReadGives (Unit {0}) c.args.page c.shown_page.result (view_of r) (view_of q) a (Ok tt)) c.self.view_is
    (read_gives p q t c.args.page c.shown_page.result a c.self.invariant c.transaction-transaction.ensures (subst (λ (r : Plain). c.args.page < r.base.page_count) (sym c.self.view_is) c.requires.in_store) out refl refl refl
    (c.note_read.ensures t c.transaction-transaction.ensures) (ap (λ (r : Plain). (view_of r).work) c.self.view_is ∙ open_now))
