use Rattle.std.proofs.Common.{◌<◌, ◌∙◌, ◌&&◌, not, List, Ok, length, refl, sym, ap, subst}
use Rattle.std.specs.Prelude.{nat_le}
use Rattle.retro_base.specs.declared.limits.TheConstants.{EDITED_PAGES}
use Rattle.history.specs.Writes.{is_among, pages_of}
use Rattle.history.specs.declared.writes.PageImage.{PageImage}
use Rattle.journal_law.specs.Seats as seat
use Rattle.plain_store.specs.Plain.{Plain, view_of}
use Rattle.plain_store.proofs.Editing.{edit_gives, edit_keeps}
use Rattle.plain_store.proofs.seat.PlainStoreSeat.edit.Goals as goal

pub invariant_of-self-2 : goal.invariant_of-self-2
invariant_of-self-2 c =
    let p : Plain = record { session = c.self.inside.session; base = c.self.inside.base; book = c.self.inside.book; pages = c.self.inside.pages.items; work = c.self.inside.work } in
    let t = c.transaction-transaction.result.now in
    edit_keeps p t c.args.page c.args.bytes.now c.add_edit.new.self c.self.invariant c.transaction-transaction.ensures c.images.ensures.rising
    (subst (λ (r : Plain). c.args.page < r.base.page_count) (sym c.self.view_is) c.requires.in_store)
    (ap (λ (es : List PageImage). nat_le EDITED_PAGES (length es) && not (is_among c.args.page (pages_of es))) (sym c.images.ensures.value) ∙ sym c.is_one_too_many.ensures ∙ c.if-is_one_too_many.false)
    (c.in_ok-add_edit.ensures.done t c.transaction-transaction.ensures)

pub returns-clause-gives : goal.returns-clause-gives
returns-clause-gives c a open_now =
    let p : Plain = record { session = c.self.inside.session; base = c.self.inside.base; book = c.self.inside.book; pages = c.self.inside.pages.items; work = c.self.inside.work } in
    let q : Plain = record p { work = c.add_edit.new.self } in
    let t = c.transaction-transaction.result.now in
    subst (λ (r : Plain). seat.EditGives c.args.page c.args.bytes.now (view_of r) (view_of q) a (Ok tt)) c.self.view_is
    (edit_gives p q t c.args.page c.args.bytes.now a c.transaction-transaction.ensures c.images.ensures.rising refl refl refl (c.in_ok-add_edit.ensures.done t c.transaction-transaction.ensures) (ap (λ (r : Plain). (view_of r).work) c.self.view_is ∙ open_now))
