use Rattle.std.proofs.Common.{◌≡◌, ◌∙◌, List, length, Option, Some, None, refl, sym, ap, subst, set}
use Rattle.journal_book.specs.declared.work.Transaction.{Transaction}
use Rattle.journal_book.specs.declared.work.Work.{Work}
use Rattle.journal_book.specs.declared.work.Work.TheVariants.{Open}
use Rattle.journal_book.specs.Works.{Works, AreLatches, keeping_refusal, work_at, with_work}
use Rattle.journal_book.proofs.Slots.{latches_open, one_open, refilled, works_is}
use Rattle.journal_book.proofs.works.Works.keep.Goals as goal

pub invariant_of-self : goal.invariant_of-self
invariant_of-self c =
    let new : Transaction = keeping_refusal c.args.why c.open_slot-transaction.result in
    let filled : c.fill.new.slots.items ≡ set (set c.self.inside.slots.items c.args.session None) c.args.session (Some (Open new)) =
    c.fill.ensures ∙ ap (λ (l : List (Option Work)). set l c.args.session (Some (Open new))) c.open_slot-transaction.ensures.slots in
    subst (AreLatches c.self.inside.latches.items) (sym filled) (latches_open c.self.inside.latches.items c.self.inside.slots.items c.args.session c.open_slot-transaction.result new c.self.invariant c.open_slot-transaction.ensures.transaction refl)

pub returns : goal.returns
returns c = λ t is.
    let new : Transaction = keeping_refusal c.args.why c.open_slot-transaction.result in
    let same : c.open_slot-transaction.result ≡ t = one_open c.open_slot-transaction.result t (sym c.open_slot-transaction.ensures.transaction ∙ ap (λ (w : Works). work_at w.slots c.args.session) c.self.view_is ∙ is) in
    let filled : c.fill.new.slots.items ≡ with_work c.self.inside.slots.items c.args.session (Some (Open new)) =
    c.fill.ensures ∙ ap (λ (l : List (Option Work)). set l c.args.session (Some (Open new))) c.open_slot-transaction.ensures.slots
    ∙ refilled c.self.inside.slots.items c.args.session (Open c.open_slot-transaction.result) (Some (Open new)) c.open_slot-transaction.ensures.transaction in
    works_is (length c.self.inside.latches.items) c.args.self.now.pages c.fill.new.slots.items (with_work c.args.self.now.slots c.args.session (Some (Open (keeping_refusal c.args.why t)))) (ap (λ (w : Works). w.pages) c.self.view_is)
    (filled ∙ ap (λ (x : Transaction). with_work c.self.inside.slots.items c.args.session (Some (Open (keeping_refusal c.args.why x)))) same
    ∙ ap (λ (w : Works). with_work w.slots c.args.session (Some (Open (keeping_refusal c.args.why t)))) c.self.view_is)
