use Rattle.std.proofs.Common.{◌≡◌, ◌∙◌, ◌+◌, ℕ, List, length, Option, Some, None, sym, ap, subst, arith, set}
use Rattle.std.proofs.lemmas.List.{length-set}
use Rattle.journal_book.specs.declared.work.Transaction.{Transaction}
use Rattle.journal_book.specs.declared.work.Work.{Work}
use Rattle.journal_book.specs.declared.work.Work.TheVariants.{Open}
use Rattle.journal_book.specs.Works.{Works, AreLatches, editing, work_at, with_work}
use Rattle.journal_book.proofs.Slots.{latches_edit, latches_open, one_open, refilled, with_work_same, works_is}
use Rattle.journal_book.proofs.works.Works.add_edit.Goals as goal

pub invariant_of-self : goal.invariant_of-self
invariant_of-self c =
    let latch = rw (← c.self.view_is) at c.requires.latch in
    let filled : c.fill.new.slots.items ≡ with_work c.self.inside.slots.items c.args.session (Some (Open c.in-Ok.transaction)) =
    c.fill.ensures ∙ ap (λ (l : List (Option Work)). set l c.args.session (Some (Open c.in-Ok.transaction))) c.open_slot.ensures.slots
    ∙ refilled c.self.inside.slots.items c.args.session (Open c.open_slot.result) (Some (Open c.in-Ok.transaction)) c.open_slot.ensures.transaction in
    subst (λ (n : ℕ). AreLatches (set c.self.inside.latches.items c.args.image.page (n + 1)) c.fill.new.slots.items) (sym c.from.ensures)
    (subst (AreLatches (set c.self.inside.latches.items c.args.image.page (c.args.session + 1))) (sym filled)
    (latches_edit c.self.inside.latches.items c.self.inside.slots.items c.args.session c.open_slot.result c.in-Ok.transaction c.args.image c.self.invariant c.open_slot.ensures.transaction
    (omega (arith, c.requires.page, ap (λ (w : Works). w.pages) c.self.view_is)) latch (ap (λ (t : Transaction). t.edits) c.in-Ok.ensures.done)))

pub invariant_of-self-in-Err : goal.invariant_of-self-in-Err
invariant_of-self-in-Err c =
    let filled : c.fill-in-Err.new.slots.items ≡ set (set c.self.inside.slots.items c.args.session None) c.args.session (Some (Open c.in-Err.transaction)) =
    c.fill-in-Err.ensures ∙ ap (λ (l : List (Option Work)). set l c.args.session (Some (Open c.in-Err.transaction))) c.open_slot.ensures.slots in
    subst (AreLatches c.self.inside.latches.items) (sym filled)
    (latches_open c.self.inside.latches.items c.self.inside.slots.items c.args.session c.open_slot.result c.in-Err.transaction c.self.invariant c.open_slot.ensures.transaction (ap (λ (t : Transaction). t.edits) c.in-Err.ensures.refused))

pub returns-in-Ok-clause-done : goal.returns-in-Ok-clause-done
returns-in-Ok-clause-done c = λ t is.
    let filled : c.fill.new.slots.items ≡ with_work c.self.inside.slots.items c.args.session (Some (Open c.in-Ok.transaction)) =
    c.fill.ensures ∙ ap (λ (l : List (Option Work)). set l c.args.session (Some (Open c.in-Ok.transaction))) c.open_slot.ensures.slots
    ∙ refilled c.self.inside.slots.items c.args.session (Open c.open_slot.result) (Some (Open c.in-Ok.transaction)) c.open_slot.ensures.transaction in
    let same : c.open_slot.result ≡ t = one_open c.open_slot.result t (sym c.open_slot.ensures.transaction ∙ ap (λ (w : Works). work_at w.slots c.args.session) c.self.view_is ∙ is) in
    works_is (length (set c.self.inside.latches.items c.args.image.page (c.from.result + 1))) c.args.self.now.pages c.fill.new.slots.items (with_work c.args.self.now.slots c.args.session (Some (Open (editing c.args.image t))))
    (length-set c.self.inside.latches.items c.args.image.page (c.from.result + 1) ∙ ap (λ (w : Works). w.pages) c.self.view_is)
    (filled ∙ ap (λ (x : Transaction). with_work c.self.inside.slots.items c.args.session (Some (Open x))) (c.in-Ok.ensures.done ∙ ap (editing c.args.image) same)
    ∙ ap (λ (w : Works). with_work w.slots c.args.session (Some (Open (editing c.args.image t)))) c.self.view_is)

pub returns-in-Err-clause-refused : goal.returns-in-Err-clause-refused
returns-in-Err-clause-refused c =
    let filled : c.fill-in-Err.new.slots.items ≡ with_work c.self.inside.slots.items c.args.session (Some (Open c.in-Err.transaction)) =
    c.fill-in-Err.ensures ∙ ap (λ (l : List (Option Work)). set l c.args.session (Some (Open c.in-Err.transaction))) c.open_slot.ensures.slots
    ∙ refilled c.self.inside.slots.items c.args.session (Open c.open_slot.result) (Some (Open c.in-Err.transaction)) c.open_slot.ensures.transaction in
    works_is (length c.self.inside.latches.items) c.args.self.now.pages c.fill-in-Err.new.slots.items c.args.self.now.slots (ap (λ (w : Works). w.pages) c.self.view_is)
    (filled ∙ ap (λ (x : Transaction). with_work c.self.inside.slots.items c.args.session (Some (Open x))) c.in-Err.ensures.refused
    ∙ with_work_same c.self.inside.slots.items c.args.session (Open c.open_slot.result) c.open_slot.ensures.transaction ∙ ap (λ (w : Works). w.slots) c.self.view_is)
