use Rattle.std.proofs.Common.{◌≡◌, ◌∙◌, ◌<◌, ◌+◌, ℕ, List, length, Some, sym, ap, subst}
use Rattle.history.specs.declared.writes.PageImage.{PageImage}
use Rattle.journal_book.specs.declared.work.Work.TheVariants.{Open}
use Rattle.journal_book.specs.Book.{marked}
use Rattle.journal_book.specs.Works.{Works, AreLatches, edits_of, with_work}
use Rattle.journal_book.proofs.Ends.{length-marked}
use Rattle.journal_book.proofs.Slots.{all_within, latches_put, with_work_set, works_is}
use Rattle.journal_book.proofs.works.Works.put_back.Goals as goal
use Rattle.std.specs.List.{AllByRecursion}

pub mark-requires : goal.mark-requires
mark-requires c =
    let free = rw (← c.self.view_is) at c.requires.free in
    subst (λ (l : List PageImage). AllByRecursion (λ (image : PageImage). image.page < length c.self.inside.latches.items) l) (sym c.images.ensures.value) (all_within (length c.self.inside.latches.items) c.args.transaction.edits free.in_store)

pub invariant_of-self : goal.invariant_of-self
invariant_of-self c =
    let free = rw (← c.self.view_is) at c.requires.free in
    let idle = rw (← c.self.view_is) at c.requires.idle in
    let table : c.mark.new.table.items ≡ marked c.self.inside.latches.items (c.args.session + 1) c.args.transaction.edits =
    c.mark.ensures ∙ ap (λ (n : ℕ). marked c.self.inside.latches.items (n + 1) c.images.result.now) c.from.ensures ∙ ap (marked c.self.inside.latches.items (c.args.session + 1)) c.images.ensures.value in
    let slot : c.args.session < length c.self.inside.slots.items = rw (← c.self.view_is) at c.requires.slot in
    let filled : c.fill.new.slots.items ≡ with_work c.self.inside.slots.items c.args.session (Some (Open c.args.transaction)) = c.fill.ensures ∙ sym (with_work_set c.self.inside.slots.items c.args.session (Some (Open c.args.transaction)) slot) in
    subst (λ (l : List ℕ). AreLatches l c.fill.new.slots.items) (sym table)
    (subst (AreLatches (marked c.self.inside.latches.items (c.args.session + 1) c.args.transaction.edits)) (sym filled) (latches_put c.self.inside.latches.items c.self.inside.slots.items c.args.session (Some (Open c.args.transaction)) c.self.invariant (ap edits_of idle) free))

pub returns : goal.returns
returns c =
    let slot : c.args.session < length c.self.inside.slots.items = rw (← c.self.view_is) at c.requires.slot in
    works_is (length c.mark.new.table.items) c.args.self.now.pages c.fill.new.slots.items (with_work c.args.self.now.slots c.args.session (Some (Open c.args.transaction)))
    (ap (λ (l : List ℕ). length l) c.mark.ensures ∙ length-marked c.self.inside.latches.items (c.from.result + 1) c.images.result.now ∙ ap (λ (w : Works). w.pages) c.self.view_is)
    (c.fill.ensures ∙ sym (with_work_set c.self.inside.slots.items c.args.session (Some (Open c.args.transaction)) slot) ∙ ap (λ (w : Works). with_work w.slots c.args.session (Some (Open c.args.transaction))) c.self.view_is)
