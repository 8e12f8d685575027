use Rattle.std.proofs.Common.{◌≡◌, ◌∙◌, ◌<◌, ℕ, List, length, Option, None, sym, ap, subst, arith, set}
use Rattle.std.specs.Prelude.{IsSome}
use Rattle.std.specs.List.{AllByRecursion}
use Rattle.history.specs.declared.writes.PageImage.{PageImage}
use Rattle.journal_book.specs.declared.work.Work.{Work}
use Rattle.history.specs.Writes.{pages_of, is_among}
use Rattle.journal_book.specs.Book.{marked}
use Rattle.journal_book.specs.Works.{Works, AreLatches, edits_of, edits_page, work_at, with_work}
use Rattle.journal_book.proofs.Ends.{length-marked}
use Rattle.journal_book.proofs.Slots.{held_within, latches_taken, read_slot, some_slot, taken_free, with_work_set, works_is}
use Rattle.journal_book.proofs.works.Works.take.Goals as goal

slots_are : (c : goal.After-edits_of) → c.self.inside.slots.items ≡ c.args.self.now.slots
slots_are c = ap (λ (w : Works). w.slots) c.self.view_is

within : (c : goal.After-edits_of) → c.args.session < length c.self.inside.slots.items
within c = some_slot c.self.inside.slots.items c.args.session (subst (λ (l : List (Option Work)). IsSome (work_at l c.args.session)) (sym (slots_are c)) c.requires)

work_is : (c : goal.After-edits_of) → c.replace-work.result ≡ work_at c.self.inside.slots.items c.args.session
work_is c = c.replace-work.ensures.value ∙ read_slot c.self.inside.slots.items c.args.session c.index_mut.result.now c.index_mut.ensures.value (within c)

edits_are : (c : goal.After-edits_of) → c.edits_of.result.now ≡ edits_of (work_at c.self.inside.slots.items c.args.session)
edits_are c = c.edits_of.ensures ∙ ap edits_of (work_is c)

pub mark-requires : goal.mark-requires
mark-requires c =
    subst (λ (l : List PageImage). AllByRecursion (λ (image : PageImage). image.page < length c.self.inside.latches.items) l) (sym (edits_are c))
    (held_within c.self.inside.latches.items c.self.inside.slots.items c.args.session c.self.invariant)

inside : (c : goal.After-mark) → c.args.session < length c.self.inside.slots.items
inside c = some_slot c.self.inside.slots.items c.args.session (subst (λ (l : List (Option Work)). IsSome (work_at l c.args.session)) (sym (ap (λ (w : Works). w.slots) c.self.view_is)) c.requires)

table_is : (c : goal.After-mark) → c.mark.new.table.items ≡ marked c.self.inside.latches.items 0 (edits_of (work_at c.self.inside.slots.items c.args.session))
table_is c = c.mark.ensures ∙ ap (marked c.self.inside.latches.items 0) (c.edits_of.ensures ∙ ap edits_of (c.replace-work.ensures.value ∙ read_slot c.self.inside.slots.items c.args.session c.index_mut.result.now c.index_mut.ensures.value (inside c)))

slots_left : (c : goal.After-mark) → set c.self.inside.slots.items c.args.session c.replace-work.new.dest ≡ with_work c.self.inside.slots.items c.args.session None
slots_left c = ap (set c.self.inside.slots.items c.args.session) c.replace-work.ensures.after ∙ sym (with_work_set c.self.inside.slots.items c.args.session None (inside c))

pub invariant_of-self : goal.invariant_of-self
invariant_of-self c =
    subst (λ (l : List ℕ). AreLatches l (set c.self.inside.slots.items c.args.session c.replace-work.new.dest)) (sym (table_is c))
    (subst (AreLatches (marked c.self.inside.latches.items 0 (edits_of (work_at c.self.inside.slots.items c.args.session)))) (sym (slots_left c))
    (latches_taken c.self.inside.latches.items c.self.inside.slots.items c.args.session c.self.invariant))

pub returns-clause-works : goal.returns-clause-works
returns-clause-works c =
    works_is (length c.mark.new.table.items) c.args.self.now.pages (set c.self.inside.slots.items c.args.session c.replace-work.new.dest) (with_work c.args.self.now.slots c.args.session None)
    (ap (λ (l : List ℕ). length l) c.mark.ensures ∙ length-marked c.self.inside.latches.items 0 c.edits_of.result.now ∙ ap (λ (w : Works). w.pages) c.self.view_is)
    (slots_left c ∙ ap (λ (w : Works). with_work w.slots c.args.session None) c.self.view_is)

pub returns-clause-free : goal.returns-clause-free
returns-clause-free c =
    let long : length c.mark.new.table.items ≡ length c.self.inside.latches.items = ap (λ (l : List ℕ). length l) c.mark.ensures ∙ length-marked c.self.inside.latches.items 0 c.edits_of.result.now in
    let same : edits_of c.replace-work.result ≡ edits_of (work_at c.self.inside.slots.items c.args.session) =
    ap edits_of (c.replace-work.ensures.value ∙ read_slot c.self.inside.slots.items c.args.session c.index_mut.result.now c.index_mut.ensures.value (inside c)) in
    record {
      in_store = λ page is. omega (arith, long, (taken_free c.self.inside.latches.items c.self.inside.slots.items c.args.session page 0 c.self.invariant (ap (λ (l : List PageImage). is_among page (pages_of l)) (sym same) ∙ is)).0);
      unlatched = λ page session is.
          ap (λ (l : List (Option Work)). edits_page page (work_at l session)) (slots_left c)
          ∙ (taken_free c.self.inside.latches.items c.self.inside.slots.items c.args.session page session c.self.invariant (ap (λ (l : List PageImage). is_among page (pages_of l)) (sym same) ∙ is)).1;
    }
