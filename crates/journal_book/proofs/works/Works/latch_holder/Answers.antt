use Rattle.std.proofs.Common.{◌≡◌, ◌∙◌, ◌<◌, ℕ, length, refl, sym, ap, arith}
use Rattle.journal_book.specs.Works.{Works, edits_page, work_at, latch_holder, latched_by}
use Rattle.journal_book.proofs.Slots.{holder_none, holder_only}
use Rattle.journal_book.proofs.works.Works.latch_holder.Goals as goal
use Rattle.std.proofs.Common.{◌-◌, Bool, true, false, get_or}
use Rattle.std.proofs.lemmas.List.{get_or_default}
use Rattle.journal_book.proofs.Slots.{editing_slot, read_slot}

pub returns-then-latch-eq0 : goal.returns-then-latch-eq0
returns-then-latch-eq0 c =
    let inside : c.args.page < length c.self.inside.latches.items = omega (arith, c.requires, ap (λ (w : Works). w.pages) c.self.view_is) in
    let latch : c.index.result.now ≡ get_or c.self.inside.latches.items c.args.page 0 = c.index.ensures ∙ get_or_default c.self.inside.latches.items c.args.page c.index.result.now 0 inside in
    sym (holder_none c.args.who c.args.page c.self.inside.slots.items (λ session. free session (edits_page c.args.page (work_at c.self.inside.slots.items session)) refl (omega (arith, latch, c.if-latch-eq0.true))))
    ∙ ap (λ (w : Works). latch_holder c.args.who c.args.page w.slots) c.self.view_is
  where
    free : (session : ℕ) → (b : Bool) → edits_page c.args.page (work_at c.self.inside.slots.items session) ≡ b → get_or c.self.inside.latches.items c.args.page 0 ≡ 0 → edits_page c.args.page (work_at c.self.inside.slots.items session) ≡ false
    free session true e zero = absurd (omega (arith, zero, (c.self.invariant.held c.args.page session e).1))
    free session false e zero = e

pub index-requires-2 : goal.index-requires-2
index-requires-2 c =
    let inside : c.args.page < length c.self.inside.latches.items = omega (arith, c.requires, ap (λ (w : Works). w.pages) c.self.view_is) in
    let latch : c.index.result.now ≡ get_or c.self.inside.latches.items c.args.page 0 = c.index.ensures ∙ get_or_default c.self.inside.latches.items c.args.page c.index.result.now 0 inside in
    omega (arith, editing_slot c.self.inside.slots.items (c.index.result.now - 1) c.args.page (c.self.invariant.named c.args.page (c.index.result.now - 1) inside (omega (arith, latch, c.if-latch-eq0.false))))

pub returns : goal.returns
returns c =
    let inside : c.args.page < length c.self.inside.latches.items = omega (arith, c.requires, ap (λ (w : Works). w.pages) c.self.view_is) in
    let latch : c.index.result.now ≡ get_or c.self.inside.latches.items c.args.page 0 = c.index.ensures ∙ get_or_default c.self.inside.latches.items c.args.page c.index.result.now 0 inside in
    let edits = c.self.invariant.named c.args.page (c.index.result.now - 1) inside (omega (arith, latch, c.if-latch-eq0.false)) in
    let work : c.index-2.result.now ≡ work_at c.self.inside.slots.items (c.index.result.now - 1) = read_slot c.self.inside.slots.items (c.index.result.now - 1) c.index-2.result.now c.index-2.ensures (editing_slot c.self.inside.slots.items (c.index.result.now - 1) c.args.page edits) in
    c.other_item.ensures c.args.page (ap (edits_page c.args.page) work ∙ edits)
    ∙ ap (latched_by c.args.who c.args.page) work
    ∙ sym (holder_only c.args.who c.args.page c.self.inside.slots.items (c.index.result.now - 1) (λ other is. omega (arith, (c.self.invariant.held c.args.page other is).1, latch)))
    ∙ ap (λ (w : Works). latch_holder c.args.who c.args.page w.slots) c.self.view_is
