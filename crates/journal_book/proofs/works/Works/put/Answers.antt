use Rattle.std.proofs.Common.{◌≡◌, ◌∙◌, Some, sym, ap, subst}
use Rattle.journal_book.specs.Works.{Works, AreLatches, edits_of, work_at, with_work}
use Rattle.journal_book.proofs.Slots.{latches_same}
use Rattle.journal_book.proofs.works.Works.put.Goals as goal
use Rattle.std.proofs.Common.{[], Result, Ok, Err, OnOk, OnErr}
use Rattle.std.specs.declared.alloc.AllocError.{AllocError}

pub invariant_of-self : goal.invariant_of-self
invariant_of-self c = filled c.set_slot.result c.set_slot.ensures.done c.set_slot.ensures.refused where
  idle : edits_of (work_at c.self.inside.slots.items c.args.session) ≡ []
  idle = ap (λ (w : Works). edits_of (work_at w.slots c.args.session)) c.self.view_is ∙ c.requires.idle

  filled : (r : Result (Unit {0}) AllocError) → OnOk r (c.set_slot.new.slots.items ≡ with_work c.self.inside.slots.items c.args.session (Some c.args.work)) → OnErr r (c.set_slot.new.slots.items ≡ c.self.inside.slots.items)
      → AreLatches c.self.inside.latches.items c.set_slot.new.slots.items
  filled (Ok x) done refused = subst (AreLatches c.self.inside.latches.items) (sym done) (latches_same c.self.inside.latches.items c.self.inside.slots.items c.args.session (Some c.args.work) c.self.invariant (c.requires.nothing ∙ sym idle))
  filled (Err e) done refused = subst (AreLatches c.self.inside.latches.items) (sym refused) c.self.invariant
