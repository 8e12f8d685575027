use Rattle.std.proofs.Common.{ap, sym, subst, ◌∙◌}
use Rattle.turn.proofs.Fronts.{prefix_self}
use Rattle.turn.specs.Seats.{seen}
use mathlib.Core.List.{IsPrefix}
use Rattle.history.specs.Lines.{lines_of}
use Rattle.store.proofs.Meeting.{ready_on}
use Rattle.store.proofs.shared.Store.lend.Goals as goal

pub returns-clause-ready : goal.returns-clause-ready
returns-clause-ready g c =
    let e = c.lend.ensures in
    let s = c.args.seat.now in (
      ready_on _ s c.lend.new.seat c.requires.ready e.rests.0 e.same.0.number e.same.0.opening (ap (λ h. h.lines) e.seat) (ap (λ h. h.work) e.seat) (subst (IsPrefix (seen s)) (sym e.same.1) (prefix_self (seen s))) (c.requires.ready.lines ∙ ap (lines_of s.number) (sym e.same.1)),
      ready_on _ s c.lend.result c.requires.ready e.rests.1 (sym e.rests.1.seat.number ∙ (ap (λ h. h.number) e.helper.0 ∙ c.requires.ready.rests.seat.number)) e.helper.3 (ap (λ h. h.lines) e.helper.0) (ap (λ h. h.work) e.helper.0) (subst (IsPrefix (seen s)) (sym e.helper.1) (prefix_self (seen s)))
          (c.requires.ready.lines ∙ ap (lines_of s.number) (sym e.helper.1)),
    )
