use Rattle.std.proofs.Common.{ap, sym, arith, ◌∙◌}
use Rattle.history.specs.Lines.{lines_of}
use Rattle.store.proofs.Meeting.{own_in, ready_on, waits_so}
use Rattle.store.proofs.shared.Store.take_back.Goals as goal

pub returns-clause-ready : goal.returns-clause-ready
returns-clause-ready g c =
    let e = c.take_back.ensures in
    let s = c.args.seat.now in
    let own = own_in _ s c.take_back.new.seat c.requires.ready.0 e.agrees.journal e.fronts.0 e.agrees.begins (sym (ap (λ h. h.lines) e.seat) ∙ (e.agrees.own ∙ ap (λ n. lines_of n e.agrees.journal) e.same.number)) in
    ready_on _ s c.take_back.new.seat c.requires.ready.0 e.rests e.same.number e.same.opening (ap (λ h. h.lines) e.seat) (ap (λ h. h.work) e.seat) e.fronts.0 own

pub returns-clause-waits : goal.returns-clause-waits
returns-clause-waits g c =
    let e = c.take_back.ensures in
    let s = c.args.seat.now in
    waits_so _ s c.take_back.new.seat c.requires.ready.0 e.fronts.0
    (own_in _ s c.take_back.new.seat c.requires.ready.0 e.agrees.journal e.fronts.0 e.agrees.begins (sym (ap (λ h. h.lines) e.seat) ∙ (e.agrees.own ∙ ap (λ n. lines_of n e.agrees.journal) e.same.number)))

pub returns-clause-rises : goal.returns-clause-rises
returns-clause-rises g c = let h = c.take_back.ensures.held in (omega (arith, h), omega (arith, h))
