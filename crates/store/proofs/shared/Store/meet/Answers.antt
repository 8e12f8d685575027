use Rattle.std.proofs.Common.{ap, sym, arith, ◌∙◌}
use Rattle.history.specs.Lines.{lines_of}
use Rattle.store.proofs.Meeting.{own_in, ready_on, stays_same, waits_so, whole_stays}
use Rattle.store.proofs.shared.Store.meet.Goals as goal

pub returns-clause-ready : goal.returns-clause-ready
returns-clause-ready g c =
    let e = c.meet.ensures in (
      ready_on _ c.args.one.now c.meet.new.one c.requires.ready.0 e.rests.0 e.same.0.number e.same.0.opening (ap (λ h. h.lines) e.mine.0) (ap (λ h. h.work) e.mine.0) e.fronts.0 (own_in _ c.args.one.now c.meet.new.one c.requires.ready.0 e.agrees.0.journal e.fronts.0 e.agrees.0.begins (sym (ap (λ h. h.lines) e.mine.0) ∙ (e.agrees.0.own ∙ ap (λ n. lines_of n e.agrees.0.journal) e.same.0.number))),
      ready_on _ c.args.other.now c.meet.new.other c.requires.ready.1 e.rests.1 e.same.1.number e.same.1.opening (ap (λ h. h.lines) e.mine.1) (ap (λ h. h.work) e.mine.1) e.fronts.1 (own_in _ c.args.other.now c.meet.new.other c.requires.ready.1 e.agrees.1.journal e.fronts.1 e.agrees.1.begins (sym (ap (λ h. h.lines) e.mine.1) ∙ (e.agrees.1.own ∙ ap (λ n. lines_of n e.agrees.1.journal) e.same.1.number))),
    )

pub returns-clause-same : goal.returns-clause-same
returns-clause-same g c =
    let e = c.meet.ensures in
    let h = e.held.0 in
    let k = e.held.1 in
    (stays_same c.args.one.now c.meet.new.one e.same.0 e.mine.0 (omega (arith, h)), stays_same c.args.other.now c.meet.new.other e.same.1 e.mine.1 (omega (arith, h, k)))

pub returns-clause-waits : goal.returns-clause-waits
returns-clause-waits g c =
    let e = c.meet.ensures in (
      waits_so _ c.args.one.now c.meet.new.one c.requires.ready.0 e.fronts.0 (own_in _ c.args.one.now c.meet.new.one c.requires.ready.0 e.agrees.0.journal e.fronts.0 e.agrees.0.begins (sym (ap (λ h. h.lines) e.mine.0) ∙ (e.agrees.0.own ∙ ap (λ n. lines_of n e.agrees.0.journal) e.same.0.number))),
      waits_so _ c.args.other.now c.meet.new.other c.requires.ready.1 e.fronts.1 (own_in _ c.args.other.now c.meet.new.other c.requires.ready.1 e.agrees.1.journal e.fronts.1 e.agrees.1.begins (sym (ap (λ h. h.lines) e.mine.1) ∙ (e.agrees.1.own ∙ ap (λ n. lines_of n e.agrees.1.journal) e.same.1.number))),
    )

pub returns-clause-whole : goal.returns-clause-whole
returns-clause-whole g c =
    let e = c.meet.ensures in
    let h = e.held.0 in
    let k = e.held.1 in (
      λ w. whole_stays c.args.one.now c.meet.new.one (stays_same c.args.one.now c.meet.new.one e.same.0 e.mine.0 (omega (arith, h))) w,
      λ w. whole_stays c.args.other.now c.meet.new.other (stays_same c.args.other.now c.meet.new.other e.same.1 e.mine.1 (omega (arith, h, k))) w,
    )
