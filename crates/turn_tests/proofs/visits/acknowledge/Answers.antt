use Rattle.std.proofs.Common.{◌∙◌, ◌≤◌, length, sym, ap, subst}
use Rattle.history.specs.Lines.{lines_of}
use Rattle.turn.specs.Seats.{mine}
use Rattle.turn.specs.Views.{behind_desk}
use Rattle.turn_tests.specs.Meanings.{of_book}
use Rattle.turn_tests.proofs.visits.acknowledge.Goals as goal

pub returns-clause-ready : goal.returns-clause-ready
returns-clause-ready g c =
    let e = c.enter_desk-book.ensures in
    let old = c.enter_desk-book.result in
    let h = mine c.args.seat.now in
    let behind = c.leave_desk.ensures.mine old e.inside ∙ ap (behind_desk of_book old c.acknowledge.new.self) e.same.1 in
    let own = e.lines ∙ ap (λ n. lines_of n old.lines) (sym c.requires.ready.rests.seat.number) in
    let same = ap (λ x. x.lines) behind ∙ (ap (λ b. lines_of h.number b.lines) c.acknowledge.ensures ∙ sym own) in
    record { rests = c.leave_desk.ensures.rests; lines = subst (λ lines. c.args.lines ≤ length lines) (sym same) c.requires.ready.lines }

pub returns-clause-same : goal.returns-clause-same
returns-clause-same g c =
    let e = c.enter_desk-book.ensures in
    let old = c.enter_desk-book.result in
    let behind = c.leave_desk.ensures.mine old e.inside ∙ ap (behind_desk of_book old c.acknowledge.new.self) e.same.1 in
    record { number = c.leave_desk.ensures.same.0.number ∙ e.same.0.number; parts = ap (λ h. h.parts) behind }
