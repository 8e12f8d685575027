use Rattle.std.proofs.Common.{◌∙◌, ◌<◌, ◌≤◌, ◌+◌, length, sym, ap, subst, arith}
use Rattle.history.specs.declared.journal.FailedCall.TheVariants.{Read}
use Rattle.turn.specs.Faults.{line_fault}
use Rattle.history.specs.Lines.{lines_of}
use Rattle.turn.specs.Seats.{MayLeave, held, mine}
use Rattle.turn.specs.Views.{behind_desk}
use Rattle.turn_tests.specs.Makes.{Makes}
use Rattle.turn_tests.specs.Meanings.{is_quiet, of_book, of_start}
use Rattle.turn_tests.proofs.Leaving.{line_behind, may_add, more_lines, more_rises, told_by_desk}
use Rattle.turn_tests.proofs.visits.fail_in_desk.Goals as goal

pub leave_desk-requires : goal.leave_desk-requires
leave_desk-requires g c =
    let e = c.enter_desk-book.ensures in
    let old = c.enter_desk-book.result in
    let k = c.fail-count.result in
    let line = c.line_by.result in
    let h = mine c.args.seat.now in (
      old,
      e.inside,
      subst (λ m. MayLeave of_book of_start (held c.enter_desk-book.new.seat) m old c.add-added.new.self) (sym e.same.1)
          (may_add h (held c.enter_desk-book.new.seat) k line c.add-added.result old c.add-added.new.self c.requires.whole
          (ap (λ l. l.who.session) c.line_by.ensures ∙ (c.number-session.ensures ∙ sym c.requires.ready.rests.seat.number)) (ap (λ l. is_quiet l.what) c.line_by.ensures)
          (more_rises old.faults k c.fail-count.ensures.more (omega arith))
          (λ d n p. told_by_desk h.faults old.faults k Read c.fail-count.ensures.more d n (subst (λ l. 0 < line_fault d n l.what) c.line_by.ensures p)) e.fits e.acked
          (subst (λ b. Makes line c.add-added.result b c.add-added.new.self) c.fail-count.ensures.new c.add-added.ensures)),
    )

pub returns-clause-ready : goal.returns-clause-ready
returns-clause-ready g c =
    let e = c.enter_desk-book.ensures in
    let old = c.enter_desk-book.result in
    let new = c.add-added.new.self in
    let h = mine c.args.seat.now in
    let line = c.line_by.result in
    let number = c.requires.ready.rests.seat.number in
    let behind = c.leave_desk.ensures.mine old e.inside ∙ ap (behind_desk of_book old new) e.same.1 in
    let makes = subst (λ b. Makes line c.add-added.result b new) c.fail-count.ensures.new c.add-added.ensures in
    let is = line_behind line c.add-added.result old new h (mine c.leave_desk.new.seat) behind (e.lines ∙ ap (λ n. lines_of n old.lines) (sym number))
    (ap (λ l. l.who.session) c.line_by.ensures ∙ (c.number-session.ensures ∙ sym number)) makes.lines in
    record {
      rests = c.leave_desk.ensures.rests;
      lines = subst (λ n. c.args.lines + n ≤ length (mine c.leave_desk.new.seat).lines) (sym c.from.ensures)
          (more_lines c.args.lines line c.add-added.result h.lines (mine c.leave_desk.new.seat).lines c.requires.ready.lines is);
    }

pub returns-clause-same : goal.returns-clause-same
returns-clause-same g c =
    let e = c.enter_desk-book.ensures in
    let old = c.enter_desk-book.result in
    let behind = c.leave_desk.ensures.mine old e.inside ∙ ap (behind_desk of_book old c.add-added.new.self) e.same.1 in
    record { number = c.leave_desk.ensures.same.0.number ∙ e.same.0.number; parts = ap (λ h. h.parts) behind }
