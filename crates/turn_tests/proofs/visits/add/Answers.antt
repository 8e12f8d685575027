use Rattle.std.proofs.Common.{◌∙◌, ◌++◌, ◌∷◌, [], ◌+◌, ◌≤◌, take, length, sym, ap, subst, arith, ◌<◌}
use Rattle.retro_base.specs.declared.device.Device.TheVariants.{Log}
use Rattle.turn.specs.Faults.{desk_faults, line_fault}
use Rattle.history.specs.Lines.{lines_of}
use Rattle.turn.specs.Seats.{MayLeave, held, mine}
use Rattle.turn.specs.Views.{behind_desk}
use Rattle.turn_tests.specs.Meanings.{is_quiet, of_book, of_start, only}
use Rattle.turn_tests.specs.Ready.{line_by}
use Rattle.turn_tests.proofs.Leaving.{line_behind, may_add, more_lines, told_before}
use Rattle.turn_tests.proofs.visits.add.Goals as goal

pub leave_desk-requires : goal.leave_desk-requires
leave_desk-requires g c =
    let e = c.enter_desk-book.ensures in
    let old = c.enter_desk-book.result in
    let h = mine c.args.seat.now in (
      old,
      e.inside,
      subst (λ m. MayLeave of_book of_start (held c.enter_desk-book.new.seat) m old c.add-added.new.self) (sym e.same.1)
          (may_add h (held c.enter_desk-book.new.seat) old.faults c.line_by-line.result c.add-added.result old c.add-added.new.self c.requires.whole (ap (λ l. l.who.session) c.line_by-line.ensures ∙ (c.number.ensures ∙ sym c.requires.ready.rests.seat.number)) (ap (λ l. is_quiet l.what) c.line_by-line.ensures ∙ c.requires.quiet) (omega arith)
          (λ d k p. told_before h.faults (desk_faults (only Log old.faults) (only Log old.faults)) d k (c.requires.told d k (subst (λ l. 0 < line_fault d k l.what) c.line_by-line.ensures p))) e.fits e.acked c.add-added.ensures),
    )

pub returns-clause-line : goal.returns-clause-line
returns-clause-line g c =
    let e = c.enter_desk-book.ensures in
    let old = c.enter_desk-book.result in
    let new = c.add-added.new.self in
    let h = mine c.args.seat.now in
    let line = c.line_by-line.result in
    let number = c.requires.ready.rests.seat.number in
    let behind = c.leave_desk.ensures.mine old e.inside ∙ ap (behind_desk of_book old new) e.same.1 in
    let is = line_behind line c.add-added.result old new h (mine c.leave_desk.new.seat) behind (e.lines ∙ ap (λ n. lines_of n old.lines) (sym number))
    (ap (λ l. l.who.session) c.line_by-line.ensures ∙ (c.number.ensures ∙ sym number)) c.add-added.ensures.lines in
    let same = c.line_by-line.ensures ∙ ap (λ n. line_by n c.args.item c.args.what) c.number.ensures in
    is ∙ (λ i. h.lines ++ take (sym c.from.ensures i) (same i ∷ []))

pub returns-clause-ready : goal.returns-clause-ready
returns-clause-ready g c =
    let e = c.enter_desk-book.ensures in
    let old = c.enter_desk-book.result in
    let new = c.add-added.new.self in
    let h = mine c.args.seat.now in
    let line = c.line_by-line.result in
    let number = c.requires.ready.rests.seat.number in
    let behind = c.leave_desk.ensures.mine old e.inside ∙ ap (behind_desk of_book old new) e.same.1 in
    let is = line_behind line c.add-added.result old new h (mine c.leave_desk.new.seat) behind (e.lines ∙ ap (λ n. lines_of n old.lines) (sym number))
    (ap (λ l. l.who.session) c.line_by-line.ensures ∙ (c.number.ensures ∙ sym number)) c.add-added.ensures.lines in
    record {
      rests = c.leave_desk.ensures.rests;
      lines = subst (λ n. c.args.lines + n ≤ length (mine c.leave_desk.new.seat).lines) (sym c.from.ensures)
          (more_lines c.args.lines line c.add-added.result h.lines (mine c.leave_desk.new.seat).lines c.requires.ready.lines is);
    }

pub returns-clause-same : goal.returns-clause-same
returns-clause-same g c =
    let e = c.enter_desk-book.ensures in
    let old = c.enter_desk-book.result in
    let behind = c.leave_desk.ensures.mine old e.inside ∙ ap (behind_desk of_book old c.add-added.new.self) e.same.1 in
    record { number = c.leave_desk.ensures.same.0.number ∙ e.same.0.number; parts = ap (λ h. h.parts) behind }
