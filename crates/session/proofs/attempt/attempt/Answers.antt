use Rattle.std.proofs.Common.{◌∙◌, sym, ap}
use Rattle.journal_law.specs.Seats.{View}
use Rattle.session.specs.Transacting.{ends_so}
use Rattle.session.proofs.Transacted.{have_run_there, tells_one, then_cut, then_ends, then_run}
use Rattle.session.proofs.attempt.attempt.Goals as goal

pub returns-in-Ok-clause-ends : goal.returns-in-Ok-clause-ends
returns-in-Ok-clause-ends g c honest size items overlaps stands begun =
    let goes = rw (c.new-pager.ensures.seat, c.new-pager.ensures.asked, c.new-pager.ensures.kept, ← c.into_seat-seat.ensures) at c.do_lines-ran.ensures.goes in
    let have = have_run_there size (g.S.Seat.view c.new-pager.result.seat).opened.base.page_count c.args.t.now.statements c.as_slice.result.now (g.S.Seat.view c.new-pager.result.seat) (g.S.Seat.view c.args.seat) (g.S.Seat.view c.do_lines-ran.new.pager.seat)
    (g.S.Seat.view c.into_seat-seat.result) c.new-pager.result.asked c.do_lines-ran.new.pager.asked c.do_lines-ran.new.text.items c.do_lines-ran.result (g.S.Seat.is_honest c.new-pager.result.seat) (g.S.Seat.is_honest c.do_lines-ran.new.pager.seat)
    ((g.S.Seat.honest_stays _ _ c.do_lines-ran.ensures.goes.0).0 (rw c.new-pager.ensures.seat honest)) c.new-pager.ensures.asked c.as_slice.ensures (ap g.S.Seat.view c.new-pager.ensures.seat) (ap g.S.Seat.view (sym c.into_seat-seat.ensures))
    (begun.trying.attempt, begun.trying.is_open, begun.edits) (ap (λ (v : View). v.opened.base.page_count) (ap g.S.Seat.view c.new-pager.ensures.seat) ∙ stands.sized)
    (c.do_lines-ran.ensures.gives (λ p base one other t u. tells_one _ _ base one other t.1 u.1)) in
    then_ends size items c.args.who c.args.names.now c.args.t.now (g.S.Seat.view c.args.seat) (g.S.Seat.view c.into_seat-seat.result) c.do_lines-ran.new.pager.kept c.do_lines-ran.new.pager.asked c.do_lines-ran.new.text.items c.do_lines-ran.result stands overlaps begun
    c.requires.began goes.1 have (g.S.Seat.view c.finish-tried.new.seat) c.finish-tried.result
    (c.finish-tried.ensures.ends size items
    (then_run size items c.args.who c.args.names.now c.args.t.now (g.S.Seat.view c.args.seat) (g.S.Seat.view c.into_seat-seat.result) c.do_lines-ran.new.pager.kept c.do_lines-ran.new.pager.asked c.do_lines-ran.new.text.items c.do_lines-ran.result stands overlaps begun
    c.requires.began goes.1 have (ap (ends_so c.do_lines-ran.result) (sym c.kept-kept.ensures) ∙ sym c.in-Ok.ensures)))

pub returns-in-Err-clause-goes : goal.returns-in-Err-clause-goes
returns-in-Err-clause-goes g c =
    let goes = rw (c.new-pager.ensures.seat, ← c.into_seat-seat.ensures) at c.do_lines-ran.ensures.goes in
    g.S.Seat.goes_on _ _ _ goes.0 c.give_up-tried.ensures.goes

pub returns-in-Err-clause-ended : goal.returns-in-Err-clause-ended
returns-in-Err-clause-ended g c =
    let goes = rw (c.new-pager.ensures.seat, c.new-pager.ensures.asked, c.new-pager.ensures.kept, ← c.into_seat-seat.ensures) at c.do_lines-ran.ensures.goes in
    let still = goes.1.attempt c.requires.began.attempt c.requires.began.is_open in
    let gave = c.give_up-tried.ensures.gives still.attempt still.is_open in
    record { idle = gave.work_is; session = gave.moves.session ∙ goes.1.moves.session }

pub returns-in-Err-clause-ends : goal.returns-in-Err-clause-ends
returns-in-Err-clause-ends g c honest size items overlaps stands begun =
    let goes = rw (c.new-pager.ensures.seat, c.new-pager.ensures.asked, c.new-pager.ensures.kept, ← c.into_seat-seat.ensures) at c.do_lines-ran.ensures.goes in
    let have = have_run_there size (g.S.Seat.view c.new-pager.result.seat).opened.base.page_count c.args.t.now.statements c.as_slice.result.now (g.S.Seat.view c.new-pager.result.seat) (g.S.Seat.view c.args.seat) (g.S.Seat.view c.do_lines-ran.new.pager.seat)
    (g.S.Seat.view c.into_seat-seat.result) c.new-pager.result.asked c.do_lines-ran.new.pager.asked c.do_lines-ran.new.text.items c.do_lines-ran.result (g.S.Seat.is_honest c.new-pager.result.seat) (g.S.Seat.is_honest c.do_lines-ran.new.pager.seat)
    ((g.S.Seat.honest_stays _ _ c.do_lines-ran.ensures.goes.0).0 (rw c.new-pager.ensures.seat honest)) c.new-pager.ensures.asked c.as_slice.ensures (ap g.S.Seat.view c.new-pager.ensures.seat) (ap g.S.Seat.view (sym c.into_seat-seat.ensures))
    (begun.trying.attempt, begun.trying.is_open, begun.edits) (ap (λ (v : View). v.opened.base.page_count) (ap g.S.Seat.view c.new-pager.ensures.seat) ∙ stands.sized)
    (c.do_lines-ran.ensures.gives (λ p base one other t u. tells_one _ _ base one other t.1 u.1)) in
    then_cut size items c.args.who c.args.names.now c.args.t.now (g.S.Seat.view c.args.seat) (g.S.Seat.view c.into_seat-seat.result) c.do_lines-ran.new.pager.kept c.do_lines-ran.new.pager.asked c.do_lines-ran.new.text.items c.do_lines-ran.result stands overlaps begun
    c.requires.began goes.1 have (g.S.Seat.view c.give_up-tried.new.seat) c.in-Err.why c.give_up-tried.result c.do_lines-ran.ensures.stops (ap (ends_so c.do_lines-ran.result) (sym c.kept-kept.ensures) ∙ sym c.in-Err.ensures)
    c.give_up-tried.ensures.gives c.give_up-tried.ensures.told
