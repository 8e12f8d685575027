use Rattle.std.proofs.Common.{◌∙◌, List, Ok, ap, sym, ℕ}
use Rattle.session.proofs.Called.{combined_called, none_called, refused_called}
use Rattle.session.proofs.Retained.{all_pinned, empty_of, first_pinned}
use Rattle.session.proofs.calling.call_over.Goals as goal

pub returns-in-Err-clause-concludes : goal.returns-in-Err-clause-concludes
returns-in-Err-clause-concludes g c =
    rw c.of_query.ensures (refused_called c.args.call.now (g.S.Seat.is_honest c.args.seat) (g.S.Seat.view c.args.seat) c.args.marks.now c.in-Err.why c.requires.all c.in-Err.ensures.numbers)

pub combine_over-requires-clause-first : goal.combine_over-requires-clause-first
combine_over-requires-clause-first g c =
    first_pinned (g.S.Seat.view c.args.seat) c.in-Ok.numbers.items c.in-Some.first.now
    (all_pinned (g.S.Seat.view c.args.seat) c.args.marks.now c.in-Ok.numbers.items c.requires.looking_now c.requires.all c.in-Ok.ensures.retained)
    (sym (rw c.deref.ensures.value at c.in-Some.ensures.value))

pub combine_over-requires-clause-pinned : goal.combine_over-requires-clause-pinned
combine_over-requires-clause-pinned g c =
    rw c.deref-in-Some.ensures.value (all_pinned (g.S.Seat.view c.args.seat) c.args.marks.now c.in-Ok.numbers.items c.requires.looking_now c.requires.all c.in-Ok.ensures.retained)

pub returns-in-Some-clause-concludes : goal.returns-in-Some-clause-concludes
returns-in-Some-clause-concludes g c =
    combined_called c.args.call.now (g.S.Seat.is_honest c.args.seat) (g.S.Seat.view c.args.seat) (g.S.Seat.view c.combine_over.result.0) c.args.marks.now c.deref-in-Some.result.now c.combine_over.result.1 c.requires.all
    (c.in-Ok.ensures.numbers ∙ ap (λ (ns : List ℕ). Ok ns) (sym c.deref-in-Some.ensures.value)) c.combine_over.ensures.concludes

pub returns-clause-concludes : goal.returns-clause-concludes
returns-clause-concludes g c =
    none_called c.args.call.now (g.S.Seat.is_honest c.args.seat) (g.S.Seat.view c.args.seat) c.args.marks.now c.in-Ok.numbers.items c.combine_none.result c.requires.all c.in-Ok.ensures.numbers
    (empty_of c.in-Ok.numbers.items (rw c.deref.ensures.value at c.in-None.ensures.value)) (c.combine_none.ensures (g.S.Seat.view c.args.seat))
