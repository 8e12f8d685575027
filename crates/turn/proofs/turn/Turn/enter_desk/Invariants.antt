use Rattle.std.proofs.Common.{◌≡◌, ℕ, ◌%◌, []}
use Rattle.turn.specs.declared.view.Place.TheVariants.{Waits}
use Rattle.turn.proofs.turn.Turn.enter_desk.Given as goal

abbrev pub invariant-loop : goal.invariant-loop
invariant-loop g l =
    (l.seat.number ≡ l.fn.seat.number) × (l.seat.seat.table_id ≡ l.fn.seat.seat.table_id) × (l.seat.seat.id ≡ l.fn.seat.seat.id)
    × ((n : ℕ) × (l.ticket ≡ n % 18446744073709551616) × (l.seat.seat.me ≡ (record l.fn.seat.seat.me.0 { desk = Waits n }, [])))
