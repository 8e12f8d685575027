use Rattle.std.proofs.Common.{◌≡◌, ◌≤◌, ℕ, length}
use Rattle.retro.specs.Slots.{AllCome, view_at}
use Rattle.retro.specs.Steps.{HasMetEach}
use Rattle.retro.proofs.phases.meet_each.Given as goal

abbrev pub invariant-loop-number : goal.invariant-loop-number
invariant-loop-number g l = record {
  come : AllCome g.S.Seat.view g.S.Seat.goes l.initial.slots l.slots;
  met : HasMetEach (view_at g.S.Seat.view l.initial.slots) (view_at g.S.Seat.view l.slots) (length l.initial.slots) l.number;
  rest : (n : ℕ) → l.number ≤ n → view_at g.S.Seat.view l.slots n ≡ view_at g.S.Seat.view l.initial.slots n;
}
