use Rattle.std.proofs.Common.{◌≡◌, ◌<◌, ◌≤◌, ℕ, Ok, length}
use Rattle.retro.specs.Slots.{answered_at, seat_at}
use Rattle.session.specs.Replies.{kept_at_place}
use Rattle.retro.proofs.slots.answers.Given as goal

abbrev pub invariant-loop-number : goal.invariant-loop-number
invariant-loop-number g l = record {
  count : length l.slots ≡ length l.initial.slots;
  seats : (n : ℕ) → seat_at l.slots n ≡ seat_at l.initial.slots n;
  long : length l.kept ≡ l.number;
  rest : (n : ℕ) → l.number ≤ n → answered_at l.slots n ≡ answered_at l.initial.slots n;
  so_far : (n : ℕ) → n < l.number → answered_at l.initial.slots n ≡ Ok (kept_at_place l.kept n);
}
