use Rattle.std.proofs.Common.{◌≡◌, ◌++◌, ◌≤◌, length}
use Rattle.std.specs.Prelude.{vec_capacity}
use Rattle.turn.specs.Tables.{table_of}
use Rattle.retro.specs.Storing.{AreHeld}
use Rattle.retro.proofs.storing.sit_down.Given as goal

abbrev pub invariant-loop-seat : goal.invariant-loop-seat
invariant-loop-seat g l = record {
  split : l.yielded ++ l.seat-iterator.rest.items ≡ l.fn.seats.items;
  held : AreHeld g.D.Disk.state g.D.Disk.faults (table_of l.fn.store.turn) l.yielded l.slots.items;
  room : length l.fn.seats.items ≤ vec_capacity l.slots;
}
