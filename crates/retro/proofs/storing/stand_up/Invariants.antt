use Rattle.std.proofs.Common.{◌≤◌, List, length}
use Rattle.std.specs.Prelude.{vec_capacity}
use Rattle.turn.specs.Tables.{table_of}
use Rattle.store.specs.declared.held.Held.{Held}
use Rattle.retro.specs.declared.slots.Slot.{Slot}
use Rattle.retro.proofs.Stored.{HaveRisen}
use Rattle.retro.proofs.storing.stand_up.Given as goal

abbrev pub invariant-loop-slots : goal.invariant-loop-slots
invariant-loop-slots g l = record {
  risen : (gone : List (Slot (Held g.row.R.Denot g.row.D.Denot))) × HaveRisen g.D.Disk.state g.D.Disk.faults (table_of l.fn.store.turn) l.fn.slots.items l.slots.items gone l.seats.items;
  room : length l.fn.slots.items ≤ vec_capacity l.seats;
}

abbrev pub decreases-loop-slots : goal.decreases-loop-slots
decreases-loop-slots g l = length l.slots.items
