use Rattle.retro_base.specs.declared.device.Device.{Device}
use Rattle.std.proofs.Common.{◌≡◌, ℕ, ◌*◌, [], List, ◌++◌, length}
use Rattle.turn.specs.declared.seat.SeatOver.{SeatOver}
use Rattle.turn.specs.declared.view.Place.TheVariants.{Outside}
use Rattle.turn.specs.Rule.{told_times}
use Rattle.turn.specs.Seats.{AreWhole, Covers, told_to}
use Rattle.turn.specs.Views.{PARTS, parts_of}
use Rattle.turn.proofs.turn.Turn.gather.Given as goal

abbrev pub invariant-gather : goal.invariant-gather
invariant-gather g l = record {
  seated : l.all.table_id ≡ l.self.table.shared.table_id;
  outside : (l.all.me.0.desk ≡ Outside) × (l.all.me.0.vault ≡ Outside) × (l.all.me.1 ≡ []);
  rest : AreWhole l.self.table.shared.table_id l.seats.items;
  done : (done : List (SeatOver _ _ _ _)) × (l.fn.seats.items ≡ l.seats.items ++ done) × (parts_of l.all.me.0 ≡ PARTS * length done) × ((d : Device) (c : ℕ) → told_times d c l.all.me.0 ≡ told_to d c done) × Covers g.A.Opening.Opening.meaning g.A.DeskValue.meaning g.B.VaultValue.meaning l.all.me.0 done;
}

abbrev pub decreases-gather : goal.decreases-gather
decreases-gather g l = length l.seats.items
