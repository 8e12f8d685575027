use Rattle.std.proofs.Common.{◌≡◌, ◌≤◌, [], length, vec_capacity}
use Rattle.turn.specs.Seats.{AreNew}
use Rattle.turn.proofs.Ends.{undealt_view}
use Rattle.turn.proofs.turn.Turn.new.Given as goal

abbrev pub invariant-deal : goal.invariant-deal
invariant-deal g l = record {
  seated : l.first.table_id ≡ l.table.shared.table_id;
  deals : l.first.me ≡ (undealt_view (g.A.DeskValue.meaning.opening l.fn.desk) l.number l.seats, []);
  count : length l.all.items ≡ l.number;
  room : l.seats ≤ vec_capacity l.all;
  new : AreNew l.table.shared.table_id (g.A.DeskValue.meaning.opening l.fn.desk) l.all.items;
}
