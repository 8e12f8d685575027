use Rattle.std.proofs.Common.{rules}
use Rattle.turn.specs.Seats.{mine}
use Rattle.turn.proofs.Cuts.{lends}
use Rattle.turn.proofs.turn.Turn.lend.Goals as goal

pub split_seat-helper-requires : goal.split_seat-helper-requires
split_seat-helper-requires g c = let r = c.requires.rests in
    (r.seat.table, search rules, lends _ _ _ _ _ _ (mine c.args.seat.now) c.args.seat.now.seat.me.0 r.desk r.vault r.seat.one c.requires.room)
