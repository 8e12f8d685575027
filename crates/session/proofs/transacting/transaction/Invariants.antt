use Rattle.std.proofs.Common.{◌≡◌, ◌+◌, ℕ, Option}
use Rattle.retro_base.specs.declared.who.Who.{Who}
use Rattle.session.specs.Plan.{Item}
use Rattle.session.specs.Sql.{sql}
use Rattle.session.specs.Attempts.{OverlapsFit}
use Rattle.session.specs.Transacting.{HasEnded, HasTried, Stands, item_for}
use Rattle.session.proofs.transacting.transaction.Given as goal

abbrev pub invariant-loop-attempts : goal.invariant-loop-attempts
invariant-loop-attempts g l = record {
  ended : HasEnded (g.S.Seat.view l.fn.seat) (g.S.Seat.view l.seat);
  goes : g.S.Seat.goes l.fn.seat l.seat;
  has_tried : (size : ℕ) (items : Who → Option Item) → g.S.Seat.is_honest l.fn.seat → OverlapsFit (sql size) items → Stands size items l.who (item_for l.names l.transaction) (g.S.Seat.view l.fn.seat)
      → (count : ℕ) → count + 1 ≡ l._attempts → HasTried size items l.who (item_for l.names l.transaction) (g.S.Seat.view l.fn.seat) (g.S.Seat.view l.seat) count l.tried;
}
