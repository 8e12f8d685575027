use Rattle.std.proofs.Common.{◌≡◌, take}
use Rattle.journal_law.specs.Seats.{Idle}
use Rattle.session.specs.Plan.{Plan}
use Rattle.session.specs.Run.{IsReady, IsSessionOf}
use Rattle.session.specs.SoFar.{SoFar}
use Rattle.session.proofs.passing.run_session.Given as goal

abbrev pub invariant-loop-index : goal.invariant-loop-index
invariant-loop-index g l =
    let start = g.S.Seat.view l.initial.seat in
    let size = start.opened.base.page_count in
    record {
      idle : (g.S.Seat.view l.seat).work ≡ Idle;
      session : (g.S.Seat.view l.seat).session ≡ start.session;
      goes : g.S.Seat.goes l.initial.seat l.seat;
      so_far : g.S.Seat.is_honest l.initial.seat → (plan : Plan) → IsSessionOf plan l.phase l.place l.names l.tasks → IsReady size plan l.phase start →
          SoFar size plan l.phase l.names start (g.S.Seat.view l.seat) (take l.index l.tasks) l.progress;
    }
