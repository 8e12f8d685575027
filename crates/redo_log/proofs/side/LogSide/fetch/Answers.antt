use Rattle.redo_log.specs.Side.{LogSide}
use Rattle.redo_log.proofs.Sides.{side_of}
use Rattle.redo_log.proofs.side.LogSide.fetch.Goals as goal

pub returns-in-Ok-clause-side : goal.returns-in-Ok-clause-side
returns-in-Ok-clause-side g c = λ other.
    let side : LogSide g.row.D.Denot = record { disk = c.fetch.new.disk; log = c.in-Ok.log } in
    side_of g.D.Disk.is_honest g.D.Disk.state side c.in-Ok.list other c.in-Ok.ensures.read.known c.in-Ok.ensures.read.going (λ told. (c.in-Ok.ensures.fetched (c.fetch.ensures.same.honest.1 told)).keeps)
