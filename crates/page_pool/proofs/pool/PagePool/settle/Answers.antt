use Rattle.disk_model.specs.Disk.{IsImage}
use Rattle.disk_model.proofs.Moments.{weaker}
use Rattle.page_pool.specs.Side.{HoldsSure}
use Rattle.page_pool.proofs.Steps.{image_holds}
use Rattle.page_pool.proofs.pool.PagePool.settle.Goals as goal

pub returns-in-Ok-clause-any_moment : goal.returns-in-Ok-clause-any_moment
returns-in-Ok-clause-any_moment g c =
    rw (← c.self.view_is)
    (λ now device loose dirty told is.
    let disk = c.self.inside.file.disk in
    weaker g.D.Disk.remembers (g.D.Disk.clock disk) (g.D.Disk.clock c.settle.new.self.disk) (IsImage (g.D.Disk.state disk)) (HoldsSure device loose) (image_holds (g.D.Disk.state disk) (g.D.Disk.state disk) c.self.inside.file.blocks c.self.inside.file.blocks device loose (is.reads told)) (c.settle.ensures.quiet told).any_moment)

pub returns-in-Err-clause-any_moment : goal.returns-in-Err-clause-any_moment
returns-in-Err-clause-any_moment g c =
    rw (← c.self.view_is)
    (λ now device loose dirty told is.
    let disk = c.self.inside.file.disk in
    weaker g.D.Disk.remembers (g.D.Disk.clock disk) (g.D.Disk.clock c.settle.new.self.disk) (IsImage (g.D.Disk.state disk)) (HoldsSure device loose) (image_holds (g.D.Disk.state disk) (g.D.Disk.state disk) c.self.inside.file.blocks c.self.inside.file.blocks device loose (is.reads told)) (c.settle.ensures.quiet told).any_moment)
