use Rattle.std.proofs.Common.{◌∙◌}
use Rattle.block_file.proofs.Blocks.{nothing_long}
use Rattle.block_file.proofs.pagelog.Pagelog.settle.Goals as goal

pub returns-clause-fills : goal.returns-clause-fills
returns-clause-fills g c = λ honest. g.met.D.Disk.sized c.settle.new.disk honest ∙ (c.settle.ensures.same.size ∙ c.self.invariant.1)

pub returns-clause-long : goal.returns-clause-long
returns-clause-long g c = rw (← c.self.view_is) (λ honest. nothing_long g.D.Disk.remembers g.D.Disk.state g.D.Disk.clock _ c.settle.new.disk (c.settle.ensures.quiet honest))
