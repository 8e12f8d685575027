use Rattle.std.proofs.Common.{◌∙◌}
use Rattle.block_file.proofs.Blocks.{writes_long}
use Rattle.block_file.proofs.page_file.PageFile.write.Goals as goal

pub returns-clause-alone : goal.returns-clause-alone
returns-clause-alone g c = rw (← c.self.view_is) c.write_block.ensures.alone

pub returns-clause-fills : goal.returns-clause-fills
returns-clause-fills g c = λ honest. g.met.D.Disk.sized c.write_block.new.disk honest ∙ (c.write_block.ensures.same.size ∙ c.self.invariant)

pub returns-clause-long : goal.returns-clause-long
returns-clause-long g c = rw (← c.self.view_is) (λ honest. writes_long _ g.D.Disk.remembers g.D.Disk.state g.D.Disk.clock _ c.write_block.new.disk (c.write_block.ensures.alone honest))
