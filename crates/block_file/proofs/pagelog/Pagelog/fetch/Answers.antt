use Rattle.std.proofs.Common.{◌∙◌}
use Rattle.block_file.proofs.pagelog.Pagelog.fetch.Goals as goal

pub returns-clause-fills : goal.returns-clause-fills
returns-clause-fills g c = λ honest. g.met.D.Disk.sized c.read_block.new.disk honest ∙ (c.read_block.ensures.same.size ∙ c.self.invariant.1)
