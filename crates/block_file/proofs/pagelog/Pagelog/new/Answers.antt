use Rattle.std.proofs.Common.{◌∙◌}
use Rattle.block_file.proofs.pagelog.Pagelog.new.Goals as goal

pub returns-clause-fills : goal.returns-clause-fills
returns-clause-fills g c = λ honest. g.met.D.Disk.sized c.args.disk honest ∙ c.requires.whole
