use Rattle.print_laws.specs.Spelt.{line_of}
use Rattle.print_laws.proofs.Spelling.{line_once, line_says}
use Rattle.print_laws.proofs.line_is_read.Goals as goal

pub returns : goal.returns
returns c = λ p h s. (line_says p h s, λ q w. line_once c.one_reading.ensures (line_of p) p q (line_says p h s) w)
