use Rattle.print_laws.specs.Printed.{printed}
use Rattle.print_laws.proofs.Lines.{printed_says}
use Rattle.print_laws.proofs.Once.{says_once}
use Rattle.print_laws.proofs.printed_is_read.Goals as goal

pub returns : goal.returns
returns c = λ p h. (printed_says p h, λ q s. says_once (printed p) p q (printed_says p h) s)
