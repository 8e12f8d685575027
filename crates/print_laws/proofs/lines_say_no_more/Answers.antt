use Rattle.print_laws.specs.Spelt.{line_of}
use Rattle.print_laws.proofs.Said.{said_has_limits, said_is_spellable}
use Rattle.print_laws.proofs.Spelling.{line_says}
use Rattle.print_laws.proofs.lines_say_no_more.Goals as goal

pub returns : goal.returns
returns c = λ p. (λ s. (said_has_limits s.0 p s.1, said_is_spellable s.0 p s.1), λ h. (line_of p, line_says p h.0 h.1))
