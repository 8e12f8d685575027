use Rattle.std.proofs.Common.{List}
use Rattle.sql_lexer.specs.declared.token.Token.{Token}
use Rattle.sql_grammar.specs.declared.grammar.Rule.{Rule}
use Rattle.sql_grammar.specs.Machine.{Continues, rank}
use Rattle.sql_grammar.proofs.machine.Machine.settle.Given as goal

abbrev pub invariant-loop-symbol : goal.invariant-loop-symbol
invariant-loop-symbol l = (r : Rule) (so_far : List Token)
    → Continues r so_far l.class l.initial.self.expected l.initial.self.ops
    → Continues r so_far l.class l.self.expected l.self.ops

abbrev pub decreases-loop-symbol : goal.decreases-loop-symbol
decreases-loop-symbol l = rank l.self.expected
