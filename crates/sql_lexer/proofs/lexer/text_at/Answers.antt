use Rattle.std.proofs.Common.{arith}
use Rattle.sql_lexer.proofs.Steps.{bad_inside}
use Rattle.sql_lexer.proofs.lexer.text_at.Goals as goal

pub returns-then-not-is_printable : goal.returns-then-not-is_printable
returns-then-not-is_printable c = (
  omega arith,
  bad_inside _ _ _ (omega arith) c.loop-end.invariant.so_far c.loop-end.invariant.printable (λ p. let h = c.if-not-is_printable.ensures.1 p in absurd cc),
)
