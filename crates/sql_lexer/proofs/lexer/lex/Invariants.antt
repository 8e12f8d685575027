use Rattle.std.proofs.Common.{◌-◌, ◌≤◌, ◌++◌, List, length, drop}
use Rattle.sql_lexer.specs.declared.token.Placed.{Placed}
use Rattle.sql_lexer.specs.declared.token.Ending.{Ending}
use Rattle.sql_lexer.specs.Lexes.{Lexes}
use Rattle.sql_lexer.proofs.lexer.lex.Given as goal

abbrev pub invariant-loop-place : goal.invariant-loop-place
invariant-loop-place l = record {
  within : l.place ≤ length l.line;
  goes_on : (tokens : List Placed) (ending : Ending) → Lexes l.place (drop l.place l.line) tokens ending → Lexes 0 l.line (l.tokens ++ tokens) ending;
}

abbrev pub decreases-loop-place : goal.decreases-loop-place
decreases-loop-place l = length l.line - l.place
