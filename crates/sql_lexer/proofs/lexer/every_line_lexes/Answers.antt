use Rattle.sql_lexer.proofs.EveryLine.{every_line}
use Rattle.sql_lexer.proofs.lexer.every_line_lexes.Goals as goal

pub returns : goal.returns
returns c = every_line
