use Rattle.sql_lexer.proofs.OneReading.{one_reading}
use Rattle.sql_lexer.proofs.lexer.one_reading.Goals as goal

pub returns : goal.returns
returns c = λ line tokens others ending other d e. one_reading d e
