use Rattle.sql_text.proofs.Lexing.{stand_in_line}
use Rattle.sql_text.proofs.reading.parse_lexed.Goals as goal

pub read-requires-clause-places : goal.read-requires-clause-places
read-requires-clause-places c = stand_in_line c.args.line.now c.args.lexed.tokens c.args.lexed.ending c.requires.lexed
