use Rattle.sql_text.proofs.Laws.{says_nothing}
use Rattle.sql_text.proofs.reading.broken_lines_say_nothing.Goals as goal

pub returns : goal.returns
returns c = λ line place p broken spelt. says_nothing c.one_reading.ensures line place p broken spelt
