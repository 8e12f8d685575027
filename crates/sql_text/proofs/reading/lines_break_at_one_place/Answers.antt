use Rattle.sql_text.proofs.Laws.{one_place}
use Rattle.sql_text.proofs.reading.lines_break_at_one_place.Goals as goal

pub returns : goal.returns
returns c = λ line a b first second. one_place c.one_reading.ensures line a b first second
