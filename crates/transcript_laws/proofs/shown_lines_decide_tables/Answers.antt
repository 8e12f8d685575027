use Rattle.transcript_laws.proofs.Laws.{decide_tables}
use Rattle.transcript_laws.proofs.shown_lines_decide_tables.Goals as goal

pub returns : goal.returns
returns c = decide_tables
