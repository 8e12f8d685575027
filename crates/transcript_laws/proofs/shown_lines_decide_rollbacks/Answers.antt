use Rattle.transcript_laws.proofs.Laws.{decide_rollbacks}
use Rattle.transcript_laws.proofs.shown_lines_decide_rollbacks.Goals as goal

pub returns : goal.returns
returns c = decide_rollbacks
