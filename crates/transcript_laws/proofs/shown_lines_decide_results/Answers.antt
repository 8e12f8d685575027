use Rattle.transcript_laws.proofs.Laws.{decide_results}
use Rattle.transcript_laws.proofs.shown_lines_decide_results.Goals as goal

pub returns : goal.returns
returns c = decide_results
