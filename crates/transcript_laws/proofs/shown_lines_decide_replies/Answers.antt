use Rattle.transcript_laws.proofs.Laws.{decide_replies}
use Rattle.transcript_laws.proofs.shown_lines_decide_replies.Goals as goal

pub returns : goal.returns
returns c = decide_replies
