use Rattle.transcript_laws.proofs.Told.{tell_lines}
use Rattle.transcript_laws.proofs.text_tells_shown_lines.Goals as goal

pub returns : goal.returns
returns c = tell_lines
