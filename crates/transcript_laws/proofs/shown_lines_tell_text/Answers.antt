use Rattle.transcript_laws.proofs.Text.{tell_text}
use Rattle.transcript_laws.proofs.shown_lines_tell_text.Goals as goal

pub returns : goal.returns
returns c = tell_text
