use Rattle.transcript_laws.proofs.TextLaws.{text_replies}
use Rattle.transcript_laws.proofs.text_decides_replies.Goals as goal

pub returns : goal.returns
returns c = text_replies
