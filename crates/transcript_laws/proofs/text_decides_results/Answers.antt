use Rattle.transcript_laws.proofs.TextLaws.{text_results}
use Rattle.transcript_laws.proofs.text_decides_results.Goals as goal

pub returns : goal.returns
returns c = text_results
