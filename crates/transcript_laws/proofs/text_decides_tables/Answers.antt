use Rattle.transcript_laws.proofs.TextLaws.{text_tables}
use Rattle.transcript_laws.proofs.text_decides_tables.Goals as goal

pub returns : goal.returns
returns c = text_tables
