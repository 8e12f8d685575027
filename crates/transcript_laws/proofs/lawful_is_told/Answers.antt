use Rattle.transcript_laws.proofs.TextLaws.{lawful_told}
use Rattle.transcript_laws.proofs.lawful_is_told.Goals as goal

pub returns : goal.returns
returns c = lawful_told
