use Rattle.transcript_laws.proofs.ScriptNames.{have_names}
use Rattle.transcript_laws.proofs.scripts_have_names.Goals as goal

pub returns : goal.returns
returns c = have_names
