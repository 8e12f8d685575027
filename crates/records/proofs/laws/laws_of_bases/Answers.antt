use Rattle.records.proofs.Numbering.{numbered_stays, retained_between}
use Rattle.records.proofs.laws.laws_of_bases.Goals as goal

pub returns : goal.returns
returns c = record { numbered = numbered_stays; retained = retained_between }
