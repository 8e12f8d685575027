use Rattle.store.proofs.Moments.{beside_opens}
use Rattle.store.proofs.Recovery.{closed_shows, opening_shows, opens_shown}
use Rattle.store.proofs.Within.{left_opens}
use Rattle.store.proofs.laws.laws_of_crashes.Goals as goal

pub returns-clause-opening : goal.returns-clause-opening
returns-clause-opening g c = opening_shows g.D.Disk.is_honest g.D.Disk.state

pub returns-clause-opens : goal.returns-clause-opens
returns-clause-opens g c = opens_shown

pub returns-clause-closed : goal.returns-clause-closed
returns-clause-closed g c = closed_shows g.D.Disk.is_honest g.D.Disk.state g.D.Disk.faults

pub returns-clause-within : goal.returns-clause-within
returns-clause-within g c = left_opens g.D.Disk.is_honest g.D.Disk.state

pub returns-clause-beside : goal.returns-clause-beside
returns-clause-beside g c = beside_opens g.D.Disk.is_honest g.D.Disk.state g.D.Disk.faults
