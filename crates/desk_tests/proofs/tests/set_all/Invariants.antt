use Rattle.desk.specs.Desk.{IsWhole}
use Rattle.desk_tests.proofs.tests.set_all.Given as goal

abbrev pub invariant-loop-byte : goal.invariant-loop-byte
invariant-loop-byte g l = IsWhole g.D.Disk.is_honest g.D.Disk.state l.desk
