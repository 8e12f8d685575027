use Rattle.std.proofs.Common.{take}
use Rattle.std.specs.List.{AllByRecursion}
use Rattle.records.specs.Entries.{WriteFits}
use Rattle.redo_log.proofs.fits.writes_fit.Given as goal

abbrev pub invariant-loop-write : goal.invariant-loop-write
invariant-loop-write l = AllByRecursion (WriteFits l.fn.version) (take l.write-index l.writes)
