use Rattle.std.proofs.Common.{take}
use Rattle.plain_store.specs.Page.{AreWritten}
use Rattle.plain_store.proofs.pages.write_pages.Given as goal

abbrev pub invariant-loop-write : goal.invariant-loop-write
invariant-loop-write l = AreWritten (take l.write-index l.writes) l.fn.pages l.pages
