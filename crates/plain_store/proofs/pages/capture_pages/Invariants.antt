use Rattle.std.proofs.Common.{take}
use Rattle.plain_store.specs.Page.{AreCaptured, MayChange}
use Rattle.plain_store.proofs.pages.capture_pages.Given as goal

abbrev pub invariant-loop-write : goal.invariant-loop-write
invariant-loop-write l = record {
  captured : AreCaptured l.newest l.fn.pages l.pages;
  may_change : MayChange l.newest l.pages (take l.write-index l.writes);
}
