use Rattle.std.proofs.Common.{take}
use Rattle.pager.specs.Index.{AreOfKind}
use Rattle.index_page.proofs.paging.are_of_kind.Given as goal

abbrev pub invariant-loop-found : goal.invariant-loop-found
invariant-loop-found l = AreOfKind l.kind (take l.found-index l.entries)
