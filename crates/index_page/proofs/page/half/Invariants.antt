use Rattle.std.proofs.Common.{◌≡◌, ◌≤◌, ◌+◌, ◌*◌, drop}
use Rattle.index_page.specs.IndexPage.{half, more_for_half}
use Rattle.index_page.proofs.page.half.Given as goal

abbrev pub invariant-loop-entry : goal.invariant-loop-entry
invariant-loop-entry l = record {
  so_far : half l.entries ≡ l.count + more_for_half l.total l.filled (drop l.entry-index l.entries);
  count : l.count ≡ l.entry-index;
  short : l.filled ≤ 217 * l.entry-index;
}
