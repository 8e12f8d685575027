use Rattle.std.proofs.Common.{◌≡◌, ◌≤◌, ◌*◌, take}
use Rattle.std.specs.List.{AllByRecursion}
use Rattle.pager.specs.Index.{IsFound}
use Rattle.index_page.specs.IndexPage.{width}
use Rattle.index_page.proofs.page.width.Given as goal

abbrev pub invariant-loop-entry : goal.invariant-loop-entry
invariant-loop-entry l = record {
  counted : l.width ≡ width (take l.entry-index l.entries);
  lawful : AllByRecursion IsFound (take l.entry-index l.entries);
  short : l.width ≤ 217 * l.entry-index;
}
