use Rattle.std.proofs.Common.{◌≡◌, ◌≤◌, take}
use Rattle.std.specs.List.{AllByRecursion}
use Rattle.index_page.specs.IndexPage.{AreWritable, width}
use Rattle.tree_index.specs.Filling.{BelongsWith, IsFilled}
use Rattle.tree_index.proofs.filling.fill.Given as goal

abbrev pub invariant-entries : goal.invariant-entries
invariant-entries l = record {
  counted : l.count ≡ l.entry-index;
  belong : AllByRecursion (BelongsWith l.first l.way) (take l.entry-index l.entries);
  fills : IsFilled l.fn.held (take l.entry-index l.entries) l.held;
  writable : AreWritable l.held;
  taken : width l.held ≤ l.used;
  fits : l.used ≤ 1016;
}
