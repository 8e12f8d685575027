use Rattle.std.proofs.Common.{◌≡◌, take}
use Rattle.pager.specs.Draft.{drafted}
use Rattle.pager.specs.Pages.{Pages}
use Rattle.tree_index.specs.Work.{all_written}
use Rattle.tree_index.proofs.climb.store_all.Given as goal

abbrev pub invariant-edits : goal.invariant-edits
invariant-edits l = record {
  size : l.draft.size ≡ l.fn.draft.size;
  drafted : (pages : Pages) → drafted pages l.draft.list ≡ all_written (drafted pages l.fn.draft.list) (take l.met-index l.edits);
}
