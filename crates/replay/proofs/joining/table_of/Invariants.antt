use Rattle.std.proofs.Common.{◌≡◌, ◌<◌, ◌||◌, ℕ, drop, length}
use Rattle.std.specs.List.{AllByRecursion}
use Rattle.history.specs.Writes.{is_among}
use Rattle.replay.proofs.Tables.{has}
use Rattle.replay.proofs.joining.table_of.Given as goal

abbrev pub invariant-loop-page : goal.invariant-loop-page
invariant-loop-page l = record {
  whole : length l.table.items ≡ l.page_count;
  within : AllByRecursion (λ page. page < l.page_count) (drop l.page-index l.pages);
  told : (page : ℕ) → (has l.table.items page || is_among page (drop l.page-index l.pages)) ≡ is_among page l.pages;
}
