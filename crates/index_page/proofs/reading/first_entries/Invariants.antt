use Rattle.std.proofs.Common.{◌≡◌, ◌≤◌, ◌++◌, length, drop}
use Rattle.std.specs.List.{AllByRecursion}
use Rattle.pager.specs.Index.{IsFound}
use Rattle.index_page.specs.IndexPage.{entry_bytes}
use Rattle.index_page.proofs.reading.first_entries.Given as goal

abbrev pub invariant-read : goal.invariant-read
invariant-read l = record {
  count : length l.entries ≡ l.counter;
  lawful : AllByRecursion IsFound l.entries;
  within : l.end ≤ length l.bytes;
  read : l.bytes ≡ entry_bytes l.entries ++ drop l.end l.bytes;
}
