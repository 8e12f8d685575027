use Rattle.std.proofs.Common.{◌≡◌, ◌≤◌, ◌++◌, length, drop}
use Rattle.std.specs.List.{AllByRecursion}
use Rattle.heap_file.specs.HeapPage.{entry_bytes, IsEntry}
use Rattle.heap_file.proofs.entries.first_entries.Given as goal

abbrev pub invariant-read : goal.invariant-read
invariant-read l = record {
  count : length l.entries ≡ l.counter;
  lawful : AllByRecursion IsEntry l.entries;
  within : l.end ≤ length l.bytes;
  read : l.bytes ≡ entry_bytes l.entries ++ drop l.end l.bytes;
}
