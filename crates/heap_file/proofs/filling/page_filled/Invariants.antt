use Rattle.std.proofs.Common.{◌≡◌, ◌<◌, ◌+◌, ◌^◌, ◌++◌, length, take}
use Rattle.heap_file.specs.Filling.{entries_from}
use Rattle.heap_file.specs.HeapPage.{IsHeapPage, entry_bytes}
use Rattle.heap_file.proofs.filling.page_filled.Given as goal

abbrev pub invariant-loop-count : goal.invariant-loop-count
invariant-loop-count l = record {
  held : l.held ≡ record l.fn.held { entries = l.fn.held.entries ++ entries_from l.number (take l.count l.rows) };
  lawful : IsHeapPage l.held;
  length : length (entry_bytes l.held.entries) ≡ l.length;
  numbers : l.number + l.count < 2 ^ 64;
}
