use Rattle.std.proofs.Common.{◌≡◌, length, take}
use Rattle.heap_file.specs.HeapPage.{entry_bytes}
use Rattle.heap_file.proofs.page.entries_length.Given as goal

abbrev pub invariant-loop-entry : goal.invariant-loop-entry
invariant-loop-entry l = length (entry_bytes (take l.entry-index l.entries)) ≡ l.length
