use Rattle.std.proofs.Common.{◌≡◌, take}
use Rattle.index_page.specs.IndexPage.{entry_bytes}
use Rattle.index_page.proofs.page.entry_bytes.Given as goal

abbrev pub invariant-loop-entry : goal.invariant-loop-entry
invariant-loop-entry l = l.bytes.items ≡ entry_bytes (take l.entry-index l.entries)
