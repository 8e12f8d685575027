use Rattle.std.proofs.Common.{◌≡◌, drop, length}
use Rattle.journal_book.specs.Book.{marked}
use Rattle.journal_book.proofs.mark.mark.Given as goal

abbrev pub invariant-loop-write : goal.invariant-loop-write
invariant-loop-write l = record {
  same : marked l.table.items l.number (drop l.write-index l.writes) ≡ marked l.initial.table.items l.number l.writes;
  long : length l.table.items ≡ length l.initial.table.items;
}
