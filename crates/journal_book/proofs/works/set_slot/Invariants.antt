use Rattle.std.proofs.Common.{◌≡◌, ◌<◌, length, vec_capacity}
use Rattle.journal_book.specs.Works.{with_work}
use Rattle.journal_book.proofs.works.set_slot.Given as goal

abbrev pub invariant-loop : goal.invariant-loop
invariant-loop l = record {
  long : length l.slots.items ≡ l.counter;
  room : l.session < vec_capacity l.slots;
  same : with_work l.slots.items l.session l.work ≡ with_work l.fn.slots.items l.session l.work;
}
