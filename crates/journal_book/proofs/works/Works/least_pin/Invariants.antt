use Rattle.std.proofs.Common.{◌≡◌, drop}
use Rattle.journal_book.specs.Works.{least_pin, lesser}
use Rattle.journal_book.proofs.works.Works.least_pin.Given as goal

abbrev pub invariant-loop-slot : goal.invariant-loop-slot
invariant-loop-slot l = lesser l.least (least_pin (drop l.slot-index l.slot-items)) ≡ least_pin l.self.slots
