-- How a transaction or a look ends, in the words of the store.
use Rattle.journal_law.specs.declared.seat.Ending.{Ending}
use Rattle.journal_law.specs.declared.seat.Ending.TheVariants as seat
use Rattle.txn_set.specs.declared.ending.Ending.{Ending as EndingOf}
use Rattle.txn_set.specs.declared.ending.Ending.TheVariants as ending

abbrev pub ending_of : Ending → EndingOf
ending_of seat.Asked = ending.Asked
ending_of (seat.Refused why) = ending.Refused why
ending_of (seat.Failed device count) = ending.Failed device count
