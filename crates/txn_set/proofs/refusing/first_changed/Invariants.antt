use Rattle.std.proofs.Common.{◌≡◌, ◌<◌}
use Rattle.std.specs.List.{AllByRecursion}
use Rattle.txn_set.specs.Refused.{first_changed}
use Rattle.txn_set.proofs.refusing.first_changed.Given as goal

abbrev pub invariant-loop-page : goal.invariant-loop-page
invariant-loop-page l = record {
  same : first_changed l.book.lines l.transaction l.page-iterator ≡ first_changed l.book.lines l.transaction l.transaction.reads.keys;
  within : AllByRecursion (λ page. page < l.book.pages) l.page-iterator;
}
