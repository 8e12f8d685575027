use Rattle.std.proofs.Common.{ℕ, refl, sym}
use Rattle.gate_log.specs.Cause.{IsDiskFault}
use Rattle.page_pool.specs.Side.{held}
use Rattle.store_core.specs.Calls.{has_released}
use Rattle.store_core.proofs.Faulted.{failed_same, no_fault, none_released, still_held}
use Rattle.store_core.proofs.desk_core.Core.record.Goals as goal

pub note-requires-clause-closes : goal.note-requires-clause-closes
note-requires-clause-closes g c = c.requires.closes c.in-DiskFault.device c.in-DiskFault.count

pub returns-in_default : goal.returns-in_default
returns-in_default g c =
    let none : IsDiskFault c.args.why → ⊥ = no_fault c.args.why c.in_default.not-DiskFault in
    record {
      rest = refl;
      file = refl;
      works = c.requires.works;
      ledger = sym (failed_same c.args.call c.args.who c.args.why c.args.self.now.ledger none);
      untouched = λ other. refl;
      held = λ page. still_held (held c.args.self.now.desk.pool page) (has_released c.args.who c.args.why page c.args.self.now.ledger) (none_released c.args.who c.args.why page c.args.self.now.ledger none);
      desk = λ plain is. is;
    }
