use Rattle.std.proofs.Common.{ap, subst}
use Rattle.store.specs.Kept.{IsTableFor}
use Rattle.store.proofs.ByTable.{covers_so}
use Rattle.store.proofs.Recalled.{fault_on}
use Rattle.store.proofs.Recalling.{stays_on, waits_on}
use Rattle.store.proofs.recall.read_by.Goals as goal

pub returns-clause-same : goal.returns-clause-same
returns-clause-same g c = stays_on c.args.seat.now c.table_for-table.new.seat c.past-read.new.seat c.table_for-table.ensures.same c.past-read.ensures.same

pub returns-clause-waits : goal.returns-clause-waits
returns-clause-waits g c = waits_on c.args.seat.now c.table_for-table.new.seat c.past-read.new.seat c.table_for-table.ensures.same.same.number c.table_for-table.ensures.waits c.past-read.ensures.waits

pub returns-clause-covers : goal.returns-clause-covers
returns-clause-covers g c =
    let table = c.table_for-table.result in
    let is_for = subst (λ kept. IsTableFor kept c.args.snapshot table) c.take.ensures.value c.table_for-table.ensures.is_for in
    covers_so c.args.kept.now c.args.snapshot table c.past-read.new.table c.new.result is_for c.past-read.ensures.grows (ap (λ k. k.snapshot) c.new.ensures) (ap (λ k. k.table) c.new.ensures)

pub returns-clause-fault : goal.returns-clause-fault
returns-clause-fault g c = fault_on g.D.Disk.faults c.args.seat.now c.table_for-table.new.seat c.past-read.result c.table_for-table.ensures.same.same.opening c.past-read.ensures.fault

pub returns-clause-reads : goal.returns-clause-reads
returns-clause-reads g c =
    let table = c.table_for-table.result in
    record {
      table = table;
      is_for = subst (λ kept. IsTableFor kept c.args.snapshot table) c.take.ensures.value c.table_for-table.ensures.is_for;
      middle = c.table_for-table.new.seat;
      stays = c.table_for-table.ensures.same;
      reads = c.past-read.ensures.visits;
    }
