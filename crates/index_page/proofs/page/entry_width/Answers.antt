use Rattle.std.proofs.Common.{arith}
use Rattle.index_page.proofs.Packing.{length-entry}
use Rattle.index_page.proofs.page.entry_width.Goals as goal

pub returns-clause-width : goal.returns-clause-width
returns-clause-width c =
    omega (arith, length-entry (record { value = c.args.value.now; number = c.args.number; page = c.args.page }), c.value_width.ensures.width)

pub returns-clause-lawful : goal.returns-clause-lawful
returns-clause-lawful c = record { value = c.value_width.ensures.lawful; number = omega arith; page = omega arith }
