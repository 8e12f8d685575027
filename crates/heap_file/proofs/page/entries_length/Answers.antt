use Rattle.std.proofs.Common.{arith}
use Rattle.std.proofs.lemmas.Bool.{leb-true}
use Rattle.heap_file.proofs.Packing.{length-taken, short_among}
use Rattle.heap_file.proofs.page.entries_length.Goals as goal

pub entry_length-length-requires : goal.entry_length-length-requires
entry_length-length-requires c =
    short_among c.args.entries.now c.loop-entry.entry-index c.entry-item.result c.requires.entries c.loop-entry-test.true c.entry-item.is

pub overflow_add-length : goal.overflow_add-length
overflow_add-length c =
    omega (arith, c.loop-entry.invariant, length-taken c.args.entries.now c.loop-entry.entry-index, leb-true _ _ c.requires.fits, c.entry_length-length.ensures.short)
