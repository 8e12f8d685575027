use Rattle.heap_file.proofs.Packing.{short_among}
use Rattle.heap_file.proofs.page.entry_bytes.Goals as goal

pub push_entry-requires : goal.push_entry-requires
push_entry-requires c =
    short_among c.args.entries.now c.loop-entry.entry-index c.entry-item.result c.requires c.loop-entry-test.true c.entry-item.is
