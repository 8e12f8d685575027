use Rattle.std.proofs.Common.{refl}
use Rattle.heap_file.proofs.Packing.{one_entry}
use Rattle.heap_file.proofs.appending.page_with.Goals as goal

pub returns : goal.returns
returns c = rw (c.in_ok-push.ensures.ok, c.new-entries.ensures) (refl, one_entry c.args.entry c.requires)
