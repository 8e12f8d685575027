use Rattle.std.proofs.Common.{◌≡◌, ◌++◌, ◌-◌, drop, length}
use Rattle.history.specs.Replayed.{page_in}
use Rattle.replay.specs.Opened.{slot_images}
use Rattle.replay.proofs.opened.images_of.Given as goal

abbrev pub invariant-loop-number : goal.invariant-loop-number
invariant-loop-number l =
    l.images.items ++ slot_images (page_in l.slots) (length l.slots) l.number (drop (l.number - l.low) l.pages) ≡ slot_images (page_in l.slots) (length l.slots) l.mappings.low l.mappings.pages
