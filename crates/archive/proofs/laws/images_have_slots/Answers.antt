use Rattle.std.proofs.Common.{◌∙◌}
use Rattle.block_file.proofs.Blocks.{image_settled}
use Rattle.archive.proofs.laws.images_have_slots.Goals as goal

pub returns : goal.returns
returns g c = λ disk vault image slots is slot none. image_settled (g.D.Disk.state disk) image slot is (slots.sure slot none) ∙ slots.reads slot
