use Rattle.std.proofs.lemmas.Result.{IfOk-weaker}
use Rattle.retro.proofs.FromEmpty.{is_blank, size_is}
use Rattle.retro.proofs.memory.zero_disk.Goals as goal

pub returns : goal.returns
returns c = record {
  size = IfOk-weaker c.new.result _ _ (λ disk is. size_is c.args.size disk is) c.new.ensures.ok;
  blank = IfOk-weaker c.new.result _ _ (λ disk is. is_blank c.args.size disk is) c.new.ensures.ok;
  wanting = c.new.ensures.err;
}
