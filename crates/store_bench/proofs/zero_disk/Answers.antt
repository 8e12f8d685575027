use Rattle.std.proofs.Common.{◌∙◌, ap, length}
use Rattle.std.proofs.lemmas.List.{length-replicate}
use Rattle.std.proofs.lemmas.Result.{IfOk-weaker}
use Rattle.store_bench.proofs.zero_disk.Goals as goal

pub returns : goal.returns
returns c = IfOk-weaker c.new.result _ _ (λ disk is. ap length is ∙ length-replicate c.args.size 0) c.new.ensures.ok
