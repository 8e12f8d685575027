use Rattle.std.proofs.Common.{◌∙◌, ◌-◌, is_some, ap, arith}
use Rattle.copy_queue.specs.Pending.{Pending}
use Rattle.copy_queue.proofs.Finding.{any_met}
use Rattle.copy_queue.proofs.queue.CopyQueue.pends.Goals as goal

pub returns : goal.returns
returns c =
    let old : Pending = c.args.self.now in
    c.is_some.ensures ∙ ap is_some c.find.ensures ∙ any_met c.args.page old.images (c.self.inside.first - old.first) (omega (arith, ap (λ (p : Pending). p.first) c.self.view_is))
