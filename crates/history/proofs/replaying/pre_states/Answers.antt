use Rattle.std.proofs.Common.{length, ap, arith}
use Rattle.history.specs.declared.writes.PageImage.{PageImage}
use Rattle.history.proofs.PageLists.{within_at}
use Rattle.history.proofs.replaying.pre_states.Goals as goal

pub bounds-pages-write : goal.bounds-pages-write
bounds-pages-write c =
    omega (arith, ap (λ (w : PageImage). w.page) c.write-item.is, within_at (length c.args.pages.now) c.args.writes.now c.loop-write.write-index c.write-item.result c.requires c.loop-write-test.true)
