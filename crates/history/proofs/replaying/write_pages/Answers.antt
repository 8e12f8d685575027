use Rattle.std.proofs.Common.{◌<◌, ◌∙◌, length, ap, arith}
use Rattle.history.specs.declared.writes.PageImage.{PageImage}
use Rattle.history.proofs.PageLists.{write_more, within_at}
use Rattle.history.proofs.replaying.write_pages.Goals as goal

pub loop-write-preserved : goal.loop-write-preserved
loop-write-preserved c =
    let within : c.write-item.result.page < length c.loop-write.pages =
    omega (arith, c.loop-write.auto.pages, ap (λ (w : PageImage). w.page) c.write-item.is, within_at (length c.args.pages.now) c.args.writes.now c.loop-write.write-index c.write-item.result c.requires c.loop-write-test.true) in
    λ page. write_more c.loop-write.pages c.args.writes.now c.loop-write.write-index c.write-item.result c.loop-write-test.true c.write-item.is within page ∙ c.loop-write.invariant page
