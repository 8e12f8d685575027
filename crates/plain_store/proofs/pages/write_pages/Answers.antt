use Rattle.std.proofs.Common.{◌<◌, ◌∙◌, [], length, take, ap, arith}
use Rattle.history.specs.declared.writes.PageImage.{PageImage}
use Rattle.history.proofs.PageLists.{within_at}
use Rattle.plain_store.specs.Page.{PlainPage}
use Rattle.plain_store.proofs.Stored.{next_write, same_at, written_step}
use Rattle.plain_store.proofs.pages.write_pages.Goals as goal

pub loop-write-preserved : goal.loop-write-preserved
loop-write-preserved c =
    let write = c.write-item.result in
    let pages = c.loop-write.pages in
    let within : write.page < length pages =
    omega (arith, c.loop-write.auto.pages, ap (λ (w : PageImage). w.page) c.write-item.is, within_at (length c.args.pages.now) c.args.writes.now c.loop-write.write-index write c.requires c.loop-write-test.true) in
    rw (next_write c.args.writes.now c.loop-write.write-index write c.loop-write-test.true c.write-item.is)
    (written_step c.args.pages.now pages (take c.loop-write.write-index c.args.writes.now) write c.put.new.self c.loop-write.invariant within
    (c.put.ensures ∙ ap (λ (p : PlainPage). record p { bytes = write.bytes }) (same_at pages write.page c.index-pages-write.result (record { bytes = []; past = [] }) within)))
