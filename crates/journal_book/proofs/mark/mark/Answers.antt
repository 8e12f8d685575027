use Rattle.std.proofs.Common.{◌∙◌, length, arith, ap}
use Rattle.std.proofs.lemmas.List.{length-set}
use Rattle.history.specs.declared.writes.PageImage.{PageImage}
use Rattle.history.proofs.PageLists.{within_at}
use Rattle.journal_book.proofs.Ends.{mark_more}
use Rattle.journal_book.proofs.mark.mark.Goals as goal

pub index_mut-requires : goal.index_mut-requires
index_mut-requires c =
    omega (arith, c.loop-write.invariant.long, ap (λ (w : PageImage). w.page) c.write-item.is, within_at (length c.args.table.now.items) c.args.writes.now c.loop-write.write-index c.write-item.result c.requires c.loop-write-test.true)

pub loop-write-preserved : goal.loop-write-preserved
loop-write-preserved c = record {
  same = mark_more c.loop-write.table.items c.args.number c.args.writes.now c.loop-write.write-index c.write-item.result c.loop-write-test.true c.write-item.is ∙ c.loop-write.invariant.same;
  long = length-set c.loop-write.table.items c.write-item.result.page c.args.number ∙ c.loop-write.invariant.long;
}
