use Rattle.std.proofs.Common.{ltb, arith, rules}
use Rattle.std.proofs.lemmas.Bool.{ltb-true, ltb-false}
use Rattle.std.proofs.lemmas.List.Sorted.{IsPartitionPoint-from_clause}
use Rattle.history.specs.declared.writes.PageImage.{PageImage}
use Rattle.journal_book.proofs.EditLists.{parted}
use Rattle.plain_store.proofs.edits.place_of.Goals as goal

pub returns-clause-below : goal.returns-clause-below
returns-clause-below c =
    let point = IsPartitionPoint-from_clause (λ (image : PageImage). ltb image.page c.args.page) _ _ c.partition_point.ensures.partitioned (parted c.args.page c.args.images.now c.requires) (λ a r q k. search rules) in
    λ place d lt. ltb-true _ _ (point.0 place d (omega arith) lt)

pub returns-clause-others : goal.returns-clause-others
returns-clause-others c =
    let point = IsPartitionPoint-from_clause (λ (image : PageImage). ltb image.page c.args.page) _ _ c.partition_point.ensures.partitioned (parted c.args.page c.args.images.now c.requires) (λ a r q k. search rules) in
    λ place d le lt. ltb-false _ _ (point.1 place d le lt)
