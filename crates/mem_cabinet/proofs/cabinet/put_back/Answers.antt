use Rattle.std.proofs.Common.{◌≡◌, List, Some, arith, length, subst, sym}
use Rattle.disk_model.specs.Cabinet.{Stands}
use Rattle.mem_cabinet.specs.Shelves.{shelf_of}
use Rattle.mem_cabinet.specs.declared.cabinet.Shelf.{Shelf}
use Rattle.mem_cabinet.proofs.Shelved.{whole_again}
use Rattle.mem_cabinet.proofs.cabinet.put_back.Goals as goal

pub returns : goal.returns
returns c =
    let items : List Shelf = c.args.shelves.now.items in
    let kept = c.put.auto.shelves in
    let value = c.deref_mut.ensures.value in
    let same : length c.put.new.shelves ≡ length items = omega arith in
    subst (λ (l : List Shelf). Stands c.args.name.now (Some (Some c.args.store)) (shelf_of items) (shelf_of l)) (sym (whole_again items c.put.new.shelves c.args.shelves.now.len (omega arith) same))
    (subst (λ (l : List Shelf). Stands c.args.name.now (Some (Some c.args.store)) (shelf_of l) (shelf_of c.put.new.shelves)) value c.put.ensures.stands)
