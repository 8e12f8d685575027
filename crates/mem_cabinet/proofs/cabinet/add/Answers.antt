use Rattle.std.proofs.Common.{List, None, Some, refl, subst, sym}
use Rattle.disk_model.specs.Cabinet.{Stands}
use Rattle.mem_cabinet.specs.Shelves.{shelf_of}
use Rattle.mem_cabinet.specs.declared.cabinet.Shelf.{Shelf}
use Rattle.mem_cabinet.proofs.Shelved.{shelf_made}
use Rattle.mem_cabinet.proofs.cabinet.add.Goals as goal

pub returns-clause-ok : goal.returns-clause-ok
returns-clause-ok c =
    let shelf : Shelf = record { name = c.in_ok-name.name; store = None } in
    subst (λ (l : List Shelf). Stands c.args.name.now (Some None) (shelf_of c.args.shelves.now.items) (shelf_of l)) (sym c.in_ok-push.ensures.items)
    (shelf_made c.args.name.now c.args.shelves.now.items shelf c.in_ok-name.ensures.ok refl c.requires)
