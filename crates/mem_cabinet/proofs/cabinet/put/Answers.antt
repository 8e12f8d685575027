use Rattle.std.proofs.Common.{Option, Some, slice_index_or, slice_set, ap, sym, subst, ◌∙◌}
use Rattle.disk_model.specs.Cabinet.{Stands}
use Rattle.disk_model.specs.declared.four.Four.{Four}
use Rattle.disk_mem.specs.Disks.{Device}
use Rattle.mem_cabinet.specs.Shelves.{shelf_of}
use Rattle.mem_cabinet.proofs.Shelved.{lay_there, put_there}
use Rattle.mem_cabinet.proofs.cabinet.put.Goals as goal

pub returns-clause-was : goal.returns-clause-was
returns-clause-was c =
    lay_there c.args.name.now c.args.shelves.now c.args.place c.index-shelves-place.result c.requires ∙ ap Some (sym c.replace.ensures.value)

pub returns-clause-stands : goal.returns-clause-stands
returns-clause-stands c =
    subst (λ (st : Option (Four Device)). Stands c.args.name.now (Some c.args.store) (shelf_of c.args.shelves.now)
    (shelf_of (slice_set c.args.shelves.now c.args.place (record { name = (slice_index_or c.args.shelves.now c.args.place c.index-shelves-place.result).name; store = st }))))
    (sym c.replace.ensures.after) (put_there c.args.name.now c.args.shelves.now c.args.place c.index-shelves-place.result c.args.store c.requires)
