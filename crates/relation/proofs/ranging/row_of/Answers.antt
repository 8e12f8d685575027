use Rattle.std.proofs.Common.{◌∙◌, sym}
use Rattle.heap_file.proofs.Ways.{row-none, row-placed}
use Rattle.relation.proofs.ranging.row_of.Goals as goal

pub returns-in-Some : goal.returns-in-Some
returns-in-Some c =
    rw c.as_slice.ensures
    (row-placed c.args.number c.args.link.now.held.entries c.in-Some.place c.index-as_slice-place.result (sym c.place_of.ensures ∙ c.in-Some.is))

pub returns-in-None : goal.returns-in-None
returns-in-None c =
    row-none c.args.number c.args.link.now.held.entries (sym c.place_of.ensures ∙ c.in-None.is)
