use Rattle.std.proofs.Common.{sym}
use Rattle.mem_cabinet.proofs.Shelved.{is_away, lay_there, no_shelf}
use Rattle.mem_cabinet.proofs.cabinet.is_out.Goals as goal

pub returns-in-Some : goal.returns-in-Some
returns-in-Some c =
    let shelf = c.index-shelves-place.result in
    let at = lay_there c.args.name.now c.args.shelves.now c.in-Some.place shelf (sym c.in-Some.ensures) in
    is_away _ _ c.is_none.result c.is_none.ensures at

pub returns-in-None : goal.returns-in-None
returns-in-None c = (λ no. absurd cc, λ out. let none = no_shelf c.args.name.now c.args.shelves.now (sym c.in-None.ensures) in absurd cc)
