use Rattle.std.proofs.Common.{◌≤◌, subst}
use Rattle.store.proofs.Beside.{desk_beside}
use Rattle.store.proofs.Visiting.{same_archive, visited_vault}
use Rattle.store.proofs.shared.Store.leave_vault.Goals as goal

pub leave_vault-requires : goal.leave_vault-requires
leave_vault-requires g c = let r = c.requires in (r.1, r.2.inside, r.3)

pub returns-clause-visited : goal.returns-clause-visited
returns-clause-visited g c = λ old before entered.
    let r = c.requires in
    let e = c.leave_vault.ensures in
    visited_vault g.D.Disk.is_honest g.D.Disk.state g.D.Disk.faults _ old c.args.seat.now before entered c.leave_vault.new.seat c.args.archive e.rests e.same.0 e.same.1 e.held (e.mine before entered.inside) (subst (λ a. a.side.held ≤ c.args.archive.side.held) (same_archive g.D.Disk.is_honest g.D.Disk.state g.D.Disk.faults _ old c.args.seat.now before entered r.1 r.2.inside) r.3.held) (λ start is. (r.3.fits start is).0)
    (λ start is. desk_beside g.D.Disk.is_honest g.D.Disk.state g.D.Disk.faults c.args.archive _ _ start is e.beside)
