use Rattle.std.proofs.Common.{◌∙◌, sym, ap, subst}
use Rattle.turn.specs.Seats.{MayLeave, held}
use Rattle.store.specs.Sides.{of_desk}
use Rattle.store.specs.Start.{of_start}
use Rattle.store.proofs.Beside.{archive_beside}
use Rattle.store.proofs.Entering.{same_side, visited}
use Rattle.store.proofs.shared.Store.leave.Goals as goal

pub leave_desk-requires : goal.leave_desk-requires
leave_desk-requires g c =
    let r = c.requires in
    (r.1, r.2.inside, subst (λ m. MayLeave (of_desk g.D.Disk.is_honest g.D.Disk.state g.D.Disk.faults) (of_start g.D.Disk.faults) (held c.args.seat.now) m r.1 c.args.side) (sym r.2.mine_stays) r.3)

pub returns : goal.returns
returns g c = λ old before entered.
    let r = c.requires in
    let e = c.leave_desk.ensures in
    let is_it = same_side g.D.Disk.is_honest g.D.Disk.state g.D.Disk.faults _ old c.args.seat.now before entered r.1 r.2.inside in
    visited g.D.Disk.is_honest g.D.Disk.state g.D.Disk.faults _ old c.args.seat.now before entered c.leave_desk.new.seat c.args.side e.rests e.same.0 e.same.1 e.seen (e.mine before entered.inside) (r.3.opening ∙ ap (λ d. d.start) is_it) r.3.fits.0
    (archive_beside g.D.Disk.is_honest g.D.Disk.state g.D.Disk.faults c.args.side _ e.beside)
