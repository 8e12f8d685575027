use Rattle.store.proofs.Beside.{archive_beside}
use Rattle.store.proofs.Entering.{pages_stay}
use Rattle.store.proofs.shared.Store.enter.Goals as goal

pub returns : goal.returns
returns g c =
    let e = c.enter_desk.ensures in
    record {
      ready = c.requires;
      inside = e.inside;
      same = e.same.0;
      mine_stays = e.same.1;
      rises = e.held;
      acked = e.acked;
      opening = e.opening;
      stands = e.fits.0;
      keeps = e.fits.1;
      front = e.front;
      lines = e.lines;
      work = e.work;
      pages = pages_stay g.D.Disk.is_honest g.D.Disk.state c.enter_desk.result e.fits.0;
      beside = archive_beside g.D.Disk.is_honest g.D.Disk.state g.D.Disk.faults c.enter_desk.result _ e.beside;
    }
