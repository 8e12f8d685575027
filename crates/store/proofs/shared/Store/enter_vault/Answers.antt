use Rattle.std.proofs.Common.{IfSome, subst}
use Rattle.history.specs.Sound.{IsSound}
use Rattle.turn.specs.Seats.{seen}
use Rattle.store.specs.Sides.{IsVaultSide}
use Rattle.store.specs.Start.{opened_base}
use Rattle.store.proofs.Beside.{desk_beside_at}
use Rattle.store.proofs.shared.Store.enter_vault.Goals as goal

pub returns : goal.returns
returns g c =
    let e = c.enter_vault.ensures in
    record {
      ready = c.requires;
      inside = e.inside;
      same = e.same.0;
      mine_stays = e.same.1;
      front = e.front;
      lines = e.own;
      stands = λ start is. (subst (λ o. IfSome o (λ x. IsVaultSide g.D.Disk.is_honest g.D.Disk.state g.D.Disk.faults c.enter_vault.result x (seen c.enter_vault.new.seat))) is e.fits).0;
      sound = λ start is. subst (λ o. IfSome o (λ x. IsSound (opened_base x) (seen c.enter_vault.new.seat))) is e.lawful;
      later = λ start is. (subst (λ o. IfSome o (λ x. IsVaultSide g.D.Disk.is_honest g.D.Disk.state g.D.Disk.faults c.enter_vault.result x (seen c.enter_vault.new.seat))) is e.fits).1;
      held_is = e.held;
      rises = e.rises;
      beside = λ start is. desk_beside_at g.D.Disk.is_honest g.D.Disk.state g.D.Disk.faults c.enter_vault.result _ (seen c.enter_vault.new.seat) start is e.beside;
    }
