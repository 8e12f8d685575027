use Rattle.std.proofs.Common.{◌≡◌, ◌/◌, ◌<◌, ℕ, ap, subst, arith}
use Rattle.std.proofs.lemmas.Bool.{false≢true}
use Rattle.disk_model.proofs.Moments.{weaker}
use Rattle.gate_log.specs.Region.{IsOpen}
use Rattle.gate_log.proofs.Fills.{length-prepared}
use Rattle.gate_log.proofs.Results.{err_owes}
use Rattle.area_log.specs.Regions.{DeviceLists}
use Rattle.area_log.proofs.Made.{made, making, second_closed, zero_shut}
use Rattle.area_log.proofs.log.AreaLog.make.Goals as goal

pub rewrite-requires-clause-room : goal.rewrite-requires-clause-room
rewrite-requires-clause-room g c =
    omega (arith, length-prepared c.in_ok-prepared.prepared 1 c.args.bodies.now c.in_ok-prepared.ensures.ok, c.in_ok-prepared.ensures.fit)

pub returns-in_err-_log-clause-makes : goal.returns-in_err-_log-clause-makes
returns-in_err-_log-clause-makes g c = λ honest.
    let disk = c.args.disk.now in
    let next = c.rewrite.new.disk in
    let bodies = c.args.bodies.now in
    let size = c.size-size.result / 2 in
    let some : 0 < size = omega (arith, c.size-size.ensures, c.requires.least) in
    record {
      lists = λ zeros. err_owes c.from_residual-in_err-_log.result _ _ c.from_residual-in_err-_log.ensures.1;
      first = err_owes c.from_residual-in_err-_log.result _ _ c.from_residual-in_err-_log.ensures.1;
      shut = λ zeros. err_owes c.from_residual-in_err-_log.result _ _ c.from_residual-in_err-_log.ensures.1;
      durable = err_owes c.from_residual-in_err-_log.result _ _ c.from_residual-in_err-_log.ensures.1;
      any_moment = λ zeros durable.
          weaker g.D.Disk.remembers (g.D.Disk.clock disk) (g.D.Disk.clock next) _ _
          (λ image step. making size (g.D.Disk.extent disk) bodies (g.D.Disk.state disk).seen image zeros some (ap (λ (n : ℕ). n / 2) c.size-size.ensures) step)
          (c.in_err-_log.ensures.any_moment 1 bodies c.in_ok-prepared.ensures.ok honest durable
          (λ opens. absurd (false≢true opens), λ is. absurd (zero_shut (g.D.Disk.extent disk) (g.D.Disk.state disk).seen zeros 0 is)));
    }

pub returns-clause-makes : goal.returns-clause-makes
returns-clause-makes g c = λ honest.
    let disk = c.args.disk.now in
    let next = c.rewrite.new.disk in
    let old = g.D.Disk.state disk in
    let new = g.D.Disk.state next in
    let bodies = c.args.bodies.now in
    let size = c.size-size.result / 2 in
    let some : 0 < size = omega (arith, c.size-size.ensures, c.requires.least) in
    let half : size ≡ g.D.Disk.extent disk / 2 = ap (λ (n : ℕ). n / 2) c.size-size.ensures in
    let rewritten = c.in_ok-_log.ensures.rewritten 1 bodies c.in_ok-prepared.ensures.ok honest in
    record {
      lists = λ zeros. subst (λ (s : ℕ). DeviceLists s bodies new.seen) half (made size (g.D.Disk.extent disk) bodies old new zeros some rewritten);
      first = rewritten.filled.under;
      shut = λ zeros. subst (λ (s : ℕ). IsOpen s new.seen → ⊥) half (second_closed size (g.D.Disk.extent disk) bodies old new zeros some rewritten);
      durable = rewritten.durable;
      any_moment = λ zeros durable.
          weaker g.D.Disk.remembers (g.D.Disk.clock disk) (g.D.Disk.clock next) _ _ (λ image step. making size (g.D.Disk.extent disk) bodies old.seen image zeros some half step)
          (c.in_ok-_log.ensures.any_moment 1 bodies c.in_ok-prepared.ensures.ok honest durable
          (λ opens. absurd (false≢true opens), λ is. absurd (zero_shut (g.D.Disk.extent disk) old.seen zeros 0 is)));
    }
