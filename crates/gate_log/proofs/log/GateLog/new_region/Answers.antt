use Rattle.std.proofs.Common.{◌≡◌, ℕ, length, IfOk, subst, arith}
use Rattle.gate_log.specs.Region.{gate_behind}
use Rattle.gate_log.proofs.Fills.{length-prepared}
use Rattle.gate_log.proofs.log.GateLog.new_region.Goals as goal

pub fill-requires-clause-room : goal.fill-requires-clause-room
fill-requires-clause-room g c =
    omega (arith, length-prepared c.in_ok-prepared.prepared c.args.generation c.args.bodies.now c.in_ok-prepared.ensures.ok, c.in_ok-prepared.ensures.fit, c.requires.least)

pub returns-clause-log : goal.returns-clause-log
returns-clause-log g c =
    let bodies = c.args.bodies.now in
    let gate : length c.in_ok-prepared.prepared ≡ gate_behind bodies = length-prepared c.in_ok-prepared.prepared c.args.generation bodies c.in_ok-prepared.ensures.ok in
    subst (λ (n : ℕ). IfOk c.fill.result (λ log. log ≡ record { device = c.args.device; place = c.args.place; size = c.args.size; gate = n })) gate c.fill.ensures.log
