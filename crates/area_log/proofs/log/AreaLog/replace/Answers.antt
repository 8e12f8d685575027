use Rattle.std.proofs.Common.{◌≡◌, ◌∙◌, ◌↔◌, ◌-◌, ℕ, IsTrue, sym, ap, subst, arith}
use Rattle.disk_model.specs.Moments.{LeavesOnly}
use Rattle.disk_model.proofs.Moments.{started, weaker}
use Rattle.gate_log.specs.Log.{Region}
use Rattle.gate_log.specs.Region.{IsOpen}
use Rattle.gate_log.proofs.Fills.{length-prepared}
use Rattle.gate_log.proofs.Results.{err_owes}
use Rattle.area_log.specs.Area.{Area, Holds, ListsEither, other_place, replaced}
use Rattle.area_log.proofs.Areas.{either_at_rest, holds_replaced_of, no_fault, replaced_is, rewriting_of}
use Rattle.area_log.proofs.log.AreaLog.replace.Goals as goal

-- nothing was written
pub returns-in-Some-clause-writes : goal.returns-in-Some-clause-writes
returns-in-Some-clause-writes g c = λ honest.
    let disk = c.args.disk.now in
    record {
      holds = λ bodies holds. tt;
      any_moment = λ bodies holds. started g.D.Disk.remembers (g.D.Disk.clock disk) _ (λ image left. either_at_rest c.args.self.now bodies _ (g.D.Disk.state disk) holds image (g.met.D.Disk.only_now disk image honest left));
    }

pub returns-in_err-prepared-clause-writes : goal.returns-in_err-prepared-clause-writes
returns-in_err-prepared-clause-writes g c = λ honest.
    let disk = c.args.disk.now in
    record {
      holds = λ bodies holds. err_owes c.from_residual.result _ _ c.from_residual.ensures.1;
      any_moment = λ bodies holds. started g.D.Disk.remembers (g.D.Disk.clock disk) _ (λ image left. either_at_rest c.args.self.now bodies _ (g.D.Disk.state disk) holds image (g.met.D.Disk.only_now disk image honest left));
    }

pub rewrite-requires-clause-room : goal.rewrite-requires-clause-room
rewrite-requires-clause-room g c =
    omega (arith, length-prepared c.in_ok-prepared.prepared c.next_after-generation.result c.args.bodies.now c.in_ok-prepared.ensures.ok, c.in_ok-prepared.ensures.fit)

pub returns-in-Ok-clause-log : goal.returns-in-Ok-clause-log
returns-in-Ok-clause-log g c =
    let bodies = c.args.bodies.now in
    let area : Area = record { log = c.self.inside.log; generation = c.self.inside.generation; is_other_open = c.self.inside.is_other_open; fault = c.self.inside.fault } in
    let is : area ≡ c.args.self.now = c.self.view_is in
    let log = c.in-Ok.ensures.log in
    let other : c.size-size.result - c.place.result ≡ other_place area = omega (arith, c.size-size.ensures, c.place.ensures) in
    record {
      is = sym (replaced_is area bodies c.in-Ok.log c.next_after-generation.result (ap (λ (l : Region). l.device) log ∙ c.device-device.ensures) (ap (λ (l : Region). l.place) log ∙ other) (ap (λ (l : Region). l.size) log ∙ c.size-size.ensures)
          (ap (λ (l : Region). l.gate) log ∙ length-prepared c.in_ok-prepared.prepared c.next_after-generation.result bodies c.in_ok-prepared.ensures.ok) c.next_after-generation.ensures c.in_default.is) ∙ ap (λ (a : Area). replaced a bodies) is;
      device = ap (λ (l : Region). l.device) log ∙ c.device-device.ensures ∙ ap (λ (a : Area). a.log.device) is;
      size = ap (λ (l : Region). l.size) log ∙ c.size-size.ensures ∙ ap (λ (a : Area). a.log.size) is;
      stopped = λ count some. absurd (no_fault area.fault count c.in_default.is (ap (λ (a : Area). a.fault) is ∙ some));
    }

pub returns-in-Ok-clause-writes : goal.returns-in-Ok-clause-writes
returns-in-Ok-clause-writes g c = λ honest.
    let disk = c.args.disk.now in
    let next = c.rewrite.new.disk in
    let state = g.D.Disk.state disk in
    let bodies = c.args.bodies.now in
    let area : Area = record { log = c.self.inside.log; generation = c.self.inside.generation; is_other_open = c.self.inside.is_other_open; fault = c.self.inside.fault } in
    let is : area ≡ c.args.self.now = c.self.view_is in
    let other : c.size-size.result - c.place.result ≡ other_place area = omega (arith, c.size-size.ensures, c.place.ensures) in
    let new = g.D.Disk.state next in
    let log = c.in-Ok.ensures.log in
    let done = replaced_is area bodies c.in-Ok.log c.next_after-generation.result (ap (λ (l : Region). l.device) log ∙ c.device-device.ensures) (ap (λ (l : Region). l.place) log ∙ other) (ap (λ (l : Region). l.size) log ∙ c.size-size.ensures)
    (ap (λ (l : Region). l.gate) log ∙ length-prepared c.in_ok-prepared.prepared c.next_after-generation.result bodies c.in_ok-prepared.ensures.ok) c.next_after-generation.ensures c.in_default.is in
    record {
      holds = λ old holds.
          let held : Holds area old state = subst (λ (a : Area). Holds a old state) (sym is) holds in
          subst (λ (a : Area). Holds a bodies new) done
          (holds_replaced_of area old state held bodies _ _ _ other c.size-size.ensures c.next_after-generation.ensures new
          (c.in-Ok.ensures.rewritten c.next_after-generation.result bodies c.in_ok-prepared.ensures.ok honest));
      any_moment = λ old holds.
          let held : Holds area old state = subst (λ (a : Area). Holds a old state) (sym is) holds in
          let gate = subst (λ (p : ℕ). IsTrue area.is_other_open ↔ IsOpen p state.seen) (sym other) held.other in
          subst (λ (a : Area). LeavesOnly g.D.Disk.remembers (g.D.Disk.clock disk) (g.D.Disk.clock next) (ListsEither a.log.size old bodies)) is
          (weaker g.D.Disk.remembers (g.D.Disk.clock disk) (g.D.Disk.clock next) _ _ (rewriting_of area old state held bodies _ _ _ other c.size-size.ensures c.next_after-generation.ensures)
          (c.in-Ok.ensures.any_moment c.next_after-generation.result bodies c.in_ok-prepared.ensures.ok honest held.durable gate));
    }

pub returns-clause-writes : goal.returns-clause-writes
returns-clause-writes g c = λ honest.
    let disk = c.args.disk.now in
    let next = c.rewrite.new.disk in
    let state = g.D.Disk.state disk in
    let bodies = c.args.bodies.now in
    let area : Area = record { log = c.self.inside.log; generation = c.self.inside.generation; is_other_open = c.self.inside.is_other_open; fault = c.self.inside.fault } in
    let is : area ≡ c.args.self.now = c.self.view_is in
    let other : c.size-size.result - c.place.result ≡ other_place area = omega (arith, c.size-size.ensures, c.place.ensures) in
    record {
      holds = λ old holds. tt;
      any_moment = λ old holds.
          let held : Holds area old state = subst (λ (a : Area). Holds a old state) (sym is) holds in
          let gate = subst (λ (p : ℕ). IsTrue area.is_other_open ↔ IsOpen p state.seen) (sym other) held.other in
          subst (λ (a : Area). LeavesOnly g.D.Disk.remembers (g.D.Disk.clock disk) (g.D.Disk.clock next) (ListsEither a.log.size old bodies)) is
          (weaker g.D.Disk.remembers (g.D.Disk.clock disk) (g.D.Disk.clock next) _ _ (rewriting_of area old state held bodies _ _ _ other c.size-size.ensures c.next_after-generation.ensures)
          (c.in-Err.ensures.any_moment c.next_after-generation.result bodies c.in_ok-prepared.ensures.ok honest held.durable gate));
    }
