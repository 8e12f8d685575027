use Rattle.std.proofs.Common.{◌≡◌, ◌+◌, ◌≤◌, ◌<◌, ◌^◌, ◌∷◌, [], ◌++◌, ℕ, List, length, true, sym, ap, subst, arith}
use Rattle.disk_model.proofs.Moments.{started}
use Rattle.gate_log.specs.Appending.{after_append}
use Rattle.gate_log.specs.Cause.{HasRoom}
use Rattle.gate_log.specs.Log.{Region, HoldsBodies}
use Rattle.gate_log.proofs.Appends.{untouched, staged, opened, holds_more}
use Rattle.gate_log.proofs.Framing.{length-piece}
use Rattle.gate_log.proofs.Results.{err_owes}
use Rattle.gate_log.proofs.log.GateLog.append.Goals as goal

pub returns-then-free-needed-clause-appends : goal.returns-then-free-needed-clause-appends
returns-then-free-needed-clause-appends g c = λ honest.
    let log = c.args.self.now in
    let disk = c.args.disk.now in
    let fits : log.place + log.size ≤ length (g.D.Disk.state disk).seen = omega (arith, c.requires, g.met.D.Disk.sized disk honest) in
    record {
      holds = λ bodies holds. tt;
      durable = tt;
      any_moment = λ bodies holds.
          started g.D.Disk.remembers (g.D.Disk.clock disk) _ (λ image left. untouched log bodies c.args.framed.now (g.D.Disk.state disk) holds fits image (g.met.D.Disk.only_now disk image honest left));
    }

pub put_durably-requires : goal.put_durably-requires
put_durably-requires g c =
    let long = ap (λ (l : List ℕ). length l) c.as_bytes-piece.ensures in
    omega (arith, c.requires, long, length-piece c.args.framed.now, c.end-gate.ensures, c.free-free.ensures, c.if-free-needed.false, c.len-needed.ensures.same)

pub returns-in_err-put_durably-clause-appends : goal.returns-in_err-put_durably-clause-appends
returns-in_err-put_durably-clause-appends g c = λ honest.
    let log = c.args.self.now in
    let disk = c.args.disk.now in
    let short : length c.args.framed.now < 2 ^ 32 = omega (arith, c.len-needed.ensures.same, c.len-needed.ensures.short) in
    let room : HasRoom log (length c.args.framed.now) = omega (arith, c.if-free-needed.false, c.free-free.ensures, c.len-needed.ensures.same) in
    let fits : log.place + log.size ≤ length (g.D.Disk.state disk).seen = omega (arith, c.requires, g.met.D.Disk.sized disk honest) in
    record {
      holds = λ bodies holds. err_owes c.from_residual.result _ _ c.from_residual.ensures.1;
      durable = err_owes c.from_residual.result _ _ c.from_residual.ensures.1;
      any_moment = λ bodies holds.
          staged log bodies c.args.framed.now c.as_bytes-piece.result.now c.end-gate.result (g.D.Disk.state disk) holds short room fits c.end-gate.ensures c.as_bytes-piece.ensures
          g.D.Disk.remembers (g.D.Disk.clock disk) (g.D.Disk.clock c.put_durably.new.disk) (c.in_err-put_durably.ensures.any_moment honest);
    }

pub returns-in_err-put_durably-2-clause-appends : goal.returns-in_err-put_durably-2-clause-appends
returns-in_err-put_durably-2-clause-appends g c = λ honest.
    let log = c.args.self.now in
    let disk = c.args.disk.now in
    let short : length c.args.framed.now < 2 ^ 32 = omega (arith, c.len-needed.ensures.same, c.len-needed.ensures.short) in
    let room : HasRoom log (length c.args.framed.now) = omega (arith, c.if-free-needed.false, c.free-free.ensures, c.len-needed.ensures.same) in
    let fits : log.place + log.size ≤ length (g.D.Disk.state disk).seen = omega (arith, c.requires, g.met.D.Disk.sized disk honest) in
    let first = c.in_ok-put_durably.ensures in
    record {
      holds = λ bodies holds. err_owes c.from_residual-in_err-put_durably-2.result _ _ c.from_residual-in_err-put_durably-2.ensures.1;
      durable = err_owes c.from_residual-in_err-put_durably-2.result _ _ c.from_residual-in_err-put_durably-2.ensures.1;
      any_moment = λ bodies holds.
          opened log bodies c.args.framed.now c.as_bytes-piece.result.now c.end-gate.result (g.D.Disk.state disk) holds short room fits c.end-gate.ensures c.as_bytes-piece.ensures g.D.Disk.remembers
          (g.D.Disk.clock disk) (g.D.Disk.clock c.put_durably.new.disk) (g.D.Disk.clock c.put_durably-2.new.disk) (g.D.Disk.state c.put_durably.new.disk)
          (first.put honest).durable (first.put honest).written (first.any_moment honest) (c.in_err-put_durably-2.ensures.any_moment (first.same.honest.0 honest));
    }

pub returns-clause-appends : goal.returns-clause-appends
returns-clause-appends g c = λ honest.
    let log = c.args.self.now in
    let disk = c.args.disk.now in
    let body = c.args.framed.now in
    let new = g.D.Disk.state c.put_durably-2.new.disk in
    let short : length body < 2 ^ 32 = omega (arith, c.len-needed.ensures.same, c.len-needed.ensures.short) in
    let room : HasRoom log (length body) = omega (arith, c.if-free-needed.false, c.free-free.ensures, c.len-needed.ensures.same) in
    let fits : log.place + log.size ≤ length (g.D.Disk.state disk).seen = omega (arith, c.requires, g.met.D.Disk.sized disk honest) in
    let first = c.in_ok-put_durably.ensures in
    let second = c.in_ok-put_durably-2.ensures in
    let honest1 = first.same.honest.0 honest in
    let gate : c.self.inside.gate + length body + 5 ≡ c.self.inside.gate + (c.len.result + 5) = omega (arith, c.len.ensures.same) in
    record {
      holds = λ bodies holds.
          let more : HoldsBodies (after_append log body true) (bodies ++ body ∷ []) new =
          holds_more log bodies body c.as_bytes-piece.result.now c.end-gate.result (g.D.Disk.state disk) holds short room fits c.end-gate.ensures c.as_bytes-piece.ensures
          (g.D.Disk.state c.put_durably.new.disk) new (first.put honest).written (second.put honest1).written (second.put honest1).durable in
          subst (λ (n : ℕ). HoldsBodies (record { device = c.self.inside.device; place = c.self.inside.place; size = c.self.inside.size; gate = n }) (bodies ++ body ∷ []) new) gate
          (subst (λ (l : Region). HoldsBodies (after_append l body true) (bodies ++ body ∷ []) new) (sym c.self.view_is) more);
      durable = (second.put honest1).durable;
      any_moment = λ bodies holds.
          opened log bodies c.args.framed.now c.as_bytes-piece.result.now c.end-gate.result (g.D.Disk.state disk) holds short room fits c.end-gate.ensures c.as_bytes-piece.ensures g.D.Disk.remembers
          (g.D.Disk.clock disk) (g.D.Disk.clock c.put_durably.new.disk) (g.D.Disk.clock c.put_durably-2.new.disk) (g.D.Disk.state c.put_durably.new.disk)
          (first.put honest).durable (first.put honest).written (first.any_moment honest) (second.any_moment honest1);
    }
