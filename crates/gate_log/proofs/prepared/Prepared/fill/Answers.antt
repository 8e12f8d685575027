use Rattle.std.proofs.Common.{◌≡◌, ◌∙◌, ◌+◌, ◌-◌, ◌≤◌, ℕ, List, length, ap, subst, arith}
use Rattle.gate_log.specs.Calls.{IsPut}
use Rattle.gate_log.proofs.Fills.{fills}
use Rattle.gate_log.proofs.Ranges.{wider}
use Rattle.gate_log.proofs.prepared.Prepared.fill.Goals as goal

pub returns-clause-filled : goal.returns-clause-filled
returns-clause-filled g c = λ generation bodies prepared honest.
    let old = g.D.Disk.state c.args.disk.now in
    let new = g.D.Disk.state c.put_durably.new.disk in
    let is : c.deref.result.now ≡ c.args.self.now = c.deref.ensures.value ∙ c.self.view_is in
    fills c.args.place c.args.size generation bodies c.args.self.now old new prepared (subst (λ (l : List ℕ). IsPut (c.args.place + 1) l old new) is (c.in_ok-put_durably.ensures.put honest))
    (omega (arith, c.requires.inside, g.met.D.Disk.sized c.args.disk.now honest)) c.requires.room

pub returns-in_err-put_durably-clause-any_moment : goal.returns-in_err-put_durably-clause-any_moment
returns-in_err-put_durably-clause-any_moment g c = λ honest.
    let old = g.D.Disk.state c.args.disk.now in
    let within : length c.deref.result.now ≤ c.args.size - 1 = omega (arith, c.requires.room, ap (λ (l : List ℕ). length l) (c.deref.ensures.value ∙ c.self.view_is)) in
    wider g.D.Disk.remembers (g.D.Disk.clock c.args.disk.now) (g.D.Disk.clock c.put_durably.new.disk) old (c.args.place + 1) (length c.deref.result.now) (c.args.size - 1) old.seen within (c.in_err-put_durably.ensures.any_moment honest)

pub returns-clause-any_moment : goal.returns-clause-any_moment
returns-clause-any_moment g c = λ honest.
    let old = g.D.Disk.state c.args.disk.now in
    let within : length c.deref.result.now ≤ c.args.size - 1 = omega (arith, c.requires.room, ap (λ (l : List ℕ). length l) (c.deref.ensures.value ∙ c.self.view_is)) in
    wider g.D.Disk.remembers (g.D.Disk.clock c.args.disk.now) (g.D.Disk.clock c.put_durably.new.disk) old (c.args.place + 1) (length c.deref.result.now) (c.args.size - 1) old.seen within (c.in_ok-put_durably.ensures.any_moment honest)
