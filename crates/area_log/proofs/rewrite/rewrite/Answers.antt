use Rattle.std.proofs.Common.{◌+◌, ◌≤◌, ◌<◌, length, refl, arith}
use Rattle.gate_log.proofs.Fills.{length-prepared}
use Rattle.area_log.proofs.Rewrites.{closed, filled, opened, rewritten, shut_closed, shut_same}
use Rattle.area_log.proofs.rewrite.rewrite.Goals as goal

pub returns-in_err-shut-clause-any_moment : goal.returns-in_err-shut-clause-any_moment
returns-in_err-shut-clause-any_moment g c = λ generation bodies prepared honest durable gate.
    let old = (g.D.Disk.state c.args.disk.now).seen in
    let header : 16 < c.args.size = omega (arith, c.requires.room, length-prepared c.args.prepared.now generation bodies prepared) in
    let fits : c.args.place + c.args.size ≤ length old = omega (arith, c.requires.inside, g.met.D.Disk.sized c.args.disk.now honest) in
    closed c.args.place c.args.size generation bodies old fits header g.D.Disk.remembers (g.D.Disk.clock c.args.disk.now) (g.D.Disk.clock c.shut.new.disk) (c.in_err-shut.ensures.any_moment honest durable gate)

pub returns-in_err-log-clause-any_moment : goal.returns-in_err-log-clause-any_moment
returns-in_err-log-clause-any_moment g c = λ generation bodies prepared honest durable gate.
    let old = (g.D.Disk.state c.args.disk.now).seen in
    let mid = g.D.Disk.state c.shut.new.disk in
    let header : 16 < c.args.size = omega (arith, c.requires.room, length-prepared c.args.prepared.now generation bodies prepared) in
    let fits : c.args.place + c.args.size ≤ length old = omega (arith, c.requires.inside, g.met.D.Disk.sized c.args.disk.now honest) in
    let first = c.in_ok-shut.ensures in
    filled c.args.place c.args.size generation bodies old fits header g.D.Disk.remembers (g.D.Disk.clock c.args.disk.now) (g.D.Disk.clock c.shut.new.disk) (g.D.Disk.clock c.fill.new.disk) mid
    (shut_same c.args.place c.args.is_open old mid.seen (omega (arith, fits, header)) (first.shut honest)) (shut_closed c.args.place c.args.is_open old mid.seen (omega (arith, fits, header)) (first.shut honest) gate)
    (first.durable honest durable) (first.any_moment honest durable gate) (c.in_err-log.ensures.any_moment (first.same.honest.0 honest))

pub returns-in_err-put_durably-clause-any_moment : goal.returns-in_err-put_durably-clause-any_moment
returns-in_err-put_durably-clause-any_moment g c = λ generation bodies prepared honest durable gate.
    let old = (g.D.Disk.state c.args.disk.now).seen in
    let mid = g.D.Disk.state c.shut.new.disk in
    let header : 16 < c.args.size = omega (arith, c.requires.room, length-prepared c.args.prepared.now generation bodies prepared) in
    let fits : c.args.place + c.args.size ≤ length old = omega (arith, c.requires.inside, g.met.D.Disk.sized c.args.disk.now honest) in
    let first = c.in_ok-shut.ensures in
    let second = c.in_ok-log.ensures in
    let honest1 = first.same.honest.0 honest in
    opened c.args.place c.args.size generation bodies old fits header g.D.Disk.remembers (g.D.Disk.clock c.args.disk.now) (g.D.Disk.clock c.shut.new.disk) (g.D.Disk.clock c.fill.new.disk) mid
    (shut_same c.args.place c.args.is_open old mid.seen (omega (arith, fits, header)) (first.shut honest)) (shut_closed c.args.place c.args.is_open old mid.seen (omega (arith, fits, header)) (first.shut honest) gate)
    (first.durable honest durable) (first.any_moment honest durable gate) (second.any_moment honest1)
    (g.D.Disk.clock c.put_durably.new.disk) (g.D.Disk.state c.fill.new.disk) (second.filled generation bodies prepared honest1) (c.in_err-put_durably.ensures.any_moment (second.same.honest.0 honest1))

pub returns-clause-any_moment : goal.returns-clause-any_moment
returns-clause-any_moment g c = λ generation bodies prepared honest durable gate.
    let old = (g.D.Disk.state c.args.disk.now).seen in
    let mid = g.D.Disk.state c.shut.new.disk in
    let header : 16 < c.args.size = omega (arith, c.requires.room, length-prepared c.args.prepared.now generation bodies prepared) in
    let fits : c.args.place + c.args.size ≤ length old = omega (arith, c.requires.inside, g.met.D.Disk.sized c.args.disk.now honest) in
    let first = c.in_ok-shut.ensures in
    let second = c.in_ok-log.ensures in
    let honest1 = first.same.honest.0 honest in
    opened c.args.place c.args.size generation bodies old fits header g.D.Disk.remembers (g.D.Disk.clock c.args.disk.now) (g.D.Disk.clock c.shut.new.disk) (g.D.Disk.clock c.fill.new.disk) mid
    (shut_same c.args.place c.args.is_open old mid.seen (omega (arith, fits, header)) (first.shut honest)) (shut_closed c.args.place c.args.is_open old mid.seen (omega (arith, fits, header)) (first.shut honest) gate)
    (first.durable honest durable) (first.any_moment honest durable gate) (second.any_moment honest1)
    (g.D.Disk.clock c.put_durably.new.disk) (g.D.Disk.state c.fill.new.disk) (second.filled generation bodies prepared honest1) (c.in_ok-put_durably.ensures.any_moment (second.same.honest.0 honest1))

pub returns-clause-rewritten : goal.returns-clause-rewritten
returns-clause-rewritten g c = λ generation bodies prepared honest.
    let old = g.D.Disk.state c.args.disk.now in
    let mid = g.D.Disk.state c.shut.new.disk in
    let header : 16 < c.args.size = omega (arith, c.requires.room, length-prepared c.args.prepared.now generation bodies prepared) in
    let fits : c.args.place + c.args.size ≤ length old.seen = omega (arith, c.requires.inside, g.met.D.Disk.sized c.args.disk.now honest) in
    let first = c.in_ok-shut.ensures in
    let second = c.in_ok-log.ensures in
    let honest1 = first.same.honest.0 honest in
    rewritten c.args.place c.args.size generation bodies old.seen fits header g.D.Disk.remembers mid (g.D.Disk.state c.fill.new.disk) (g.D.Disk.state c.put_durably.new.disk)
    (shut_same c.args.place c.args.is_open old.seen mid.seen (omega (arith, fits, header)) (first.shut honest)) (second.filled generation bodies prepared honest1) (c.in_ok-put_durably.ensures.put (second.same.honest.0 honest1)) old refl
