use Rattle.std.proofs.Common.{◌∙◌, sym, subst, arith}
use Rattle.turn_tests.specs.Ready.{AreReady}
use Rattle.turn_tests.proofs.Listing.{ready_front, ready_last, ready_push}
use Rattle.turn_tests.proofs.meeting.with_last.Goals as goal

pub closed-requires-clause-ready : goal.closed-requires-clause-ready
closed-requires-clause-ready g c =
    let z = c.in_ok-turn.turn.table.shared.table_id in
    let all = subst (AreReady z) c.in-Some.ensures.items c.in_ok-turn.ensures.ready in
    let last = ready_last z c.pop.new.self.items c.in-Some.last all in
    let v = c.visit.ensures in
    subst (AreReady z) (sym c.push_reserved.ensures.items) (ready_push z c.pop.new.self.items _ (ready_front z c.pop.new.self.items c.in-Some.last all)
    (record { rests = v.ready.rests; lines = omega arith }) (v.same.parts ∙ last.1))
