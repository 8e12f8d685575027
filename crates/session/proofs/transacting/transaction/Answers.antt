use Rattle.std.proofs.Common.{◌≡◌, ◌∙◌, ◌≤◌, ℕ, true, false, rules, arith, subst}
use Rattle.session.specs.Plan.{item_of}
use Rattle.session.specs.Sql.{sql}
use Rattle.session.specs.Transacting.{HasTried, is_overlapped, item_for, text_told}
use Rattle.session.proofs.ItemRuns.{if_ok_then, item_ran_by, item_told_by, may_stand, never_both}
use Rattle.session.proofs.Overlaps.{overlaps_fit}
use Rattle.session.proofs.Transacted.{first_try, more_tried, stands_again}
use Rattle.session.proofs.transacting.transaction.Goals as goal

pub loop-attempts-init : goal.loop-attempts-init
loop-attempts-init g c = record {
  ended = c.try_once-seat.ensures.ended;
  goes = c.try_once-seat.ensures.goes;
  has_tried = λ size items honest overlaps stands count e.
      let none : 0 ≡ count = omega (arith, e) in
      subst (λ (n : ℕ). HasTried size items c.args.who (item_for c.args.names.now c.args.transaction.now) (g.S.Seat.view c.args.seat) (g.S.Seat.view c.try_once-seat.result.0) n c.try_once-seat.result.1) none
      (first_try size items c.args.who c.args.names.now c.args.transaction.now (g.S.Seat.view c.args.seat) (g.S.Seat.view c.try_once-seat.result.0) c.try_once-seat.result.1 (c.try_once-seat.ensures.tried honest size items overlaps stands));
}

pub loop-attempts-preserved : goal.loop-attempts-preserved
loop-attempts-preserved g c = record {
  ended = record { idle = c.try_once-next.ensures.ended.idle; session = c.try_once-next.ensures.ended.session ∙ c.loop-attempts.invariant.ended.session };
  goes = g.S.Seat.goes_on _ _ _ c.loop-attempts.invariant.goes c.try_once-next.ensures.goes;
  has_tried = λ size items honest overlaps stands.
      let has = c.loop-attempts.invariant.has_tried size items honest overlaps stands in
      let is : is_overlapped c.loop-attempts.tried ≡ true = search rules in
      let some : 1 ≤ c.loop-attempts._attempts = omega arith in
      more_tried size items c.args.who c.args.names.now c.args.transaction.now (g.S.Seat.view c.args.seat) (g.S.Seat.view c.loop-attempts.seat) (g.S.Seat.view c.try_once-next.result.0) c.loop-attempts._attempts c.loop-attempts.tried c.try_once-next.result.1 some has is
      (c.try_once-next.ensures.tried ((g.S.Seat.honest_stays _ _ c.loop-attempts.invariant.goes).0 honest) size items overlaps
      (stands_again size items c.args.who c.args.names.now c.args.transaction.now (g.S.Seat.view c.args.seat) (g.S.Seat.view c.loop-attempts.seat) c.loop-attempts._attempts c.loop-attempts.tried some has stands));
}

pub returns-then-not-is_overlapped-clause-runs : goal.returns-then-not-is_overlapped-clause-runs
returns-then-not-is_overlapped-clause-runs g c honest size plan may =
    let isnt : is_overlapped c.loop-attempts.tried ≡ false = search rules in
    item_ran_by size plan c.args.who c.args.names.now c.args.transaction.now (g.S.Seat.view c.args.seat) (g.S.Seat.view c.loop-attempts.seat) may c.loop-attempts._attempts c.loop-attempts.tried (omega arith) (omega arith)
    (c.loop-attempts.invariant.has_tried size (item_of plan) honest (overlaps_fit (sql size) (item_of plan)) (may_stand size plan c.args.who c.args.names.now c.args.transaction.now (g.S.Seat.view c.args.seat) (g.S.Seat.view c.loop-attempts.seat) may))
    (λ yes. never_both (is_overlapped c.loop-attempts.tried) c.loop-attempts._attempts isnt yes)

pub returns-then-not-is_overlapped-clause-tells : goal.returns-then-not-is_overlapped-clause-tells
returns-then-not-is_overlapped-clause-tells g c honest =
    let isnt : is_overlapped c.loop-attempts.tried ≡ false = search rules in
    if_ok_then _ _ c.answer_of.result
    (λ told answer size plan may.
    item_told_by size plan c.args.who c.args.names.now c.args.transaction.now (g.S.Seat.view c.args.seat) (g.S.Seat.view c.loop-attempts.seat) may c.loop-attempts._attempts c.loop-attempts.tried (omega arith) (omega arith)
    (c.loop-attempts.invariant.has_tried size (item_of plan) honest (overlaps_fit (sql size) (item_of plan)) (may_stand size plan c.args.who c.args.names.now c.args.transaction.now (g.S.Seat.view c.args.seat) (g.S.Seat.view c.loop-attempts.seat) may))
    (λ yes. never_both (is_overlapped c.loop-attempts.tried) c.loop-attempts._attempts isnt yes) (text_told (λ text. text.items) told) answer)
    c.answer_of.ensures

pub returns-clause-runs : goal.returns-clause-runs
returns-clause-runs g c honest size plan may =
    let few : c.loop-attempts._attempts ≤ 64 = c.loop-attempts.auto._attempts-end (omega arith) in
    item_ran_by size plan c.args.who c.args.names.now c.args.transaction.now (g.S.Seat.view c.args.seat) (g.S.Seat.view c.loop-attempts.seat) may c.loop-attempts._attempts c.loop-attempts.tried (omega arith) few
    (c.loop-attempts.invariant.has_tried size (item_of plan) honest (overlaps_fit (sql size) (item_of plan)) (may_stand size plan c.args.who c.args.names.now c.args.transaction.now (g.S.Seat.view c.args.seat) (g.S.Seat.view c.loop-attempts.seat) may))
    (λ yes. omega (arith, few, c.loop-attempts-test.false))

pub returns-clause-tells : goal.returns-clause-tells
returns-clause-tells g c honest =
    let few : c.loop-attempts._attempts ≤ 64 = c.loop-attempts.auto._attempts-end (omega arith) in
    if_ok_then _ _ c.answer_of-2.result
    (λ told answer size plan may.
    item_told_by size plan c.args.who c.args.names.now c.args.transaction.now (g.S.Seat.view c.args.seat) (g.S.Seat.view c.loop-attempts.seat) may c.loop-attempts._attempts c.loop-attempts.tried (omega arith) few
    (c.loop-attempts.invariant.has_tried size (item_of plan) honest (overlaps_fit (sql size) (item_of plan)) (may_stand size plan c.args.who c.args.names.now c.args.transaction.now (g.S.Seat.view c.args.seat) (g.S.Seat.view c.loop-attempts.seat) may))
    (λ yes. omega (arith, few, c.loop-attempts-test.false)) (text_told (λ text. text.items) told) answer)
    c.answer_of-2.ensures
