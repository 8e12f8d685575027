use Rattle.std.proofs.Common.{◌≡◌, ◌∙◌, sym, ap, List, Option, None, ◌∷◌, ◌++◌, [], length, arith, length-append}
use Rattle.journal_book.specs.declared.work.Work.{Work}
use Rattle.journal_book.specs.Works.{with_work}
use Rattle.journal_book.proofs.Slots.{with_work_set, with_work_more, with_work_end}
use Rattle.journal_book.proofs.works.set_slot.Goals as goal

pub returns-then-place-len-clause-done : goal.returns-then-place-len-clause-done
returns-then-place-len-clause-done c = sym (with_work_set c.args.slots.now.items c.args.session c.args.work (omega (arith, c.if-place-len.true, c.len.ensures)))

pub loop-init : goal.loop-init
loop-init c = record {
  long = omega (arith, c.len-counter.ensures);
  room = omega (arith, c.in_ok-reserve.ensures.ok, c.in_ok-reserve.ensures.len, c.len.ensures, c.len-2.ensures, c.if-place-len.false);
  same = ap (λ (l : List (Option Work)). with_work l c.args.session c.args.work) c.in_ok-reserve.ensures.items;
}

pub unreachable-requires : goal.unreachable-requires
unreachable-requires c = omega (arith, c.in_default.ensures.full, c.loop.invariant.long, c.loop.invariant.room, c.loop-test.true)

pub loop-preserved : goal.loop-preserved
loop-preserved c =
    let items : c.push.new.self.items ≡ c.loop.slots.items ++ None ∷ [] = c.in-Ok.ensures.items in
    record {
      long = ap (λ (l : List (Option Work)). length l) items ∙ length-append c.loop.slots.items (None ∷ []) ∙ omega (arith, c.loop.invariant.long);
      room = omega (arith, c.in-Ok.ensures.capacity, c.loop.invariant.room);
      same = ap (λ (l : List (Option Work)). with_work l c.args.session c.args.work) items
          ∙ with_work_more c.loop.slots.items c.args.session c.args.work (omega (arith, c.loop.invariant.long, c.loop-test.true)) ∙ c.loop.invariant.same;
    }

pub unreachable-requires-in_default-push : goal.unreachable-requires-in_default-push
unreachable-requires-in_default-push c =
    omega (arith, c.in_default-push.ensures.full, c.loop.invariant.long, c.loop.invariant.room, c.loop-test.false, c.loop.auto.counter-end, c.len-counter.ensures, c.in_ok-reserve.ensures.len, c.len.ensures, c.if-place-len.false)

pub returns-clause-done : goal.returns-clause-done
returns-clause-done c =
    let items : c.push-2.new.self.items ≡ c.loop.slots.items ++ c.args.work ∷ [] = c.in-Ok-push.ensures.items in
    let long : length c.loop.slots.items ≡ c.args.session =
    omega (arith, c.loop.invariant.long, c.loop-test.false, c.loop.auto.counter-end, c.len-counter.ensures, c.in_ok-reserve.ensures.len, c.len.ensures, c.if-place-len.false) in
    items ∙ sym (with_work_end c.loop.slots.items c.args.session c.args.work long) ∙ c.loop.invariant.same
