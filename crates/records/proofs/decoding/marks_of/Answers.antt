use Rattle.std.proofs.Common.{◌+◌, arith}
use Rattle.std.proofs.lemmas.Result.{err_from_is_err_and}
use Rattle.records.specs.Reading.{take_mark, take_list, after_mark}
use Rattle.records.proofs.Lists.{marks_begin, mark_read, mark_refused, is_done}
use Rattle.records.proofs.decoding.marks_of.Goals as goal

pub loop-i-init : goal.loop-i-init
loop-i-init c = rw c.new-marks.ensures.items (marks_begin c.args.count c.args.oldest c.args.bytes.now)

pub loop-i-preserved : goal.loop-i-preserved
loop-i-preserved c =
    rw c.in_ok-push.ensures.items
    (mark_read c.loop-i.marks.items c.args.count c.loop-i.i c.args.oldest (c.from.result + c.loop-i.i) c.loop-i.rest.now c.in_ok-mark.mark c.in_ok-mark.after.now
    (take_list take_mark after_mark c.args.count c.args.oldest c.args.bytes.now) c.loop-i-test.true (omega (arith, c.from.ensures)) c.in_ok-mark.ensures c.loop-i.invariant)

pub returns-in_err-mark : goal.returns-in_err-mark
returns-in_err-mark c =
    let p = err_from_is_err_and c.from_residual.result c.from_residual.ensures.1 in
    rw (p.1, p.2)
    (mark_refused c.in_err-mark.field-0.0 c.loop-i.marks.items c.args.count c.loop-i.i c.args.oldest (c.from.result + c.loop-i.i) c.loop-i.rest.now
    (take_list take_mark after_mark c.args.count c.args.oldest c.args.bytes.now) c.loop-i-test.true (omega (arith, c.from.ensures)) c.in_err-mark.ensures c.loop-i.invariant)

pub returns : goal.returns
returns c = rw c.from-2.ensures (is_done take_mark after_mark c.loop-i.marks.items c.args.count c.loop-i.i _ c.loop-i.rest.now (take_list take_mark after_mark c.args.count c.args.oldest c.args.bytes.now) c.loop-i-test.false c.loop-i.invariant)
