use Rattle.std.proofs.lemmas.Result.{err_from_is_err_and}
use Rattle.records.specs.Reading.{take_page, take_list, after_page}
use Rattle.records.proofs.Lists.{goes_on, ends, is_done}
use Rattle.records.proofs.decoding.pages_of.Goals as goal

pub loop-preserved : goal.loop-preserved
loop-preserved c =
    rw (c.in_ok-push.ensures.items, c.from-least.ensures)
    (goes_on (take_page c.args.version) after_page c.loop.pages.items c.args.count c.loop.counter c.loop.least c.loop.rest.now c.in_ok-page.page c.in_ok-page.after.now
    (take_list (take_page c.args.version) after_page c.args.count 0 c.args.bytes.now) c.loop-test.true c.in_ok-page.ensures c.loop.invariant)

pub returns-in_err-page : goal.returns-in_err-page
returns-in_err-page c =
    let p = err_from_is_err_and c.from_residual.result c.from_residual.ensures.1 in
    rw (p.1, p.2)
    (ends (take_page c.args.version) after_page c.in_err-page.field-0.0 c.loop.pages.items c.args.count c.loop.counter c.loop.least c.loop.rest.now
    (take_list (take_page c.args.version) after_page c.args.count 0 c.args.bytes.now) c.loop-test.true c.in_err-page.ensures c.loop.invariant)

pub returns : goal.returns
returns c = rw c.from.ensures (is_done (take_page c.args.version) after_page c.loop.pages.items c.args.count c.loop.counter c.loop.least c.loop.rest.now (take_list (take_page c.args.version) after_page c.args.count 0 c.args.bytes.now) c.loop-test.false c.loop.invariant)
