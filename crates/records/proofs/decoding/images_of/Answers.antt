use Rattle.records.specs.Reading.{take_image, take_list, after_image}
use Rattle.records.proofs.Lists.{goes_on, ends, is_done}
use Rattle.records.proofs.decoding.images_of.Goals as goal

pub loop-preserved : goal.loop-preserved
loop-preserved c =
    rw (c.in_ok-push-in-Ok.ensures.items, c.from-least.ensures)
    (goes_on (take_image c.args.version) after_image c.loop.images.items c.args.count c.loop.counter c.loop.least c.loop.rest.now c.in-Ok.image c.in-Ok.after.now
    (take_list (take_image c.args.version) after_image c.args.count 0 c.args.bytes.now) c.loop-test.true c.in-Ok.ensures c.loop.invariant)

pub returns-in-Err : goal.returns-in-Err
returns-in-Err c =
    ends (take_image c.args.version) after_image c.in-Err.error c.loop.images.items c.args.count c.loop.counter c.loop.least c.loop.rest.now
    (take_list (take_image c.args.version) after_image c.args.count 0 c.args.bytes.now) c.loop-test.true c.in-Err.ensures c.loop.invariant

pub returns : goal.returns
returns c = is_done (take_image c.args.version) after_image c.loop.images.items c.args.count c.loop.counter c.loop.least c.loop.rest.now (take_list (take_image c.args.version) after_image c.args.count 0 c.args.bytes.now) c.loop-test.false c.loop.invariant
