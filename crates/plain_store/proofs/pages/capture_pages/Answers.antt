use Rattle.std.proofs.Common.{◌<◌, ◌∙◌, [], length, take, ap, sym, subst, arith}
use Rattle.history.specs.declared.writes.PageImage.{PageImage}
use Rattle.history.proofs.PageLists.{within_at}
use Rattle.plain_store.specs.Page.{IsWithin, captured}
use Rattle.plain_store.proofs.Stored.{all_within, captured_step, may_step, next_write, same_at}
use Rattle.plain_store.proofs.pages.capture_pages.Goals as goal

pub capture-requires : goal.capture-requires
capture-requires c =
    let write = c.write-item.result in
    let pages = c.loop-write.pages in
    let within : write.page < length pages =
    omega (arith, c.loop-write.auto.pages, ap (λ (w : PageImage). w.page) c.write-item.is, within_at (length c.args.pages.now) c.args.writes.now c.loop-write.write-index write c.requires.in_store c.loop-write-test.true) in
    subst (IsWithin c.args.newest) (sym (same_at pages write.page c.index-pages-write.result (record { bytes = []; past = [] }) within)) (all_within c.args.newest c.args.pages.now pages c.loop-write.invariant.captured c.requires.within write.page)

pub loop-write-preserved : goal.loop-write-preserved
loop-write-preserved c =
    let write = c.write-item.result in
    let pages = c.loop-write.pages in
    let within : write.page < length pages =
    omega (arith, c.loop-write.auto.pages, ap (λ (w : PageImage). w.page) c.write-item.is, within_at (length c.args.pages.now) c.args.writes.now c.loop-write.write-index write c.requires.in_store c.loop-write-test.true) in
    let is = c.in_ok-capture.ensures.done ∙ ap (captured c.args.newest) (same_at pages write.page c.index-pages-write.result (record { bytes = []; past = [] }) within) in
    record {
      captured = captured_step c.args.newest c.args.pages.now pages write.page c.capture.new.self c.loop-write.invariant.captured within is;
      may_change =
          rw (next_write c.args.writes.now c.loop-write.write-index write c.loop-write-test.true c.write-item.is)
          (may_step c.args.newest pages c.capture.new.self (take c.loop-write.write-index c.args.writes.now) write within is c.loop-write.invariant.may_change);
    }
