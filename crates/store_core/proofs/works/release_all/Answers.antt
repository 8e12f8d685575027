use Rattle.std.proofs.Common.{◌∙◌}
use Rattle.page_pool.specs.Side.{held}
use Rattle.store_core.proofs.Edits.{trans_rest}
use Rattle.store_core.proofs.Released.{released_all, released_more}
use Rattle.store_core.proofs.works.release_all.Goals as goal

pub loop-edit-preserved : goal.loop-edit-preserved
loop-edit-preserved g c = record {
  whole = c.release.ensures.whole;
  rest = trans_rest c.args.desk.now c.loop-edit.desk c.release.new.self c.loop-edit.invariant.rest c.release.ensures.rest;
  file = c.release.ensures.file ∙ c.loop-edit.invariant.file;
  held = λ page.
      released_more c.args.edits.now c.loop-edit.edit-index page c.edit-item.result (held c.loop-edit.desk.pool page) (held c.release.new.self.pool page) _ c.loop-edit-test.true c.edit-item.is (c.release.ensures.held page) (c.loop-edit.invariant.held page);
  desk = λ plain is. c.release.ensures.desk plain (c.loop-edit.invariant.desk plain is);
}

pub returns-clause-held : goal.returns-clause-held
returns-clause-held g c = λ page. released_all c.args.edits.now c.loop-edit.edit-index page (held c.loop-edit.desk.pool page) _ c.loop-edit-test.false (c.loop-edit.invariant.held page)
