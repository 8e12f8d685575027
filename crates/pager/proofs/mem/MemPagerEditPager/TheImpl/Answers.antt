use Rattle.std.proofs.Common.{rules}
use Rattle.std.proofs.lemmas.Grind.{common_steps}
use Rattle.pager.proofs.Overlays.{told-err, told-ok}
use Rattle.pager.proofs.mem.MemPagerEditPager.TheImpl.Goals as goal

pub edit-tells : goal.edit-tells
edit-tells c = record {
  ok = told-ok c.result c.args.self.now c.new.self.now c.args.page c.args.bytes.now c.ensures.shown;
  err = told-err c.result c.args.self.now c.new.self.now c.args.page c.ensures.steady;
  goes = search (rules, common_steps);
  size = search (rules, common_steps);
  cause = c.ensures.cause;
}
