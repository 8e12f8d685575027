use Rattle.std.proofs.Common.{refl, map}
use Rattle.history.specs.Writes.{pages_of}
use Rattle.history.specs.History.{before_write}
use Rattle.race_model.proofs.Lists.{pages_of-append}
use Rattle.desk.proofs.Frames.{held_at, made_more, made_all, map-joins}
use Rattle.desk.proofs.change.pre_states.Goals as goal

pub push_state-requires : goal.push_state-requires
push_state-requires g c = held_at c.args.pool.now c.args.writes.now c.loop-write.write-index c.write-item.result c.requires c.loop-write-test.true c.write-item.is

pub loop-write-preserved : goal.loop-write-preserved
loop-write-preserved g c = record {
  pages = made_more pages_of pages_of-append c.args.base.now c.args.writes.now c.loop-write.write-index c.write-item.result (pages_of c.loop-write.images.items) (pages_of c.push_state.new.images.items) c.loop-write-test.true c.write-item.is
      c.in_ok-push_state.ensures.pages c.loop-write.invariant.pages;
  bytes = λ pages device loose dirty is told.
      made_more (map (before_write pages)) (map-joins pages) c.args.base.now c.args.writes.now c.loop-write.write-index c.write-item.result c.loop-write.images.items c.push_state.new.images.items c.loop-write-test.true c.write-item.is
      (c.in_ok-push_state.ensures.bytes pages device loose dirty is told) (c.loop-write.invariant.bytes pages device loose dirty is told);
}

pub returns : goal.returns
returns g c = record {
  pages = made_all pages_of pages_of-append c.args.base.now c.args.writes.now c.loop-write.write-index (pages_of c.loop-write.images.items) c.loop-write-test.false refl c.loop-write.invariant.pages;
  bytes = λ pages device loose dirty is told.
      made_all (map (before_write pages)) (map-joins pages) c.args.base.now c.args.writes.now c.loop-write.write-index c.loop-write.images.items c.loop-write-test.false refl (c.loop-write.invariant.bytes pages device loose dirty is told);
}
