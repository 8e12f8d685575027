use Rattle.std.proofs.Common.{◌∙◌, ◌+◌, List, drop, take, sym, ap, subst}
use Rattle.std.proofs.lemmas.List.{take_all}
use Rattle.disk_model.proofs.Moments.{reads_on}
use Rattle.history.specs.declared.entry.Base.{Base}
use Rattle.history.specs.declared.entry.Change.{Change}
use Rattle.history.specs.Right.{AreRight}
use Rattle.race_model.proofs.Histories.{page_count_after}
use Rattle.desk.specs.Fetched.{IsRedone}
use Rattle.desk.proofs.Again.{bases_more, front_more, right_more, same_on}
use Rattle.desk.proofs.fetch.redo_all.Goals as goal

pub redo-requires-clause-right : goal.redo-requires-clause-right
redo-requires-clause-right g c = (right_more c.loop-change.redone.base c.args.changes.now c.loop-change.change-index c.change-item.result c.loop-change-test.true c.change-item.is c.loop-change.invariant.right).0

pub loop-change-preserved : goal.loop-change-preserved
loop-change-preserved g c =
    let i = c.loop-change.change-index in
    let changes = c.args.changes.now in
    let change = c.change-item.result in
    let before = c.loop-change.invariant in
    let now = c.in_default.ensures in
    record {
      same = same_on g.D.Disk.is_honest c.args.pool.now.file c.loop-change.pool.file c.redo.new.pool.file before.same now.same;
      faults = now.cause ∙ before.faults;
      quiet = λ told. reads_on g.D.Disk.remembers g.D.Disk.state g.D.Disk.clock c.args.pool.now.file.disk c.loop-change.pool.file.disk c.redo.new.pool.file.disk (before.quiet told) (now.quiet (before.same.honest.0 told));
      right = subst (λ (b : Base). AreRight b (drop (i + 1) changes)) (sym now.base) (right_more c.loop-change.redone.base changes i change c.loop-change-test.true c.change-item.is before.right).1;
      whole = now.same.blocks ∙ before.whole ∙ sym (page_count_after c.loop-change.redone.base change) ∙ ap (λ (b : Base). b.page_count) (sym now.base);
      base = bases_more c.args.redone.now.base c.loop-change.redone.base c.redo.new.self.base changes i change c.loop-change-test.true c.change-item.is before.base now.base;
      free = now.free;
      redone = λ origin is.
          subst (λ (l : List Change). IsRedone g.D.Disk.is_honest g.D.Disk.state c.redo.new.self c.redo.new.pool origin c.args.number l) (front_more changes i change c.loop-change-test.true c.change-item.is)
          (now.redone origin (take i changes) (before.redone origin is));
    }

pub returns-clause-redone : goal.returns-clause-redone
returns-clause-redone g c = λ origin is.
    subst (λ (l : List Change). IsRedone g.D.Disk.is_honest g.D.Disk.state c.loop-change.redone c.loop-change.pool origin c.args.number l) (take_all c.loop-change.change-index c.args.changes.now c.loop-change-test.false) (c.loop-change.invariant.redone origin is)
