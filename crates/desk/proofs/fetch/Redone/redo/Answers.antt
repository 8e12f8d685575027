use Rattle.std.proofs.Common.{◌∙◌, List, map, ap, subst}
use Rattle.block_file.specs.Blocks.{File}
use Rattle.history.specs.declared.writes.PageImage.{PageImage}
use Rattle.history.specs.History.{base_after, before_write, capturing}
use Rattle.history.specs.Writes.{pages_of}
use Rattle.page_pool.specs.Side.{held}
use Rattle.desk.specs.Steps.{AreHeld}
use Rattle.desk.proofs.Again.{all_held, redone_more}
use Rattle.desk.proofs.fetch.Redone.redo.Goals as goal

pub pre_states-requires : goal.pre_states-requires
pre_states-requires g c = all_held c.hold_all.new.pool (held c.args.pool.now) c.writes_of-writes.result.now c.in_ok-hold_all.ensures.holds

pub enter-requires-clause-held : goal.enter-requires-clause-held
enter-requires-clause-held g c = subst (AreHeld c.hold_all.new.pool) c.writes_of-writes.ensures (all_held c.hold_all.new.pool (held c.args.pool.now) c.writes_of-writes.result.now c.in_ok-hold_all.ensures.holds)

pub returns-clause-redone : goal.returns-clause-redone
returns-clause-redone g c = λ origin changes is.
    let honest = g.D.Disk.is_honest in
    let change = c.args.change.now in
    redone_more honest g.D.Disk.state c.args.self.now (record { base = c.enter.new.base; captured = c.add.new.self.captured; pending = c.add.new.self.pending }) c.args.pool.now c.hold_all.new.pool c.release_all.new.pool origin c.args.number changes change
    c.deref.result.now is
    (c.enter.ensures.base ∙ ap (λ b. base_after b change) c.add.ensures.base) c.in_ok-add.ensures.captured c.in_ok-add.ensures.pending
    (ap pages_of c.deref.ensures.value ∙ c.in_ok-images.ensures.pages ∙ ap (λ (w : List PageImage). pages_of (capturing c.args.self.now.base w)) c.writes_of-writes.ensures)
    (λ pages device loose dirty side told.
    c.deref.ensures.value ∙ c.in_ok-images.ensures.bytes pages device loose dirty side told ∙ ap (λ (w : List PageImage). map (before_write pages) (capturing c.args.self.now.base w)) c.writes_of-writes.ensures)
    c.hold_all.ensures.kept
    (λ pages device loose dirty side. c.release_all.ensures.kept _ device loose _ (c.enter.ensures.pages pages device loose dirty side))
    (λ told. subst (λ (f : File _). honest f.disk) (c.release_all.ensures.file ∙ c.enter.ensures.file) told)
    c.hold_all.ensures.same.honest.1
