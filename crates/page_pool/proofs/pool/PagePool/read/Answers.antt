use Rattle.std.proofs.Common.{◌≡◌, ◌∙◌, ℕ, ap, subst, sym}
use Rattle.std.specs.Prelude.{option_copied, None}
use Rattle.page_pool.specs.Frames.{frame_in, is_dirty_in}
use Rattle.page_pool.specs.Side.{IsPool}
use Rattle.page_pool.proofs.Apart.{holds_beside, holds_less, pool_beside, pool_keeps}
use Rattle.page_pool.proofs.Steps.{not_near, reads_still}
use Rattle.page_pool.proofs.pool.PagePool.read.Goals as goal

pub returns-then-copy-clause-kept : goal.returns-then-copy-clause-kept
returns-then-copy-clause-kept g c =
    rw (← c.self.view_is)
    (λ now device loose dirty is. record {
      marks = is.marks;
      settled = is.settled;
      unsettled = is.unsettled;
      shows = λ told. record { frames = (is.shows told).frames; clean = holds_less c.self.inside.clean.entries c.copy.new.clean.entries now (is.shows told).clean c.copy.ensures.others };
      reads = is.reads;
      same = is.same;
    })

pub invariant_of-self-in-Ok : goal.invariant_of-self-in-Ok
invariant_of-self-in-Ok g c =
    let frame = frame_in c.self.inside.frames in
    let none : frame c.args.page ≡ None = sym c.get.ensures.value ∙ ap option_copied c.in_default.is in
    let found = pool_keeps frame c.self.inside.clean c.copy.new.clean _ c.self.inside.dirty c.self.invariant c.copy.ensures.others c.copy.ensures.room in
    let kept = pool_beside frame c.copy.new.clean c.keep.new.clean _ c.self.inside.dirty c.args.page _ found c.keep.ensures.beside c.keep.ensures.room none in
    subst (λ (n : ℕ). IsPool frame c.keep.new.clean n c.self.inside.dirty) (sym c.read.ensures.same.blocks) kept

pub returns-in-Ok-clause-kept : goal.returns-in-Ok-clause-kept
returns-in-Ok-clause-kept g c =
    rw (← c.self.view_is)
    (λ now device loose dirty is.
    let back = c.read.ensures.same.honest.1 in
    record {
      marks = is.marks;
      settled = is.settled;
      unsettled = is.unsettled;
      shows = λ told. record {
        frames = (is.shows (back told)).frames;
        clean = holds_beside c.copy.new.clean.entries c.keep.new.clean.entries c.args.page _ now (holds_less c.self.inside.clean.entries c.copy.new.clean.entries now (is.shows (back told)).clean c.copy.ensures.others) c.keep.ensures.beside (c.in-Ok.ensures.read (back told) ∙ (is.reads (back told)).reads c.args.page ∙ is.same (back told) c.args.page (sym (is.marks c.args.page) ∙ ap is_dirty_in (sym c.get.ensures.value ∙ ap option_copied c.in_default.is)));
      };
      reads = λ told. reads_still (g.D.Disk.state c.self.inside.file.disk) (g.D.Disk.state c.read.new.self.disk) c.self.inside.file.blocks c.read.new.self.blocks device loose (is.reads (back told)) (c.read.ensures.quiet (back told)).unchanged (c.read.ensures.fills told);
      same = λ told. is.same (back told);
    })

pub returns-in-Err-clause-kept : goal.returns-in-Err-clause-kept
returns-in-Err-clause-kept g c =
    rw (← c.self.view_is)
    (λ now device loose dirty is.
    let back = c.read.ensures.same.honest.1 in
    record {
      marks = is.marks;
      settled = is.settled;
      unsettled = is.unsettled;
      shows = λ told. record { frames = (is.shows (back told)).frames; clean = holds_less c.self.inside.clean.entries c.copy.new.clean.entries now (is.shows (back told)).clean c.copy.ensures.others };
      reads = λ told. reads_still (g.D.Disk.state c.self.inside.file.disk) (g.D.Disk.state c.read.new.self.disk) c.self.inside.file.blocks c.read.new.self.blocks device loose (is.reads (back told)) (c.read.ensures.quiet (back told)).unchanged (c.read.ensures.fills told);
      same = λ told. is.same (back told);
    })

pub returns-in-Ok-clause-near : goal.returns-in-Ok-clause-near
returns-in-Ok-clause-near g c = rw (← c.self.view_is) (not_near _ _ c.args.page (sym c.get.ensures.value ∙ ap option_copied c.in_default.is) (c.copy.ensures.missed c.if-copy.false).1)

pub returns-in-Err-clause-near : goal.returns-in-Err-clause-near
returns-in-Err-clause-near g c = rw (← c.self.view_is) (not_near _ _ c.args.page (sym c.get.ensures.value ∙ ap option_copied c.in_default.is) (c.copy.ensures.missed c.if-copy.false).1)
