use Rattle.std.proofs.Common.{◌∙◌, ap}
use Rattle.page_pool.specs.Frames.{frame_at}
use Rattle.page_pool.specs.Side.{Pool}
use Rattle.page_pool.proofs.Apart.{holds_less}
use Rattle.page_pool.proofs.Steps.{not_near, reads_still}
use Rattle.page_pool.proofs.pool.PagePool.take.Goals as goal

pub returns-in-Some-clause-kept : goal.returns-in-Some-clause-kept
returns-in-Some-clause-kept g c =
    rw (← c.self.view_is)
    (λ now device loose dirty is. record {
      marks = is.marks;
      settled = is.settled;
      unsettled = is.unsettled;
      shows = λ told. record { frames = (is.shows told).frames; clean = holds_less c.self.inside.clean.entries c.take.new.clean.entries now (is.shows told).clean c.take.ensures.others };
      reads = is.reads;
      same = is.same;
    })

pub returns-in-Some-clause-taken : goal.returns-in-Some-clause-taken
returns-in-Some-clause-taken g c = rw (← c.self.view_is) (λ now device loose dirty told is. (is.shows told).clean (c.args.page, c.in-Some.bytes) c.in-Some.ensures.found)

pub returns-clause-kept : goal.returns-clause-kept
returns-clause-kept g c =
    rw (← c.self.view_is)
    (λ now device loose dirty is.
    let back = c.read.ensures.same.honest.1 in
    record {
      marks = is.marks;
      settled = is.settled;
      unsettled = is.unsettled;
      shows = λ told. record { frames = (is.shows (back told)).frames; clean = holds_less c.self.inside.clean.entries c.take.new.clean.entries now (is.shows (back told)).clean c.take.ensures.others };
      reads = λ told. reads_still (g.D.Disk.state c.self.inside.file.disk) (g.D.Disk.state c.read.new.self.disk) c.self.inside.file.blocks c.read.new.self.blocks device loose (is.reads (back told)) (c.read.ensures.quiet (back told)).unchanged (c.read.ensures.fills told);
      same = λ told. is.same (back told);
    })

pub returns-clause-near : goal.returns-clause-near
returns-clause-near g c = rw (← c.self.view_is) (not_near _ _ c.args.page (ap (λ (p : Pool _). frame_at p.frames c.args.page) c.self.view_is ∙ c.requires.no_frame) c.in_default.ensures.missed)
