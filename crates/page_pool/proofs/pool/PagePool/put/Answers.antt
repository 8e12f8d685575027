use Rattle.std.proofs.Common.{◌≡◌, ◌∙◌, ap, refl, sym, false}
use Rattle.std.specs.Prelude.{None}
use Rattle.page_pool.specs.Frames.{frame_at, frame_in, is_dirty_in}
use Rattle.page_pool.specs.Side.{Pool}
use Rattle.std.proofs.lemmas.Bool.{both_ways}
use Rattle.page_pool.proofs.Apart.{holds_beside, pool_drop, shows_set}
use Rattle.page_pool.proofs.Counts.{marks_same, sets_same}
use Rattle.page_pool.proofs.pool.PagePool.put.Goals as goal

pub invariant_of-self-2 : goal.invariant_of-self-2
invariant_of-self-2 g c =
    let old = frame_in c.self.inside.frames in
    let new = frame_in c.remove.new.frames in
    let clean : is_dirty_in (old c.args.page) ≡ false = ap (λ (p : Pool _). is_dirty_in (frame_at p.frames c.args.page)) c.self.view_is ∙ c.requires.same ∙ c.if-frame.false in
    let are = sets_same old new c.args.page None c.remove.ensures _ c.self.inside.dirty c.self.invariant.frames (λ some. absurd (both_ways false refl some)) (sym clean) in
    pool_drop old new c.args.page c.self.inside.clean _ c.self.inside.dirty _ c.self.invariant are _ c.keep.new.clean c.remove.ensures c.keep.ensures.beside c.keep.ensures.room

pub returns-clause-kept : goal.returns-clause-kept
returns-clause-kept g c =
    rw (← c.self.view_is)
    (λ now device loose dirty same is. record {
      marks = λ page. marks_same (frame_in c.self.inside.frames) (frame_in c.remove.new.frames) c.args.page None c.remove.ensures _ c.self.inside.dirty c.self.invariant.frames (sym (ap (λ (p : Pool _). is_dirty_in (frame_at p.frames c.args.page)) c.self.view_is ∙ c.requires.same ∙ c.if-frame.false)) page ∙ is.marks page;
      settled = is.settled;
      unsettled = is.unsettled;
      shows = λ told. record {
        frames = shows_set (frame_in c.self.inside.frames) (frame_in c.remove.new.frames) c.args.page None now now c.remove.ensures (λ other apart. refl) (is.shows told).frames tt;
        clean = holds_beside c.self.inside.clean.entries c.keep.new.clean.entries c.args.page _ now (is.shows told).clean c.keep.ensures.beside (same told);
      };
      reads = is.reads;
      same = is.same;
    })
