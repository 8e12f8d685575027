use Rattle.std.proofs.Common.{◌≡◌, ◌∙◌, ap, refl, subst, sym}
use Rattle.std.specs.Prelude.{Option, None, IfSome, IsSome}
use Rattle.page_pool.specs.declared.frames.Frame.{Frame}
use Rattle.page_pool.specs.Frames.{frame_at, frame_in, is_dirty_in}
use Rattle.page_pool.specs.Side.{Pool}
use Rattle.page_pool.proofs.Apart.{holds_beside, pool_drop, pool_set, shows_set}
use Rattle.page_pool.proofs.Counts.{one_dirty, sets_clean}
use Rattle.page_pool.proofs.pool.PagePool.clear.Goals as goal

pub overflow_sub-self : goal.overflow_sub-self
overflow_sub-self g c =
    let old = frame_in c.self.inside.frames in
    let there = ap (λ (p : Pool _). frame_at p.frames c.args.page) c.self.view_is ∙ c.requires.there in
    let some = subst (λ (o : Option Frame). IsSome o) (sym there) refl in
    one_dirty old _ c.self.inside.dirty c.args.page c.self.invariant.frames (c.self.invariant.frames.within c.args.page some) (ap is_dirty_in there ∙ c.requires.dirty)

pub invariant_of-self : goal.invariant_of-self
invariant_of-self g c =
    let old = frame_in c.self.inside.frames in
    let new = frame_in c.replace.new.frames in
    let there = ap (λ (p : Pool _). frame_at p.frames c.args.page) c.self.view_is ∙ c.requires.there in
    let some = subst (λ (o : Option Frame). IsSome o) (sym there) refl in
    let are = sets_clean old new c.args.page _ c.replace.ensures _ c.self.inside.dirty c.self.invariant.frames (c.self.invariant.frames.within c.args.page some) (ap is_dirty_in there ∙ c.requires.dirty) refl in
    pool_set old new c.args.page c.self.inside.clean _ c.self.inside.dirty _ c.self.invariant are _ c.replace.ensures some

pub invariant_of-self-2 : goal.invariant_of-self-2
invariant_of-self-2 g c =
    let old = frame_in c.self.inside.frames in
    let new = frame_in c.remove.new.frames in
    let there = ap (λ (p : Pool _). frame_at p.frames c.args.page) c.self.view_is ∙ c.requires.there in
    let some = subst (λ (o : Option Frame). IsSome o) (sym there) refl in
    let are = sets_clean old new c.args.page None c.remove.ensures _ c.self.inside.dirty c.self.invariant.frames (c.self.invariant.frames.within c.args.page some) (ap is_dirty_in there ∙ c.requires.dirty) refl in
    pool_drop old new c.args.page c.self.inside.clean _ c.self.inside.dirty _ c.self.invariant are _ c.keep.new.clean c.remove.ensures c.keep.ensures.beside c.keep.ensures.room

pub returns-clause-shows : goal.returns-clause-shows
returns-clause-shows g c =
    rw (← c.self.view_is)
    (λ now shows.
    let old = frame_in c.self.inside.frames in
    let there = ap (λ (p : Pool _). frame_at p.frames c.args.page) c.self.view_is ∙ c.requires.there in
    record {
      frames = shows_set old (frame_in c.remove.new.frames) c.args.page None now now c.remove.ensures (λ other apart. refl) shows.frames tt;
      clean = holds_beside c.self.inside.clean.entries c.keep.new.clean.entries c.args.page _ now shows.clean c.keep.ensures.beside (subst (λ (o : Option Frame). IfSome o (λ f. f.bytes ≡ now c.args.page)) there (shows.frames c.args.page));
    })
