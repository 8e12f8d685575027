use Rattle.std.proofs.Common.{◌≡◌, ◌∙◌, ◌+◌, ◌≤◌, ℕ, Bool, true, false, not, cond, ap, arith, refl, sym, subst}
use Rattle.std.specs.Prelude.{Option, option_copied, IsSome}
use mir.Val.{bool_byte}
use Rattle.page_pool.specs.declared.frames.Frame.{Frame}
use Rattle.page_pool.specs.Frames.{AreFrames, frame_in, is_dirty_in}
use Rattle.page_pool.proofs.Apart.{pool_set}
use Rattle.page_pool.proofs.Counts.{count-le, sets_marked}
use Rattle.page_pool.proofs.pool.PagePool.write_page.Goals as goal

small : (b : Bool) → bool_byte b ≤ 1
small true = omega arith
small false = omega arith

ticked : (b : Bool) → cond (not b) 1 0 ≡ bool_byte (not b)
ticked true = refl
ticked false = refl

pub overflow_add-self : goal.overflow_add-self
overflow_add-self g c =
    let frames = c.self.invariant.frames in
    omega (arith, c.from.ensures, small (not c.in-Some.frame.now.is_dirty), frames.counted, count-le (λ page. is_dirty_in (frame_in c.self.inside.frames page)) c.self.inside.file.blocks, c.self.invariant.few)

pub invariant_of-self : goal.invariant_of-self
invariant_of-self g c =
    let page = c.args.write.now.page in
    let old = frame_in c.self.inside.frames in
    let new = frame_in c.replace.new.frames in
    let there = sym c.get.ensures.value ∙ ap option_copied c.in-Some.is in
    let some = subst (λ (o : Option Frame). IsSome o) (sym there) refl in
    let are = sets_marked old new page _ c.replace.ensures _ c.self.inside.dirty c.self.invariant.frames (c.self.invariant.frames.within page some) refl in
    pool_set old new page c.self.inside.clean _ c.self.inside.dirty _ c.self.invariant (subst (λ (n : ℕ). AreFrames new c.self.inside.file.blocks n) (ap (λ (n : ℕ). c.self.inside.dirty + n) (ticked (is_dirty_in (old page)) ∙ ap (λ (b : Bool). bool_byte (not b)) (ap is_dirty_in there) ∙ sym c.from.ensures)) are) _ c.replace.ensures some
