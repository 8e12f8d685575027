use Rattle.std.proofs.Common.{◌≡◌, ◌∙◌, ◌<◌, arith, ℕ, List, ap, refl, sym, subst, Contains}
use Rattle.std.specs.Prelude.{option_copied, None}
use Rattle.page_pool.specs.declared.frames.Frame.{Frame}
use Rattle.page_pool.specs.Frames.{frame_at, frame_in}
use Rattle.page_pool.specs.Side.{IsPageSide, Pool}
use Rattle.page_pool.proofs.Adding.{pool_tried, side_tried}
use Rattle.page_pool.proofs.pool.PagePool.hold.Goals as goal

pub invariant_of-self-in-Ok : goal.invariant_of-self-in-Ok
invariant_of-self-in-Ok g c =
    let page = c.args.page in
    let old = c.self-2.inside.frames in
    let view = c.self-2.view_is in
    let none : frame_in old page ≡ None = ap (λ (p : Pool _). frame_at p.frames page) view ∙ ap (λ (l : List (ℕ × Frame)). frame_at l page) (c.take.ensures.frames ∙ sym (ap (λ (p : Pool _). p.frames) c.self.view_is)) ∙ sym c.get.ensures.value ∙ ap option_copied c.in_default.is in
    let lt : page < c.self-2.inside.file.blocks = omega (arith, c.requires, ap (λ (p : Pool _). p.file.blocks) view, c.take.ensures.same.blocks) in
    pool_tried old c.add.new.frames page _ c.self-2.inside.clean _ c.self-2.inside.dirty c.self-2.invariant c.add.result (record { done = c.add.ensures.done; refused = c.add.ensures.untouched; none = none; clean = refl }) lt (λ bytes at. c.in-Ok.ensures.gone bytes (subst (λ (p : Pool _). Contains p.clean (page, bytes)) view at))

pub returns-in-Ok-clause-kept : goal.returns-in-Ok-clause-kept
returns-in-Ok-clause-kept g c = λ now device loose dirty is.
    let page = c.args.page in
    let old = c.self-2.inside.frames in
    let view = c.self-2.view_is in
    let none : frame_in old page ≡ None = ap (λ (p : Pool _). frame_at p.frames page) view ∙ ap (λ (l : List (ℕ × Frame)). frame_at l page) (c.take.ensures.frames ∙ sym (ap (λ (p : Pool _). p.frames) c.self.view_is)) ∙ sym c.get.ensures.value ∙ ap option_copied c.in_default.is in
    let pool = c.self-2.invariant in
    let here = subst (λ (p : Pool _). IsPageSide g.D.Disk.is_honest g.D.Disk.state p now device loose dirty) (sym view) (c.take.ensures.kept now device loose dirty is) in
    side_tried old c.add.new.frames page _ c.self-2.inside.clean _ c.self-2.inside.dirty pool g.D.Disk.is_honest g.D.Disk.state _ now device loose dirty c.add.result (record { done = c.add.ensures.done; refused = c.add.ensures.untouched; none = none; clean = refl }) refl
    (λ told. c.in-Ok.ensures.taken now device loose dirty (c.take.ensures.same.honest.1 (subst (λ (p : Pool _). g.D.Disk.is_honest p.file.disk) view told)) is) here

pub returns-in-Ok-clause-near : goal.returns-in-Ok-clause-near
returns-in-Ok-clause-near g c =
    let file = ap (λ (p : Pool _). p.file) c.self-2.view_is in
    let near = c.take.ensures.near in
    record { framed = λ some. file ∙ near.framed some; cached = λ bytes at. file ∙ near.cached bytes at }
