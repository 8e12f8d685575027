use Rattle.std.proofs.Common.{rules, ◌≡◌, ◌<◌, ◌∙◌, length, ap, sym, arith}
use Rattle.index_page.specs.declared.page.Form.TheVariants as form
use Rattle.tree_index.specs.Counting.{back-some}
use Rattle.tree_index.proofs.Climbed.{halved, head-rest}
use Rattle.tree_index.proofs.climb.part.Goals as goal

pub remove-first-requires : goal.remove-first-requires
remove-first-requires c =
    omega (arith, c.from-back.result.ok.0, ap length c.from-back.ensures, ap length c.in_ok-front.ensures.1, back-some c.args.whole.entries c.requires.lawful c.requires.short c.requires.full)

pub index-requires : goal.index-requires
index-requires c =
    omega (arith, c.from-back.result.ok.0, ap length c.from-back.ensures, ap length c.in_ok-front.ensures.1, back-some c.args.whole.entries c.requires.lawful c.requires.short c.requires.full)

pub returns : goal.returns
returns c =
    let some = back-some c.args.whole.entries c.requires.lawful c.requires.short c.requires.full in
    let items = c.from-back.ensures ∙ c.in_ok-front.ensures.1 in
    let there : 0 < length c.from-back.result.items = omega (arith, ap length items, some) in
    let split = head-rest c.from-back.result.items c.index.result.now there c.index.ensures in
    let other : c.args.whole.form ≡ form.Inner → ⊥ = search rules in
    halved c.args.whole c.args.next c.in_ok-front.front c.from-2.result c.in_ok-first.first c.index.result.now split.0 other c.in_ok-front.ensures.0 (sym items ∙ split.1) c.in_ok-first.ensures (c.from-2.ensures ∙ split.1)
