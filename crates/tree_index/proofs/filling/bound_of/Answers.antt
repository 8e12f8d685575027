use Rattle.std.proofs.Common.{◌≡◌, ◌∙◌, ap, rules}
use Rattle.std.specs.Option.{option_copied}
use Rattle.index_page.specs.declared.page.Form.TheVariants as form
use Rattle.tree_index.specs.Filling.{first_above, lower}
use Rattle.tree_index.proofs.Following.{bound-lower, bound-stays}
use Rattle.tree_index.proofs.filling.bound_of.Goals.{then-eq, else-eq}
use Rattle.tree_index.proofs.filling.bound_of.Goals as goal

pub loop-met-preserved : goal.loop-met-preserved
loop-met-preserved c =
    let met = c.met-item.result in
    let so_far = c.loop-met.invariant in
    elim c.if-eq.branch [
      | then-eq w ↦
          let keys : option_copied w.first_above.result ≡ first_above c.args.entry.now met.held.entries = rw w.as_slice.ensures at w.first_above.ensures in
          let is : option_copied c.if-eq.bound ≡ lower (option_copied c.loop-met.bound) (first_above c.args.entry.now met.held.entries) =
          ap (λ b. option_copied b) w.bound-is ∙ w.lower-bound.ensures ∙ ap (lower (option_copied c.loop-met.bound)) keys in
          rw is (bound-lower c.args.entry.now c.args.way.now c.loop-met.met-index met (option_copied c.loop-met.bound) c.loop-met-test.true c.met-item.is so_far)
      | else-eq w ↦
          let other : met.held.form ≡ form.Inner → ⊥ = search rules in
          rw w.bound-is (bound-stays c.args.entry.now c.args.way.now c.loop-met.met-index met (option_copied c.loop-met.bound) c.loop-met-test.true c.met-item.is other so_far)
    ]
