use Rattle.std.proofs.Common.{◌∙◌, ◌+◌, ◌^◌, Ok, ap, refl, sym, nat_lt}
use Rattle.std.proofs.lemmas.List.{with_items_is}
use Rattle.sql_select.specs.Bound.{keeps}
use Rattle.sql_totals.proofs.Totalling.{counted_as, row_kept, row_skipped, tally_kept}
use Rattle.sql_totals.proofs.totals.Totals.add.Goals as goal

pub returns-in_ok-add_to_each-clause-tally : goal.returns-in_ok-add_to_each-clause-tally
returns-in_ok-add_to_each-clause-tally c =
    let totals = c.args.self.now.totals in
    let each_is = rw (c.of_one-row.ensures, c.deref_mut.ensures.value) at c.in_ok-add_to_each.ensures in
    tally_kept c.args.row.now c.args.self.now _ _
    (ap (keeps c.args.self.now.filter) (sym c.of_one-row.ensures) ∙ c.in_ok-keeps.ensures ∙ ap (λ b. Ok b) c.if-branch.true)
    (sym c.one_more.ensures ∙ c.in_ok-rows.ensures.ok_part)
    (each_is ∙ ap (λ l. Ok l) (sym (with_items_is totals c.add_to_each.new.totals (c.add_to_each.auto.totals ∙ c.deref_mut.ensures.len))))

pub returns-in_ok-add_to_each-clause-totals : goal.returns-in_ok-add_to_each-clause-totals
returns-in_ok-add_to_each-clause-totals c select scope snapshot rows are =
    let totals = c.args.self.now.totals in
    let each_is = rw (c.of_one-row.ensures, c.deref_mut.ensures.value) at c.in_ok-add_to_each.ensures in
    let count = counted_as (nat_lt (c.args.self.now.rows + 1) (2 ^ 64)) (sym c.one_more.ensures ∙ c.in_ok-rows.ensures.ok_part) in
    row_kept select scope snapshot rows c.args.self.now are c.args.row.now _ refl
    (ap (keeps c.args.self.now.filter) (sym c.of_one-row.ensures) ∙ c.in_ok-keeps.ensures ∙ ap (λ b. Ok b) c.if-branch.true)
    (each_is ∙ ap (λ l. Ok l) (sym (with_items_is totals c.add_to_each.new.totals (c.add_to_each.auto.totals ∙ c.deref_mut.ensures.len))))
    count

pub returns-else-branch-clause-totals : goal.returns-else-branch-clause-totals
returns-else-branch-clause-totals c select scope snapshot rows are =
    row_skipped select scope snapshot rows c.args.self.now are c.args.row.now _ refl
    (ap (keeps c.args.self.now.filter) (sym c.of_one-row.ensures) ∙ c.in_ok-keeps.ensures ∙ ap (λ b. Ok b) c.if-branch.false)
    refl refl
