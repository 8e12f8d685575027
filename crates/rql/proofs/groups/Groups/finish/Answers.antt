use Rattle.std.proofs.Common.{◌∙◌, ◌+◌, ◌++◌, Ok, ap, append_assoc, inl, inr, length, sym}
use Rattle.std.proofs.lemmas.List.{length_push}
use Rattle.sql_select.specs.Each.{onto}
use Rattle.rql.specs.Table.{table_rows}
use Rattle.rql.proofs.GroupFolds.{all_yielded, at_seam, gives_refused, its_group, its_rows, table_ends, table_from, table_more, table_refused}
use Rattle.rql.proofs.groups.Groups.finish.Goals as goal

pub returns-in_err-finish-clause-exact : goal.returns-in_err-finish-clause-exact
returns-in_err-finish-clause-exact c = λ functions rows are.
    let before = c.loop-group.invariant in
    let place = length c.loop-group.yielded in
    let here = at_seam c.loop-group.yielded c.loop-group.group-iterator.rest.items c.next.new.self.rest.items c.args.self.groups.items c.in-Some.group before.split c.in-Some.ensures.steps.0 in
    let said = c.in_err-finish.ensures.exact functions (its_rows functions c.args.self rows place are c.in-Some.group here) (its_group functions c.args.self rows place are c.in-Some.group here) in
    gives_refused (λ rows. rows) (table_rows functions rows) c.from_residual-in_err-finish.result c.in_err-finish.field-0.0 c.from_residual-in_err-finish.ensures
    (elim said [
      | inl memory ↦ inl memory
      | inr e ↦ inr (sym (before.rest functions rows are) ∙ table_refused functions c.args.self rows place are c.in-Some.group here c.loop-group.rows.items c.in_err-finish.field-0.0 e)
    ])

pub loop-group-preserved : goal.loop-group-preserved
loop-group-preserved c =
    let before = c.loop-group.invariant in
    let place = length c.loop-group.yielded in
    let here = at_seam c.loop-group.yielded c.loop-group.group-iterator.rest.items c.next.new.self.rest.items c.args.self.groups.items c.in-Some.group before.split c.in-Some.ensures.steps.0 in
    record {
      split = append_assoc c.loop-group.yielded _ _ ∙ ap (λ l. c.loop-group.yielded ++ l) (sym c.in-Some.ensures.steps.0) ∙ before.split;
      rest = λ functions rows are.
          let row_is = c.in_ok-finish.ensures.exact functions (its_rows functions c.args.self rows place are c.in-Some.group here) (its_group functions c.args.self rows place are c.in-Some.group here) in
          ap (λ n. onto c.push.new.self.items (table_from functions n rows)) (length_push c.loop-group.yielded c.in-Some.group)
          ∙ ap (λ l. onto l (table_from functions (place + 1) rows)) c.in_ok-push.ensures.items
          ∙ sym (table_more functions c.args.self rows place are c.in-Some.group here c.loop-group.rows.items c.in_ok-finish.field-0 row_is)
          ∙ before.rest functions rows are;
    }

pub returns-clause-exact : goal.returns-clause-exact
returns-clause-exact c = λ functions rows are.
    let before = c.loop-group.invariant in
    let left = c.loop-group.group-iterator.rest in
    sym (before.rest functions rows are)
    ∙ table_ends functions c.args.self rows (length c.loop-group.yielded) are c.loop-group.rows.items (all_yielded c.loop-group.yielded c.loop-group.group-iterator.rest.items c.args.self.groups.items before.split (sym left.ok.0 ∙ c.in-None.ensures.steps.0))
    ∙ ap (λ l. Ok l) (sym c.from.ensures)
