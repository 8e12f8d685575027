use Rattle.std.proofs.Common.{◌≡◌, ◌∙◌, ◌+◌, ◌++◌, None, Some, Ok, Err, ap, append-nil, append_assoc, drop, inr, length, refl, rules, sym}
use Rattle.std.proofs.lemmas.List.{length_push}
use Rattle.sql_select.specs.Each.{onto}
use Rattle.rql.specs.Table.{row_of_group}
use Rattle.rql.proofs.GroupFolds.{at_seam, gives_refused, row_more, row_refused}
use Rattle.rql.proofs.GroupRows.{row_from}
use Rattle.rql.proofs.groups.Group.finish.Goals as goal

pub returns-in_err-value-clause-exact : goal.returns-in_err-value-clause-exact
returns-in_err-value-clause-exact c = λ functions rows is.
    let before = c.loop-cell.invariant in
    let here = at_seam c.loop-cell.yielded c.loop-cell.cell-iterator.rest.items c.next.new.self.rest.items c.args.self.cells.items c.in-Some.cell before.split c.in-Some.ensures.steps.0 in
    gives_refused (λ row. row) (row_of_group functions rows) c.from_residual-in_err-value.result c.in_err-value.field-0.0 c.from_residual-in_err-value.ensures
    (inr (sym (before.rest functions rows is) ∙ row_refused functions c.args.self rows (length c.loop-cell.yielded) is c.in-Some.cell here (Err c.in_err-value.field-0.0) c.in_err-value.ensures.exact c.loop-cell.values.items c.in_err-value.field-0.0 refl))

pub loop-cell-preserved-in-Continue-branch-4 : goal.loop-cell-preserved-in-Continue-branch-4
loop-cell-preserved-in-Continue-branch-4 c =
    let before = c.loop-cell.invariant in
    let here = at_seam c.loop-cell.yielded c.loop-cell.cell-iterator.rest.items c.next.new.self.rest.items c.args.self.cells.items c.in-Some.cell before.split c.in-Some.ensures.steps.0 in
    record {
      split = append_assoc c.loop-cell.yielded _ _ ∙ ap (λ l. c.loop-cell.yielded ++ l) (sym c.in-Some.ensures.steps.0) ∙ before.split;
      rest = λ functions rows is.
          ap (λ n. onto c.push.new.self.items (row_from n (drop n functions) rows)) (length_push c.loop-cell.yielded c.in-Some.cell)
          ∙ ap (λ l. onto l (row_from (length c.loop-cell.yielded + 1) (drop (length c.loop-cell.yielded + 1) functions) rows)) c.in_ok-push.ensures.items
          ∙ sym (row_more functions c.args.self rows (length c.loop-cell.yielded) is c.in-Some.cell here (Ok c.in_ok-value.field-0) c.in_ok-value.ensures.exact c.loop-cell.values.items (Some c.in-Some-2.value) (ap (λ v. Ok v) c.in-Some-2.is))
          ∙ before.rest functions rows is;
    }

pub loop-cell-preserved : goal.loop-cell-preserved
loop-cell-preserved c =
    let before = c.loop-cell.invariant in
    let here = at_seam c.loop-cell.yielded c.loop-cell.cell-iterator.rest.items c.next.new.self.rest.items c.args.self.cells.items c.in-Some.cell before.split c.in-Some.ensures.steps.0 in
    let none : c.in_ok-value.field-0 ≡ None = search rules in
    record {
      split = append_assoc c.loop-cell.yielded _ _ ∙ ap (λ l. c.loop-cell.yielded ++ l) (sym c.in-Some.ensures.steps.0) ∙ before.split;
      rest = λ functions rows is.
          ap (λ n. onto c.loop-cell.values.items (row_from n (drop n functions) rows)) (length_push c.loop-cell.yielded c.in-Some.cell)
          ∙ ap (λ l. onto l (row_from (length c.loop-cell.yielded + 1) (drop (length c.loop-cell.yielded + 1) functions) rows)) (sym (append-nil c.loop-cell.values.items))
          ∙ sym (row_more functions c.args.self rows (length c.loop-cell.yielded) is c.in-Some.cell here (Ok c.in_ok-value.field-0) c.in_ok-value.ensures.exact c.loop-cell.values.items None (ap (λ v. Ok v) none))
          ∙ before.rest functions rows is;
    }
