use Rattle.std.proofs.Common.{◌∙◌, ◌∷◌, [], Bool, List, Result, Vec, Global, ap, subst}
use Rattle.retro_base.specs.Gives.{Gives}
use Rattle.retro_base.specs.declared.refusal.Refusal.{Refusal}
use Rattle.values.specs.declared.value.Value.{Value}
use Rattle.sql_tree.specs.declared.statement.Assignment.{Assignment}
use Rattle.relation.specs.declared.drafting.RowChange.{RowChange}
use Rattle.sql_select.specs.Rows.{holds_at}
use Rattle.tables.specs.Bound.{assigns}
use Rattle.tables.specs.Meaning.{assigned}
use Rattle.sql_exec.specs.Bound.{placed_changes_by}
use Rattle.sql_exec.specs.Planning.{picked}
use Rattle.sql_exec.proofs.changing.changes_of.Goals as goal

pub returns : goal.returns
returns c =
    let table = c.args.table.now in
    let update = c.args.query.now in
    let sets : List Assignment → List Value → Result (List Value) Refusal = λ assignments row. assigned table c.args.snapshot row assignments row in
    let kept = subst (λ (keeps : List Value → Result Bool Refusal). Gives (λ (changes : Vec RowChange Global). changes.items) c.changes_by.result (picked (placed_changes_by keeps (assigns c.in_ok-assignments.assignments)) c.args.rows.items))
    c.requires
    c.changes_by.ensures in
    subst (λ (a : List Value → Result (List Value) Refusal). Gives (λ (changes : Vec RowChange Global). changes.items) c.changes_by.result (picked (placed_changes_by (holds_at (table ∷ []) c.args.snapshot update.condition) a) c.args.rows.items))
    (c.in_ok-assignments.ensures ∙ ap sets c.as_slice-assignments.ensures)
    kept
