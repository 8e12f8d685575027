use Rattle.std.proofs.Common.{◌≡◌, ◌∙◌, ◌∷◌, [], Bool, List, None, Result, Some, subst, sym}
use Rattle.retro_base.specs.declared.refusal.Refusal.{Refusal}
use Rattle.values.specs.declared.value.Value.{Value}
use Rattle.heap_file.proofs.Ways.{allowed_on}
use Rattle.relation.specs.Work.{ranged_by, rows_at, rows_by}
use Rattle.tree_index.specs.Work.{ranged}
use Rattle.sql_select.specs.Bound.{keeps}
use Rattle.sql_select.specs.Rows.{holds_at}
use Rattle.sql_exec.specs.Bound.{left_at, passes_by}
use Rattle.sql_exec.specs.Ranges.{plan_of}
use Rattle.sql_exec.specs.Reading.{schema_at}
use Rattle.sql_exec.proofs.Leaving.{all-left, range-left, rows-left}
use Rattle.sql_exec.proofs.Ranged.{plan_kind}
use Rattle.sql_exec.proofs.reading.read_rows.Goals as goal

pub returns-in_default-clause-rows : goal.returns-in_default-clause-rows
returns-in_default-clause-rows g c = λ snapshot kept base shown told.
    let size = g.P.Pager.size c.args.pager.now in
    let table = c.args.table.now in
    rw c.in_default.is
    (allowed_on (λ rows. rows.items) (rows_at size shown table) (left_at size snapshot shown table None) c.rows.result
    (all-left size snapshot shown table)
    (c.rows.ensures.rows base shown told))

pub ranged_by-requires : goal.ranged_by-requires
ranged_by-requires g c =
    plan_kind c.args.schema.now c.as_slice.result.now (Some c.in-Some.condition) c.in-Some-2.range (sym c.in_ok-range.ensures ∙ c.in-Some-2.is)

pub returns-in-Some-2-clause-rows : goal.returns-in-Some-2-clause-rows
returns-in-Some-2-clause-rows g c = λ snapshot kept base shown told.
    let size = g.P.Pager.size c.args.pager.now in
    let table = c.args.table.now in
    let condition = Some c.in-Some.condition in
    let range = c.in-Some-2.range in
    let truth = keeps c.args.filter.now in
    let holds : truth ≡ holds_at (schema_at table ∷ []) snapshot condition = rw (c.requires, c.in-Some.is) at kept in
    let planned : plan_of (schema_at table) table.indexes condition ≡ Some range = sym (rw (c.requires, c.as_slice.ensures) at c.in_ok-range.ensures) ∙ c.in-Some-2.is in
    rw c.in-Some.is
    (allowed_on (λ rows. rows.items) (ranged_by (passes_by truth) ranged size shown table range.index range.low range.high) (left_at size snapshot shown table condition) c.ranged_by.result
    (λ a h. range-left size snapshot shown table condition a range planned
    (subst (λ (t : List Value → Result Bool Refusal). ranged_by (passes_by t) ranged size shown table range.index range.low range.high a) holds h))
    (c.ranged_by.ensures.ranged base shown told))

pub returns-in-None-clause-rows : goal.returns-in-None-clause-rows
returns-in-None-clause-rows g c = λ snapshot kept base shown told.
    let size = g.P.Pager.size c.args.pager.now in
    let table = c.args.table.now in
    let condition = Some c.in-Some.condition in
    let truth = keeps c.args.filter.now in
    let holds : truth ≡ holds_at (schema_at table ∷ []) snapshot condition = rw (c.requires, c.in-Some.is) at kept in
    let planned : plan_of (schema_at table) table.indexes condition ≡ None = sym (rw (c.requires, c.as_slice.ensures) at c.in_ok-range.ensures) ∙ c.in-None.is in
    rw c.in-Some.is
    (allowed_on (λ rows. rows.items) (rows_by (passes_by truth) size shown table) (left_at size snapshot shown table condition) c.rows_by.result
    (λ a h. rows-left size snapshot shown table condition a planned
    (subst (λ (t : List Value → Result Bool Refusal). rows_by (passes_by t) size shown table a) holds h))
    (c.rows_by.ensures.rows base shown told))
