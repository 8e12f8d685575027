-- A table of which the rows are read at which WHERE is not false.
use Rattle.std.proofs.Common.{◌≡◌, ◌∙◌, ℕ, List, [], ◌∷◌, Option, None, Result, Ok, Err, inl, inr, refl, sym, ap}
use Rattle.retro_base.specs.declared.refusal.Refusal.{Refusal}
use Rattle.sql_tree.specs.Condition.{ConditionTree}
use Rattle.sql_tree.specs.declared.schema.TableSchema.{TableSchema}
use Rattle.sql_tree.specs.declared.select.Select.{Select as SelectRecord}
use Rattle.sql_check.specs.Outputs.{answer_columns}
use Rattle.sql_select.specs.Rows.{holds_at}
use Rattle.pager.specs.Pages.{Pages}
use Rattle.heap_file.specs.declared.chain.Placed.{Placed}
use Rattle.heap_file.proofs.Ones.{differ}
use Rattle.relation.specs.declared.catalog.StoredTable.{StoredTable}
use Rattle.sql_exec.specs.declared.source.Source.{Source}
use Rattle.sql_exec.specs.Asking.{over_one, source_at, source_of}
use Rattle.sql_exec.specs.Bound.{source_left, stays_by}
use Rattle.sql_exec.specs.Reading.{schema_at}
use Rattle.sql_exec.proofs.Leaving.{filter-true, left-out}
use Rattle.sql_exec.proofs.Sifting.{answer-sifted}

module _ (size : ℕ) (snapshot : Option ℕ) (pages : Pages) (found : Option StoredTable) where
  -- a refusal is one of reading the table whole
  pub source-not : (condition : Option ConditionTree) (why : Refusal) → source_left size snapshot pages found condition (Err why) → source_at size pages found condition (Err why)
  source-not condition why (inl unknown) = inl unknown
  source-not condition why (inr (table, named, inl refused)) = inr (table, named, inl refused)
  source-not condition why (inr (table, named, inr (left, leaves, e))) = differ _ why e

  -- without a condition all rows are there
  pub source-whole : (a : Result Source Refusal) → source_left size snapshot pages found None a → source_at size pages found None a
  source-whole (Ok first) (table, named, (left, (rows, read, same), e)) =
      (table, named, (rows, read, ap (λ (l : List Placed). Ok (source_of table l)) (sym (same ∙ filter-true rows)) ∙ e))
  source-whole (Err why) h = source-not None why h

  -- the table with all rows that are read gives the same answer
  pub source-one : (query : SelectRecord) (first : Source) → source_left size snapshot pages found query.condition (Ok first) → (whole : Source) × source_at size pages found query.condition (Ok whole) × (over_one query snapshot whole ≡ over_one query snapshot first)
  source-one query first (table, named, (left, (rows, read, same), e)) =
      let scope : List TableSchema = schema_at table ∷ [] in
      let is : source_of table left ≡ first = cc e in (
        source_of table rows,
        (table, named, (rows, read, refl)),
        sym (answer-sifted query scope (answer_columns scope query.list) snapshot (stays_by (holds_at scope snapshot query.condition)) rows (left-out (holds_at scope snapshot query.condition) rows))
            ∙ ap (λ (l : List Placed). over_one query snapshot (source_of table l)) (sym same)
            ∙ ap (over_one query snapshot) is,
      )
