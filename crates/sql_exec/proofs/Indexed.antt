-- What CREATE INDEX does to well-formed pages is what it means over their tables.
use Rattle.std.proofs.Common.{◌≡◌, ◌∙◌, ◌⊎◌, ◌||◌, ◌∷◌, cond, ℕ, Bool, true, false, not, List, [], map, Option, Some, None, Result, Ok, Err, inl, inr, refl, sym, ap, subst}
use Rattle.std.specs.Prelude.{is_ok}
use Rattle.std.specs.Cmp.Lexicographic.{pointwise}
use Rattle.std.specs.List.{Contains, find}
use Rattle.std.specs.Prelude.{◌==◌}
use Rattle.retro_base.specs.declared.refusal.Refusal.{Refusal}
use Rattle.values.specs.Name.{IsName, same_name}
use Rattle.sql_tree.specs.Scope.{column_place}
use Rattle.sql_tree.specs.declared.schema.Schema.{Schema}
use Rattle.sql_tree.specs.declared.schema.TableSchema.{TableSchema}
use Rattle.sql_tree.specs.declared.statement.Column.{Column}
use Rattle.sql_tree.specs.declared.statement.CreateIndex.{CreateIndex as IndexRecord}
use Rattle.sql_tree.specs.declared.statement.Statement.TheVariants.{CreateIndex}
use Rattle.sql_check.specs.Check.{checked, has_column, has_unknown_name, has_wrong_type, lacks, takes_taken_name}
use Rattle.sql_check.specs.Names.{is_reserved, stored_table, table_named as named_in}
use Rattle.tables.specs.declared.reply.Reply.{Reply}
use Rattle.tables.specs.declared.reply.Reply.TheVariants.{Plain}
use Rattle.tables.specs.Meaning.{known}
use Rattle.pager.specs.Allows.{◌>>=◌, only}
use Rattle.pager.specs.Pages.{Pages}
use Rattle.heap_file.proofs.Ones.{differ}
use Rattle.relation.specs.declared.catalog.Catalog.{Catalog}
use Rattle.relation.specs.declared.catalog.StoredTable.{StoredTable}
use Rattle.relation.specs.Catalog.{schema_of, table_named}
use Rattle.relation.specs.Work.{or_broken, table_in, table_indexed}
use Rattle.tree_index.specs.Work as tree
use Rattle.relation.proofs.Steps.{next_step}
use Rattle.relation_laws.specs.Laws.{HasColumn, IsStoreOf, with_index}
use Rattle.relation_laws.specs.Tables.{PlainTables}
use Rattle.relation_laws.specs.Work.{IsWorked, LeavesWorked}
use Rattle.relation_laws.specs.Work.Work.{Indexes}
use Rattle.relation_laws.proofs.Catalogs.{goes-on}
use Rattle.relation_laws.proofs.Indexing.{ColumnAt, column-at, place-found}
use Rattle.relation_laws.proofs.Lists.{contains-cons, contains-head}
use Rattle.relation_laws.proofs.Names.{name-is}
use Rattle.relation_laws.proofs.Working.{work_law}
use Rattle.sql_exec.specs.Reading.{schema_at}
use Rattle.sql_exec.specs.Promises.{IsDoneOver, IsRunOver}
use Rattle.sql_exec.specs.Running.{at_table, given, made_index}
use Rattle.sql_exec.specs.Stored.{plain}
use Rattle.sql_exec.proofs.Created.{new-name}
use Rattle.sql_exec.proofs.Fitting.{found-in, not-false, passed}
use Rattle.sql_exec.proofs.Inserted.{table-by-name, table-there}
use Rattle.sql_exec.proofs.Meaning.{does-passed}
use Rattle.sql_exec.proofs.Named.{Here, Missing, by-name-here, schema-same}

clash : {P : Type 0} → true ≡ false → P
clash e = absurd (no e)
  where
    no : true ≡ false → ⊥
    no e = cc

-- a column that a table has
has-named : (name : List ℕ) (columns : List Column) → has_column name columns ≡ true → Contains (map (λ (column : Column). column.name) columns) name
has-named name [] e = clash (sym e)
has-named name (column ∷ columns) e = go (same_name column.name name) refl e (has-named name columns)
  where
    go : (b : Bool) → same_name column.name name ≡ b → b || has_column name columns ≡ true → (has_column name columns ≡ true → Contains (map (λ (column : Column). column.name) columns) name) → Contains (map (λ (column : Column). column.name) (column ∷ columns)) name
    go true is e rest = subst (λ (n : List ℕ). Contains (map (λ (column : Column). column.name) (column ∷ columns)) n) (name-is column.name name is) (contains-head column.name (map (λ (column : Column). column.name) columns))
    go false is e rest = contains-cons name column.name (map (λ (column : Column). column.name) columns) (rest e)

-- a table that is not in the catalog is not in its schema
missing-in : (name : List ℕ) (stored : List StoredTable) → table_named name stored ≡ None → find (λ (t : TableSchema). pointwise ◌==◌ t.name name) (map schema_at stored) ≡ None
missing-in name [] e = refl
missing-in name (first ∷ stored) e = go (same_name first.name name) e (missing-in name stored)
  where
    go : (b : Bool) → cond b (Some first) (table_named name stored) ≡ None → (table_named name stored ≡ None → find (λ (t : TableSchema). pointwise ◌==◌ t.name name) (map schema_at stored) ≡ None) → cond b (Some (schema_at first)) (find (λ (t : TableSchema). pointwise ◌==◌ t.name name) (map schema_at stored)) ≡ None
    go true is rest = absurd cc
    go false is rest = rest is

-- an index whose row was added, and one for whose row there was no page
module _ (size : ℕ) (found : Catalog) (create : IndexRecord) (table : StoredTable) (place : ℕ) (was : Pages) (is : table_named create.table found.tables ≡ Some table) (placed : column_place create.column table.columns ≡ Some place) (named : IsName create.index) where
  pub indexed-there : (u : Unit {0}) (now : Pages) → table_indexed tree.made tree.added size create.index table place was (Ok (u, now)) → at_table found create.table (λ (t : StoredTable). made_index size create t was) (Ok (Plain, now))
  indexed-there u now h = (table, ap (λ (t : Option StoredTable). known t) is, (place, ap (λ (p : Option ℕ). known p) placed, (tt, named, ((u, now), h, refl))))

  pub indexed-full : (why : Refusal) → table_indexed tree.made tree.added size create.index table place was (Err why) → at_table found create.table (λ (t : StoredTable). made_index size create t was) (Err why)
  indexed-full why h = inr (table, ap (λ (t : Option StoredTable). known t) is, inr (place, ap (λ (p : Option ℕ). known p) placed, inr (tt, named, inl h)))

-- a table of the store that does not lack the column is there, and has it
not-lacking : (name column : List ℕ) (schema : Schema) (found : Option TableSchema) → named_in name schema ≡ found → lacks (stored_table name schema) (λ (table : TableSchema). not (has_column column table.columns)) ≡ false → lacks found (λ (table : TableSchema). not (has_column column table.columns)) ≡ false
not-lacking name column schema found is e = go (is_reserved name) e
  where
    go : (b : Bool) → lacks (cond b None (named_in name schema)) (λ (table : TableSchema). not (has_column column table.columns)) ≡ false → lacks found (λ (table : TableSchema). not (has_column column table.columns)) ≡ false
    go true e = clash e
    go false e = subst (λ (f : Option TableSchema). lacks f (λ (table : TableSchema). not (has_column column table.columns)) ≡ false) is e

module _ (size : ℕ) (pages : Pages) (all : PlainTables) (is : IsStoreOf size pages all) (create : IndexRecord) (snapshot : Option ℕ) (passes : checked (CreateIndex create) snapshot (plain all).schema ≡ Ok tt) where
  lacks-not : (found : Option TableSchema) → named_in create.table (schema_of is.store.base.found) ≡ found → lacks found (λ (table : TableSchema). not (has_column create.column table.columns)) ≡ false
  lacks-not found named =
      let schema = (plain all).schema in
      let pass = passed (has_unknown_name (CreateIndex create) snapshot schema) (takes_taken_name (CreateIndex create) schema) (has_wrong_type (CreateIndex create) schema) passes in
      not-lacking create.table create.column schema found (ap (λ (s : Schema). named_in create.table s) (sym (schema-same size pages all is)) ∙ named) pass.0

  module _ (here : Here size pages create.table is.store.base.found.tables all.tables) where
    has-column : Contains (map (λ (column : Column). column.name) here.found.columns) create.column
    has-column = has-named create.column here.found.columns (not-false (has_column create.column here.found.columns) (lacks-not (Some (schema_at here.found)) (found-in create.table is.store.base.found.tables here.found here.named)))

    at_column : ColumnAt create.column here.found.columns
    at_column = column-at create.column here.found.columns has-column

    worked-as : IsName create.index → (b : Result (Unit {0} × Pages) Refusal) → table_indexed tree.made tree.added size create.index here.found at_column.place pages b → IsWorked size pages all (Indexes create.index create.table create.column) b
    worked-as named b h =
        let schema = (plain all).schema in
        let pass = passed (has_unknown_name (CreateIndex create) snapshot schema) (takes_taken_name (CreateIndex create) schema) (has_wrong_type (CreateIndex create) schema) passes in
        let column : HasColumn create.column here.table = subst (λ (columns : List Column). Contains (map (λ (column : Column). column.name) columns) create.column) (sym here.shows.columns) has-column in
        work_law.single size pages all (Indexes create.index create.table create.column) b is
        (new-name all create.index named pass.1, (here.table, here.has, here.is_name, column))
        (next_step (table_in size pages create.table) (λ (t : StoredTable). only (or_broken (column_place create.column t.columns)) >>= (λ (place : ℕ). table_indexed tree.made tree.added size create.index t place pages)) here.found (table-by-name size pages all is create.table here) b
        (next_step (only (or_broken (column_place create.column here.found.columns))) (λ (place : ℕ). table_indexed tree.made tree.added size create.index here.found place pages) at_column.place (ap (λ (p : Option ℕ). or_broken p) (place-found create.column here.found.columns at_column)) b h))

    added-law : IsName create.index → (b : Result (Reply × Pages) Refusal) → (table_indexed tree.made tree.added size create.index here.found at_column.place pages >>= (λ (done : Unit {0} × Pages). only (Ok (Plain, done.1)))) b → IsRunOver size (CreateIndex create) snapshot pages (plain all) b
    added-law named (Ok y) (done, added, e) = subst (λ (r : Result (Reply × Pages) Refusal). IsRunOver size (CreateIndex create) snapshot pages (plain all) r) e made
      where
        leaves : LeavesWorked size pages all (Indexes create.index create.table create.column) done.1
        leaves = worked-as named (Ok done) added

        made : IsDoneOver size (CreateIndex create) snapshot pages (plain all) Plain done.1
        made = record {
          behind = plain (with_index (record { name = create.index; table = create.table; column = create.column }) all);
          means = does-passed (CreateIndex create) snapshot (plain all) passes;
          stored = record { all = with_index (record { name = create.index; table = create.table; column = create.column }) all; store = leaves.store; same = refl };
          work = Some (Indexes create.index create.table create.column);
          is_work = refl;
          edits = (leaves.needs, leaves.are_needed, leaves.takes, leaves.within);
        }
    added-law named (Err why) (inl full) =
        let refused = worked-as named (Err why) full in
        inr (refused.0, ap is_ok (does-passed (CreateIndex create) snapshot (plain all) passes), Some (Indexes create.index create.table create.column), refl, refused.1)
    added-law named (Err why) (inr (done, added, e)) = differ _ why e

    made-law : (b : Result (Reply × Pages) Refusal) → (given (IsName create.index) >>= (λ (u : Unit {0}). table_indexed tree.made tree.added size create.index here.found at_column.place pages >>= (λ (done : Unit {0} × Pages). only (Ok (Plain, done.1))))) b → IsRunOver size (CreateIndex create) snapshot pages (plain all) b
    made-law (Ok y) (u, named, h) = added-law named (Ok y) h
    made-law (Err why) (inl none) = absurd none
    made-law (Err why) (inr (u, named, h)) = added-law named (Err why) h

  pub index-law : (b : Result (Reply × Pages) Refusal) → at_table is.store.base.found create.table (λ (table : StoredTable). made_index size create table pages) b → IsRunOver size (CreateIndex create) snapshot pages (plain all) b
  index-law b h = found (by-name-here size pages all is create.table)
    where
      found : Missing create.table is.store.base.found.tables all.tables ⊎ Here size pages create.table is.store.base.found.tables all.tables → IsRunOver size (CreateIndex create) snapshot pages (plain all) b
      found (inl none) = clash (lacks-not None (missing-in create.table is.store.base.found.tables none.named))
      found (inr here) = made-law here b
          (goes-on (only (known (column_place create.column here.found.columns))) (λ (place : ℕ). given (IsName create.index) >>= (λ (u : Unit {0}). table_indexed tree.made tree.added size create.index here.found place pages >>= (λ (done : Unit {0} × Pages). only (Ok (Plain, done.1))))) (at_column here).place
          (λ (r : Result ℕ Refusal) (e : known (column_place create.column here.found.columns) ≡ r). sym e ∙ ap (λ (p : Option ℕ). known p) (place-found create.column here.found.columns (at_column here))) b
          (table-there is.store.base.found create.table here.found (λ (table : StoredTable). made_index size create table pages) here.named b h))
