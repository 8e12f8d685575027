-- What CREATE TABLE does to well-formed pages is what it means over their tables.
use Rattle.std.proofs.Common.{◌≡◌, ◌≢◌, ◌∙◌, ◌≤◌, ◌||◌, ◌∷◌, ℕ, Bool, true, false, List, [], length, map, Option, Some, Result, Ok, Err, inl, inr, refl, sym, ap, subst}
use Rattle.std.specs.Prelude.{is_ok}
use Rattle.std.specs.List.{AllByRecursion}
use Rattle.std.proofs.lemmas.List.{map-append}
use Rattle.retro_base.specs.declared.refusal.Refusal.{Refusal}
use Rattle.values.specs.Name.{IsName, same_name}
use Rattle.sql_tree.specs.declared.schema.IndexSchema.{IndexSchema}
use Rattle.sql_tree.specs.declared.schema.TableSchema.{TableSchema}
use Rattle.sql_tree.specs.declared.statement.Column.{Column}
use Rattle.sql_tree.specs.declared.statement.CreateTable.{CreateTable as CreateRecord}
use Rattle.sql_tree.specs.declared.statement.Statement.TheVariants.{CreateTable}
use Rattle.sql_check.specs.Check.{checked, has_unknown_name, has_wrong_type, takes_taken_name}
use Rattle.sql_check.specs.Names.{has_name, has_twins, is_named, is_reserved}
use Rattle.tables.specs.Meaning.{does}
use Rattle.tables.specs.declared.reply.Reply.{Reply}
use Rattle.tables.specs.declared.reply.Reply.TheVariants.{Plain}
use Rattle.tables.specs.Tables.{Tables, with_table}
use Rattle.pager.specs.Allows.{◌>>=◌, only}
use Rattle.pager.specs.Pages.{Pages}
use Rattle.heap_file.proofs.Ones.{differ}
use Rattle.relation.specs.Work.{created}
use Rattle.relation_laws.specs.Laws.{AreTableColumns, IsNewName, IsStoreOf, empty_table, with_new, without_contents}
use Rattle.relation_laws.specs.Tables.{AreDifferent, PlainTable, PlainTables}
use Rattle.relation_laws.specs.Work.{IsWorked, LeavesWorked}
use Rattle.relation_laws.specs.Work.Work.{Creates}
use Rattle.relation_laws.proofs.Names.{name-same}
use Rattle.relation_laws.proofs.Working.{work_law}
use Rattle.sql_exec.specs.Promises.{IsDoneOver, IsRunOver}
use Rattle.sql_exec.specs.Running.{AreNames, made_table}
use Rattle.sql_exec.specs.Stored.{contents_of, plain}
use Rattle.sql_exec.proofs.Fitting.{passed}
use Rattle.sql_exec.proofs.Meaning.{does-passed}

clash : {P : Type 0} → true ≡ false → P
clash e = absurd (no e)
  where
    no : true ≡ false → ⊥
    no e = cc

neither : (a b : Bool) → a || b ≡ false → (a ≡ false) × (b ≡ false)
neither true b e = clash e
neither false b e = (refl, e)

apart : (a b : List ℕ) → same_name a b ≡ false → a ≢ b
apart a b e same = clash (sym (name-same a b same) ∙ e)

-- no item has the name
none-named : {A : Type 0} (f : A → List ℕ) (name : List ℕ) (items : List A) → has_name f name items ≡ false → AllByRecursion (λ (item : A). f item ≢ name) items
none-named f name [] e = tt
none-named f name (item ∷ items) e =
    let both = neither (same_name (f item) name) (has_name f name items) e in
    (apart (f item) name both.0, none-named f name items both.1)

no-table : (name : List ℕ) (tables : List PlainTable) → has_name (λ (table : TableSchema). table.name) name (map without_contents tables) ≡ false → AllByRecursion (λ (table : PlainTable). table.name ≢ name) tables
no-table name [] e = tt
no-table name (table ∷ tables) e =
    let both = neither (same_name table.name name) (has_name (λ (table : TableSchema). table.name) name (map without_contents tables)) e in
    (apart table.name name both.0, no-table name tables both.1)

-- a name that is not taken is a new one
pub new-name : (all : PlainTables) (name : List ℕ) → IsName name → is_named name (plain all).schema ≡ false → IsNewName all name
new-name all name is free =
    let both = neither (has_name (λ (table : TableSchema). table.name) name (map without_contents all.tables)) (has_name (λ (index : IndexSchema). index.name) name all.indexes) free in
    record { is_name = is; of_tables = no-table name all.tables both.0; of_indexes = none-named (λ (index : IndexSchema). index.name) name all.indexes both.1 }

all-mapped : {A : Type 0} (f : A → List ℕ) (name : List ℕ) (items : List A) → AllByRecursion (λ (item : A). f item ≢ name) items → AllByRecursion (λ (other : List ℕ). other ≢ name) (map f items)
all-mapped f name [] all = tt
all-mapped f name (item ∷ items) all = (all.0, all-mapped f name items all.1)

no-twins : {A : Type 0} (f : A → List ℕ) (items : List A) → has_twins f items ≡ false → AreDifferent (map f items)
no-twins f [] e = tt
no-twins f (item ∷ items) e =
    let both = neither (has_name f (f item) items) (has_twins f items) e in
    (all-mapped f (f item) items (none-named f (f item) items both.0), no-twins f items both.1)

module _ (size : ℕ) (pages : Pages) (all : PlainTables) (is : IsStoreOf size pages all) (create : CreateRecord) (snapshot : Option ℕ) (wide : (1 ≤ length create.columns) × (length create.columns ≤ 16)) (passes : checked (CreateTable create) snapshot (plain all).schema ≡ Ok tt) where
  named-new : AreNames create → IsNewName all create.table × AreTableColumns create.columns
  named-new names =
      let pass = passed (has_unknown_name (CreateTable create) snapshot (plain all).schema) (takes_taken_name (CreateTable create) (plain all).schema) (has_wrong_type (CreateTable create) (plain all).schema) passes in
      let one = neither (is_named create.table (plain all).schema || is_reserved create.table) (has_twins (λ (column : Column). column.name) create.columns) pass.1 in
      let two = neither (is_named create.table (plain all).schema) (is_reserved create.table) one.0 in (
        new-name all create.table names.0 two.0,
        record { some = wide.0; few = wide.1; are_names = names.1; differ = no-twins (λ (column : Column). column.name) create.columns one.1 },
      )

  worked-as : AreNames create → (b : Result (Unit {0} × Pages) Refusal) → created size pages create.table create.columns b → IsWorked size pages all (Creates create.table create.columns) b
  worked-as names b h = work_law.single size pages all (Creates create.table create.columns) b is (named-new names) h

  tables-same : with_table (record { name = create.table; columns = create.columns }) (plain all) ≡ plain (with_new (empty_table create.table create.columns) all)
  tables-same =
      let schemas = sym (map-append without_contents all.tables (empty_table create.table create.columns ∷ [])) in
      let contents = sym (map-append contents_of all.tables (empty_table create.table create.columns ∷ [])) in
      cc (schemas, contents)

  means : does (CreateTable create) snapshot (plain all) ≡ Ok (plain (with_new (empty_table create.table create.columns) all), Plain)
  means = does-passed (CreateTable create) snapshot (plain all) passes ∙ ap (λ (t : Tables). Ok (t, Plain)) tables-same

  made-law : AreNames create → (b : Result (Reply × Pages) Refusal) → (created size pages create.table create.columns >>= (λ (done : Unit {0} × Pages). only (Ok (Plain, done.1)))) b → IsRunOver size (CreateTable create) snapshot pages (plain all) b
  made-law names (Ok y) (done, added, e) = subst (λ (r : Result (Reply × Pages) Refusal). IsRunOver size (CreateTable create) snapshot pages (plain all) r) e made
    where
      leaves : LeavesWorked size pages all (Creates create.table create.columns) done.1
      leaves = worked-as names (Ok done) added

      made : IsDoneOver size (CreateTable create) snapshot pages (plain all) Plain done.1
      made = record {
        behind = plain (with_new (empty_table create.table create.columns) all);
        means = means;
        stored = record { all = with_new (empty_table create.table create.columns) all; store = leaves.store; same = refl };
        work = Some (Creates create.table create.columns);
        is_work = refl;
        edits = (leaves.needs, leaves.are_needed, leaves.takes, leaves.within);
      }
  made-law names (Err why) (inl full) =
      let refused = worked-as names (Err why) full in
      inr (refused.0, ap is_ok means, Some (Creates create.table create.columns), refl, refused.1)
  made-law names (Err why) (inr (done, added, e)) = differ _ why e

  pub create-law : (b : Result (Reply × Pages) Refusal) → made_table size create pages b → IsRunOver size (CreateTable create) snapshot pages (plain all) b
  create-law (Ok y) (u, names, h) = made-law names (Ok y) h
  create-law (Err why) (inl none) = absurd none
  create-law (Err why) (inr (u, names, h)) = made-law names (Err why) h
