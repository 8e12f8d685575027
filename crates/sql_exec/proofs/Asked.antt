-- What a select answers over well-formed pages is its answer over their tables.
use Rattle.std.proofs.Common.{◌≡◌, ◌∙◌, ◌⊎◌, ℕ, List, [], ◌∷◌, map, Option, Some, None, Result, Ok, Err, inl, inr, refl, sym, ap, subst}
use Rattle.retro_base.specs.declared.refusal.Refusal.{Refusal}
use Rattle.retro_base.specs.declared.refusal.Refusal.TheVariants.{UnknownName}
use Rattle.values.specs.declared.value.Value.{Value}
use Rattle.sql_tree.specs.declared.schema.Schema.{Schema}
use Rattle.sql_tree.specs.declared.select.Select.{Select as SelectRecord}
use Rattle.sql_tree.specs.declared.statement.Statement.{Statement}
use Rattle.sql_tree.specs.declared.statement.Statement.TheVariants.{Select}
use Rattle.std.specs.List.{filter}
use Rattle.sql_tree.specs.Condition.{ConditionTree}
use Rattle.sql_check.specs.Check.{checked}
use Rattle.sql_check.specs.Outputs.{answer_columns}
use Rattle.sql_select.specs.Select.{answer}
use Rattle.sql_select.specs.declared.answer.Answer.{Answer}
use Rattle.tables.specs.Meaning.{answer_of, asked, known}
use Rattle.tables.specs.Rows.{rows_of}
use Rattle.tables.proofs.Answering.{answer_one, answer_two}
use Rattle.pager.specs.Allows.{◌>>=◌, only}
use Rattle.pager.specs.Pages.{Pages}
use Rattle.heap_file.specs.declared.chain.Placed.{Placed}
use Rattle.relation.specs.declared.catalog.Catalog.{Catalog}
use Rattle.relation.specs.declared.catalog.StoredTable.{StoredTable}
use Rattle.relation.specs.Catalog.{catalog, schema_of, table_named}
use Rattle.relation_laws.specs.Laws.{IsStoreOf}
use Rattle.relation_laws.specs.Tables.{PlainTable, PlainTables}
use Rattle.relation_laws.proofs.Catalogs.{goes-on}
use Rattle.relation_laws.proofs.Singling.{rows-read, store-catalog}
use Rattle.relation_laws.proofs.TableStores.{tables_of}
use Rattle.sql_exec.specs.declared.source.Source.{Source}
use Rattle.sql_exec.specs.Asking.{answered, answered_beside, asked_of, opened, over_two, source_at, source_of, where_alone, where_beside}
use Rattle.sql_exec.specs.Reading.{read_at, schema_at}
use Rattle.sql_exec.specs.Stored.{contents_of, plain}
use Rattle.sql_exec.proofs.Meaning.{asked-passed, asked-refused, second-unknown, table-unknown}
use Rattle.sql_exec.proofs.Named.{Here, Missing, by-name-here, found_as, found-plain, missing-plain, rows-here, schema-same, single-of}
use Rattle.sql_exec.proofs.Fitting.{select-where}
use Rattle.sql_exec.proofs.Readings.{sifts}
use Rattle.sql_exec.proofs.Sifting.{answer-sifted}
use Rattle.sql_exec.proofs.Steps.{ends-there}

-- the catalog is read, and the check passes
pub opened-ok : (size : ℕ) (pages : Pages) (all : PlainTables) (is : IsStoreOf size pages all) (statement : Statement) (snapshot : Option ℕ) → checked statement snapshot (plain all).schema ≡ Ok tt → (a : Result Catalog Refusal) → opened size statement snapshot pages a → a ≡ Ok is.store.base.found
opened-ok size pages all is statement snapshot passes a h =
    let found = is.store.base.found in
    let behind = goes-on (catalog size pages) (λ (c : Catalog). only (checked statement snapshot (schema_of c)) >>= (λ (u : Unit {0}). only (Ok c))) found (store-catalog size pages is.store.base) a h in
    sym (goes-on (only (checked statement snapshot (schema_of found))) (λ (u : Unit {0}). only (Ok found)) tt (λ (r : Result (Unit {0}) Refusal) (e : checked statement snapshot (schema_of found) ≡ r). sym e ∙ ap (λ (s : Schema). checked statement snapshot s) (schema-same size pages all is) ∙ passes) a behind)

-- the catalog is read, and the check refuses
pub opened-err : (size : ℕ) (pages : Pages) (all : PlainTables) (is : IsStoreOf size pages all) (statement : Statement) (snapshot : Option ℕ) (why : Refusal) → checked statement snapshot (plain all).schema ≡ Err why → (a : Result Catalog Refusal) → opened size statement snapshot pages a → a ≡ Err why
opened-err size pages all is statement snapshot why refuses a h =
    let found = is.store.base.found in
    let behind = goes-on (catalog size pages) (λ (c : Catalog). only (checked statement snapshot (schema_of c)) >>= (λ (u : Unit {0}). only (Ok c))) found (store-catalog size pages is.store.base) a h in
    ends-there (only (checked statement snapshot (schema_of found))) (λ (u : Unit {0}). only (Ok found)) why (λ (r : Result (Unit {0}) Refusal) (e : checked statement snapshot (schema_of found) ≡ r). sym e ∙ ap (λ (s : Schema). checked statement snapshot s) (schema-same size pages all is) ∙ refuses) a behind

-- a table of the store is read
pub source-here : (size : ℕ) (pages : Pages) (name : List ℕ) (stored : List StoredTable) (tables : List PlainTable) (here : Here size pages name stored tables) (condition : Option ConditionTree) (rows : List Placed) → ((a : Result (List Placed) Refusal) → read_at size pages here.found condition a → a ≡ Ok rows) → (a : Result Source Refusal) → source_at size pages (table_named name stored) condition a → a ≡ Ok (source_of here.found rows)
source-here size pages name stored tables here condition rows one a h =
    let told = subst (λ (t : Option StoredTable). source_at size pages t condition a) here.named h in
    let behind = goes-on (only (known (Some here.found))) (λ (t : StoredTable). read_at size pages t condition >>= (λ (rows : List Placed). only (Ok (source_of t rows)))) here.found (λ (r : Result StoredTable Refusal) (e : Ok here.found ≡ r). sym e) a told in
    sym (goes-on (read_at size pages here.found condition) (λ (rows : List Placed). only (Ok (source_of here.found rows))) rows one a behind)

-- no table of that name is read
pub source-missing : {B : Type 0} (size : ℕ) (pages : Pages) (name : List ℕ) (stored : List StoredTable) (condition : Option ConditionTree) (f : Source → Result B Refusal → Type 0) → table_named name stored ≡ None → (b : Result B Refusal) → (source_at size pages (table_named name stored) condition >>= f) b → b ≡ Err UnknownName
source-missing size pages name stored condition f none b h =
    ends-there (source_at size pages (table_named name stored) condition) f UnknownName
    (λ (r : Result Source Refusal) (e : source_at size pages (table_named name stored) condition r). ends-there (only (known None)) (λ (t : StoredTable). read_at size pages t condition >>= (λ (rows : List Placed). only (Ok (source_of t rows)))) UnknownName (λ (s : Result StoredTable Refusal) (d : Err UnknownName ≡ s). sym d) r (subst (λ (t : Option StoredTable). source_at size pages t condition r) none e)) b h

-- the answer of a select that was checked
pub answer-law : (size : ℕ) (pages : Pages) (all : PlainTables) (is : IsStoreOf size pages all) (query : SelectRecord) (snapshot : Option ℕ) → checked (Select query) snapshot (plain all).schema ≡ Ok tt → (b : Result Answer Refusal) → answered size is.store.base.found query snapshot pages b → answer_of query snapshot (plain all) ≡ b
answer-law size pages all is query snapshot passes b h = first (by-name-here size pages all is query.table)
  where
    -- all rows are read where there is no condition
    all-read : (name : List ℕ) (here : Here size pages name is.store.base.found.tables all.tables) (a : Result (List Placed) Refusal) → read_at size pages here.found None a → a ≡ Ok here.shows.placed
    all-read name here a told = rows-read size pages all here.table (tables_of size pages all is) (single-of size pages all is name here) a told

    behind : (here : Here size pages query.table is.store.base.found.tables all.tables) (s : Option (List ℕ)) → query.second ≡ s → (rows : List Placed) → ((a : Result (List Placed) Refusal) → read_at size pages here.found (where_beside s query.condition) a → a ≡ Ok rows) → answered_beside size is.store.base.found query snapshot pages (source_of here.found rows) s b
    behind here s same rows one =
        subst (λ (t : Option (List ℕ)). answered_beside size is.store.base.found query snapshot pages (source_of here.found rows) t b) same
        (goes-on (source_at size pages (table_named query.table is.store.base.found.tables) (where_alone query)) (λ (one : Source). answered_beside size is.store.base.found query snapshot pages one query.second) (source_of here.found rows)
        (source-here size pages query.table is.store.base.found.tables all.tables here (where_alone query) rows (λ a told. one a (subst (λ (t : Option (List ℕ)). read_at size pages here.found (where_beside t query.condition) a) same told))) b h)

    -- over one table
    over : (here : Here size pages query.table is.store.base.found.tables all.tables) → query.second ≡ None → answer_of query snapshot (plain all) ≡ b
    over here alone =
        let right = select-where is.store.base.found query snapshot here.found alone here.named (ap (λ (s : Schema). checked (Select query) snapshot s) (schema-same size pages all is) ∙ passes) in
        let sifted = sifts size pages all is query.table here snapshot query.condition right.0 right.1 in
        let scope = schema_at here.found ∷ [] in
        answer_one query snapshot (plain all) (found_as here) (found-plain size pages query.table is.store.base.found.tables all here) alone
        ∙ ap (λ (rows : List (List Value)). answer query scope (answer_columns scope query.list) snapshot rows None) (rows-here size pages here.found here.table here.shows)
        ∙ sym (answer-sifted query scope (answer_columns scope query.list) snapshot sifted.inside here.shows.placed sifted.out)
        ∙ behind here None alone (filter sifted.inside here.shows.placed) sifted.reads

    -- over two tables
    beside : (here : Here size pages query.table is.store.base.found.tables all.tables) (name : List ℕ) → query.second ≡ Some name → answer_of query snapshot (plain all) ≡ b
    beside here name two = second (by-name-here size pages all is name)
      where
        told : (source_at size pages (table_named name is.store.base.found.tables) None >>= (λ (other : Source). only (over_two query snapshot (source_of here.found here.shows.placed) other))) b
        told = behind here (Some name) two here.shows.placed (all-read query.table here)

        second : Missing name is.store.base.found.tables all.tables ⊎ Here size pages name is.store.base.found.tables all.tables → answer_of query snapshot (plain all) ≡ b
        second (inl none) =
            second-unknown query snapshot (plain all) name (found_as here) (found-plain size pages query.table is.store.base.found.tables all here) two (missing-plain name is.store.base.found.tables all none)
            ∙ sym (source-missing size pages name is.store.base.found.tables None (λ (other : Source). only (over_two query snapshot (source_of here.found here.shows.placed) other)) none.named b told)
        second (inr there) =
            let scope = schema_at here.found ∷ schema_at there.found ∷ [] in
            let answer_told = goes-on (source_at size pages (table_named name is.store.base.found.tables) None) (λ (other : Source). only (over_two query snapshot (source_of here.found here.shows.placed) other)) (source_of there.found there.shows.placed) (source-here size pages name is.store.base.found.tables all.tables there None there.shows.placed (all-read name there)) b told in
            answer_two query snapshot (plain all) name (found_as here) (found_as there) (found-plain size pages query.table is.store.base.found.tables all here) two (found-plain size pages name is.store.base.found.tables all there)
            ∙ ap (λ (rows : List (List Value)). answer query scope (answer_columns scope query.list) snapshot rows (Some (rows_of (contents_of there.table).rows))) (rows-here size pages here.found here.table here.shows)
            ∙ ap (λ (rows : List (List Value)). answer query scope (answer_columns scope query.list) snapshot (map (λ (placed : Placed). placed.row) here.shows.placed) (Some rows)) (rows-here size pages there.found there.table there.shows)
            ∙ answer_told

    of_second : (here : Here size pages query.table is.store.base.found.tables all.tables) (s : Option (List ℕ)) → query.second ≡ s → answer_of query snapshot (plain all) ≡ b
    of_second here None alone = over here alone
    of_second here (Some name) two = beside here name two

    first : Missing query.table is.store.base.found.tables all.tables ⊎ Here size pages query.table is.store.base.found.tables all.tables → answer_of query snapshot (plain all) ≡ b
    first (inl none) =
        table-unknown query snapshot (plain all) (missing-plain query.table is.store.base.found.tables all none)
        ∙ sym (source-missing size pages query.table is.store.base.found.tables (where_alone query) (λ (one : Source). answered_beside size is.store.base.found query snapshot pages one query.second) none.named b h)
    first (inr here) = of_second here query.second refl

-- the answer of a select
pub asked-law : (size : ℕ) (pages : Pages) (all : PlainTables) (is : IsStoreOf size pages all) (query : SelectRecord) (snapshot : Option ℕ) (b : Result Answer Refusal) → asked_of size query snapshot pages b → asked query snapshot (plain all) ≡ b
asked-law size pages all is query snapshot b h = go (checked (Select query) snapshot (plain all).schema) refl
  where
    go : (r : Result (Unit {0}) Refusal) → checked (Select query) snapshot (plain all).schema ≡ r → asked query snapshot (plain all) ≡ b
    go (Ok tt) passes =
        asked-passed query snapshot (plain all) passes
        ∙ answer-law size pages all is query snapshot passes b (goes-on (opened size (Select query) snapshot pages) (λ (c : Catalog). answered size c query snapshot pages) is.store.base.found (opened-ok size pages all is (Select query) snapshot passes) b h)
    go (Err why) refuses =
        asked-refused query snapshot (plain all) why refuses
        ∙ sym (ends-there (opened size (Select query) snapshot pages) (λ (c : Catalog). answered size c query snapshot pages) why (opened-err size pages all is (Select query) snapshot why refuses) b h)
