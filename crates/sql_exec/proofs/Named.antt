-- A table of the pages, by its name.
use Rattle.std.proofs.Common.{◌≡◌, ◌≢◌, ◌∙◌, ◌+◌, ◌==◌, ◌⊎◌, ℕ, suc, Bool, true, false, cond, List, [], ◌∷◌, map, Some, None, inl, inr, refl, sym, ap, subst, arith}
use Rattle.std.specs.Cmp.Lexicographic.{pointwise}
use Rattle.std.specs.List.{AllByRecursion, AllZip, Contains, position_from}
use Rattle.std.specs.Prelude.{slice_get, slice_set}
use Rattle.std.proofs.lemmas.Iterator.Adapters.{position_from-zero}
use Rattle.values.specs.declared.value.Value.{Value}
use Rattle.sql_tree.specs.declared.schema.TableSchema.{TableSchema}
use Rattle.tables.specs.declared.contents.Contents.{Contents}
use Rattle.tables.specs.declared.contents.NumberedRow.{NumberedRow}
use Rattle.tables.specs.Rows.{rows_of}
use Rattle.tables.specs.Tables.{Found, place_named, with_contents, table_named as plain_named}
use Rattle.pager.specs.Pages.{Pages}
use Rattle.heap_file.specs.declared.chain.Placed.{Placed}
use Rattle.relation.specs.declared.catalog.StoredTable.{StoredTable}
use Rattle.relation.specs.Catalog.{schema_of, table_named}
use Rattle.values.specs.Name.{same_name}
use Rattle.relation_laws.specs.Laws.{IsStoreOf, without_contents}
use Rattle.relation_laws.specs.Tables.{AreDifferent, PlainTable, PlainTables, ShowsTable, names_of, numbered_row}
use Rattle.relation_laws.specs.Work.{where_named}
use Rattle.relation_laws.proofs.Lists.{contains-cons, contains-head, different-split}
use Rattle.relation_laws.proofs.Names.{name-is}
use Rattle.relation_laws.proofs.Singling.{Single, shown-here}
use Rattle.relation_laws.proofs.TableStores.{tables_of}
use Rattle.sql_exec.specs.Reading.{schema_at}
use Rattle.sql_exec.specs.Running.{numbered_at}
use Rattle.sql_exec.specs.Stored.{contents_of, plain, row_under}

abbrev has_name : List ℕ → TableSchema → Bool
has_name name table = pointwise ◌==◌ table.name name

-- the table becomes this where it has the name
abbrev pub at_name : List ℕ → (PlainTable → PlainTable) → PlainTable → PlainTable
at_name name becomes table = cond (same_name table.name name) (becomes table) table

-- where no other table has the name, they stay
others-stay : (size : ℕ) (pages : Pages) (name : List ℕ) (stored : List StoredTable) (tables : List PlainTable) (becomes : PlainTable → PlainTable) → AllByRecursion (λ (other : List ℕ). other ≢ name) (names_of stored) → AllZip (ShowsTable size pages) stored tables → map (at_name name becomes) tables ≡ tables
others-stay size pages name [] [] becomes apart all = refl
others-stay size pages name [] (t ∷ ts) becomes apart all = absurd all
others-stay size pages name (s ∷ ss) [] becomes apart all = absurd all
others-stay size pages name (s ∷ ss) (t ∷ ts) becomes apart all = go (same_name t.name name) refl (others-stay size pages name ss ts becomes apart.1 all.1)
  where
    go : (b : Bool) → same_name t.name name ≡ b → map (at_name name becomes) ts ≡ ts → map (at_name name becomes) (t ∷ ts) ≡ t ∷ ts
    go true e rest = absurd (apart.0 (sym all.0.name ∙ name-is t.name name e))
    go false e rest = ap (λ (b : Bool). cond b (becomes t) t ∷ map (at_name name becomes) ts) e ∙ ap (λ (l : List PlainTable). t ∷ l) rest

-- a table of that name, as the catalog tells it and as the tables have it
pub record Here (size : ℕ) (pages : Pages) (name : List ℕ) (stored : List StoredTable) (tables : List PlainTable) : Type 0 where
  pub place : ℕ
  pub found : StoredTable
  pub table : PlainTable
  pub named : table_named name stored ≡ Some found
  pub placed : (i : ℕ) → position_from (has_name name) i (map without_contents tables) ≡ Some (i + place)
  pub schema : slice_get (map without_contents tables) place ≡ Some (schema_at found)
  pub contents : slice_get (map contents_of tables) place ≡ Some (contents_of table)
  pub in_catalog : Contains stored found
  pub has : Contains tables table
  pub shows : ShowsTable size pages found table
  pub is_name : table.name ≡ name
  pub set : (becomes : PlainTable → PlainTable) → slice_set (map contents_of tables) place (contents_of (becomes table)) ≡ map contents_of (map (at_name name becomes) tables)

-- no table has that name
pub record Missing (name : List ℕ) (stored : List StoredTable) (tables : List PlainTable) : Type 0 where
  pub named : table_named name stored ≡ None
  pub placed : (i : ℕ) → position_from (has_name name) i (map without_contents tables) ≡ None

pub by-name : (size : ℕ) (pages : Pages) (name : List ℕ) (stored : List StoredTable) (tables : List PlainTable) → AreDifferent (names_of stored) → AllZip (ShowsTable size pages) stored tables → Missing name stored tables ⊎ Here size pages name stored tables
by-name size pages name [] [] apart all = inl (record { named = refl; placed = λ i. refl })
by-name size pages name [] (t ∷ ts) apart all = absurd all
by-name size pages name (s ∷ ss) [] apart all = absurd all
by-name size pages name (s ∷ ss) (t ∷ ts) apart all = go (same_name s.name name) refl (by-name size pages name ss ts apart.1 all.1)
  where
    named : (b : Bool) → same_name s.name name ≡ b → same_name t.name name ≡ b
    named b e = subst (λ (n : List ℕ). pointwise ◌==◌ n name ≡ b) (sym all.0.name) e

    schema-same : without_contents t ≡ schema_at s
    schema-same = let one = all.0.name in let two = all.0.columns in cc (one, two)

    go : (b : Bool) → same_name s.name name ≡ b → Missing name ss ts ⊎ Here size pages name ss ts → Missing name (s ∷ ss) (t ∷ ts) ⊎ Here size pages name (s ∷ ss) (t ∷ ts)
    go true e rest = inr (record {
      place = 0;
      found = s;
      table = t;
      named = ap (λ (b : Bool). cond b (Some s) (table_named name ss)) e;
      placed = λ i. ap (λ (b : Bool). cond b (Some i) (position_from (has_name name) (i + 1) (map without_contents ts))) (named true e) ∙ ap (λ (k : ℕ). Some k) (let same : i ≡ i + 0 = omega arith in same);
      schema = ap (λ (x : TableSchema). Some x) schema-same;
      contents = refl;
      in_catalog = contains-head s ss;
      has = contains-head t ts;
      shows = all.0;
      is_name = all.0.name ∙ name-is s.name name e;
      set = λ becomes. sym (ap (λ (b : Bool). contents_of (cond b (becomes t) t) ∷ map contents_of (map (at_name name becomes) ts)) (named true e) ∙ ap (λ (l : List PlainTable). contents_of (becomes t) ∷ map contents_of l) (others-stay size pages name ss ts becomes (subst (λ (n : List ℕ). AllByRecursion (λ (other : List ℕ). other ≢ n) (names_of ss)) (name-is s.name name e) apart.0) all.1));
    })
    go false e (inl none) = inl (record {
      named = ap (λ (b : Bool). cond b (Some s) (table_named name ss)) e ∙ none.named;
      placed = λ i. ap (λ (b : Bool). cond b (Some i) (position_from (has_name name) (i + 1) (map without_contents ts))) (named false e) ∙ none.placed (i + 1);
    })
    go false e (inr one) = inr (record {
      place = suc one.place;
      found = one.found;
      table = one.table;
      named = ap (λ (b : Bool). cond b (Some s) (table_named name ss)) e ∙ one.named;
      placed = λ i. ap (λ (b : Bool). cond b (Some i) (position_from (has_name name) (i + 1) (map without_contents ts))) (named false e) ∙ one.placed (i + 1) ∙ ap (λ (k : ℕ). Some k) (let same : i + 1 + one.place ≡ i + suc one.place = omega arith in same);
      schema = one.schema;
      contents = one.contents;
      in_catalog = contains-cons one.found s ss one.in_catalog;
      has = contains-cons one.table t ts one.has;
      shows = one.shows;
      is_name = one.is_name;
      set = λ becomes. ap (λ (l : List Contents). contents_of t ∷ l) (one.set becomes) ∙ sym (ap (λ (b : Bool). contents_of (cond b (becomes t) t) ∷ map contents_of (map (at_name name becomes) ts)) (named false e));
    })

-- the table of that name, as the meaning of statements finds it
abbrev pub found_as : {size : ℕ} {pages : Pages} {name : List ℕ} {stored : List StoredTable} {tables : List PlainTable} → Here size pages name stored tables → Found
found_as here = record { place = here.place; schema = schema_at here.found; contents = contents_of here.table }

pub found-plain : (size : ℕ) (pages : Pages) (name : List ℕ) (stored : List StoredTable) (all : PlainTables) (here : Here size pages name stored all.tables) → plain_named name (plain all) ≡ Some (found_as here)
found-plain size pages name stored all here =
    let place : place_named name (plain all) ≡ Some here.place = position_from-zero (has_name name) (map without_contents all.tables) ∙ here.placed 0 ∙ ap (λ (k : ℕ). Some k) (let same : 0 + here.place ≡ here.place = omega arith in same) in
    rw (place, here.schema, here.contents) refl

pub missing-plain : (name : List ℕ) (stored : List StoredTable) (all : PlainTables) → Missing name stored all.tables → plain_named name (plain all) ≡ None
missing-plain name stored all none =
    let place : place_named name (plain all) ≡ None = position_from-zero (has_name name) (map without_contents all.tables) ∙ none.placed 0 in
    rw place refl

-- the catalog without pages is the schema of the tables
schemas : (size : ℕ) (pages : Pages) (stored : List StoredTable) (tables : List PlainTable) → AllZip (ShowsTable size pages) stored tables → map schema_at stored ≡ map without_contents tables
schemas size pages [] [] all = refl
schemas size pages [] (t ∷ ts) all = absurd all
schemas size pages (s ∷ ss) [] all = absurd all
schemas size pages (s ∷ ss) (t ∷ ts) all =
    let rest = schemas size pages ss ts all.1 in
    let name = all.0.name in
    let columns = all.0.columns in
    cc (rest, name, columns)

pub schema-same : (size : ℕ) (pages : Pages) (all : PlainTables) (is : IsStoreOf size pages all) → schema_of is.store.base.found ≡ (plain all).schema
schema-same size pages all is =
    let here = shown-here size pages all (tables_of size pages all is) in
    let tables = schemas size pages is.store.base.found.tables all.tables here.0 in
    let indexes = here.1 in
    cc (tables, indexes)

-- the rows of a table, with and without their numbers
pub rows-same : (rows : List Placed) → rows_of (map row_under (map numbered_row rows)) ≡ map (λ (placed : Placed). placed.row) rows
rows-same [] = refl
rows-same (row ∷ rows) = ap (λ (rest : List (List Value)). row.row ∷ rest) (rows-same rows)

pub rows-here : (size : ℕ) (pages : Pages) (found : StoredTable) (table : PlainTable) (shows : ShowsTable size pages found table) → rows_of (contents_of table).rows ≡ map (λ (placed : Placed). placed.row) shows.placed
rows-here size pages found table shows = ap (λ (rows : List (ℕ × List Value)). rows_of (map row_under rows)) shows.rows ∙ rows-same shows.placed

abbrev pub single-of : (size : ℕ) (pages : Pages) (all : PlainTables) (is : IsStoreOf size pages all) (name : List ℕ) (here : Here size pages name is.store.base.found.tables all.tables) → Single size pages all here.table (tables_of size pages all is)
single-of size pages all is name here = record { stored = here.found; has = here.in_catalog; shows = here.shows }

pub by-name-here : (size : ℕ) (pages : Pages) (all : PlainTables) (is : IsStoreOf size pages all) (name : List ℕ) → Missing name is.store.base.found.tables all.tables ⊎ Here size pages name is.store.base.found.tables all.tables
by-name-here size pages all is name = by-name size pages name is.store.base.found.tables all.tables (different-split (names_of is.store.base.found.tables) _ is.store.base.names) (shown-here size pages all (tables_of size pages all is)).0

-- the tables, of which that of the name holds something else
schemas-kept : (name : List ℕ) (becomes : PlainTable → PlainTable) → ((t : PlainTable) → without_contents (becomes t) ≡ without_contents t) → (tables : List PlainTable) → map without_contents tables ≡ map without_contents (map (at_name name becomes) tables)
schemas-kept name becomes keeps [] = refl
schemas-kept name becomes keeps (t ∷ ts) = go (same_name t.name name) refl (schemas-kept name becomes keeps ts)
  where
    go : (b : Bool) → same_name t.name name ≡ b → map without_contents ts ≡ map without_contents (map (at_name name becomes) ts) → map without_contents (t ∷ ts) ≡ map without_contents (map (at_name name becomes) (t ∷ ts))
    go true e rest = ap (λ (l : List TableSchema). without_contents t ∷ l) rest ∙ ap (λ (x : TableSchema). x ∷ map without_contents (map (at_name name becomes) ts)) (sym (keeps t)) ∙ sym (ap (λ (b : Bool). without_contents (cond b (becomes t) t) ∷ map without_contents (map (at_name name becomes) ts)) e)
    go false e rest = ap (λ (l : List TableSchema). without_contents t ∷ l) rest ∙ sym (ap (λ (b : Bool). without_contents (cond b (becomes t) t) ∷ map without_contents (map (at_name name becomes) ts)) e)

pub set-plain : (size : ℕ) (pages : Pages) (name : List ℕ) (stored : List StoredTable) (all : PlainTables) (here : Here size pages name stored all.tables) (becomes : PlainTable → PlainTable) → ((t : PlainTable) → without_contents (becomes t) ≡ without_contents t) → with_contents here.place (contents_of (becomes here.table)) (plain all) ≡ plain (where_named name becomes all)
set-plain size pages name stored all here becomes keeps =
    let contents = here.set becomes in
    let tables = schemas-kept name becomes keeps all.tables in
    cc (contents, tables)

-- the rows of a table under their numbers, as the pages have them
pub unders : (rows : List Placed) → map row_under (map numbered_row rows) ≡ map numbered_at rows
unders [] = refl
unders (row ∷ rows) = ap (λ (rest : List NumberedRow). numbered_at row ∷ rest) (unders rows)

pub rows-under : (size : ℕ) (pages : Pages) (found : StoredTable) (table : PlainTable) (shows : ShowsTable size pages found table) → (contents_of table).rows ≡ map numbered_at shows.placed
rows-under size pages found table shows = ap (λ (rows : List (ℕ × List Value)). map row_under rows) shows.rows ∙ unders shows.placed
