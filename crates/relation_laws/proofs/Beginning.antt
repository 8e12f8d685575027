-- Pages hold one list of tables, and zero pages none.
use Rattle.std.proofs.Common.{◌≡◌, ◌∙◌, ◌<◌, ◌≤◌, ◌^◌, ℕ, List, [], ◌∷◌, map, Ok, refl, sym, ap, subst}
use Rattle.std.specs.List.{AllZip, Contains}
use Rattle.pager.specs.Pages.{Pages}
use Rattle.heap_file.proofs.Ones.{answers_are_one}
use Rattle.heap_laws.specs.Laws.{AreZero}
use Rattle.heap_laws.specs.Table.{IsTable}
use Rattle.heap_laws.proofs.Fresh.{fresh_law}
use Rattle.heap_laws.proofs.Reading.{ok-one, scan-one}
use Rattle.relation.specs.declared.catalog.Catalog.{Catalog}
use Rattle.relation.specs.declared.catalog.StoredTable.{StoredTable}
use Rattle.relation.specs.Catalog.{catalog_rows}
use Rattle.relation_laws.proofs.Bytes.{bytes_there}
use Rattle.relation_laws.specs.Laws.{IsStoreOf, StoreLaw, no_tables}
use Rattle.relation_laws.specs.Tables.{PlainTable, PlainTables, ShowsTable, TablesOf, numbered_row}
use Rattle.relation_laws.proofs.Lists.{contains-cons, contains-head}
use Rattle.relation_laws.proofs.Singling.{firsts_of, has-first, shown-here, store-catalog}
use Rattle.relation_laws.proofs.TableStores.{IsTableStoreOf, tables_of}

zip-same : {A B : Type 0} (R : A → B → Type 0) (xs : List A) (ys zs : List B) → ((x : A) (y z : B) → Contains xs x → R x y → R x z → y ≡ z) → AllZip R xs ys → AllZip R xs zs → ys ≡ zs
zip-same R [] [] [] go one two = refl
zip-same R [] [] (z ∷ zs) go one two = absurd two
zip-same R [] (y ∷ ys) zs go one two = absurd one
zip-same R (x ∷ xs) [] zs go one two = absurd one
zip-same R (x ∷ xs) (y ∷ ys) [] go one two = absurd two
zip-same R (x ∷ xs) (y ∷ ys) (z ∷ zs) go one two =
    let here = go x y z (contains-head x xs) one.0 two.0 in
    let rest = zip-same R xs ys zs (λ a b c has. go a b c (contains-cons a x xs has)) one.1 two.1 in
    cc (here, rest)

-- what the pages show of a table is one
shows-one : (size : ℕ) (pages : Pages) (all : PlainTables) (is : IsTableStoreOf size pages all) (stored : StoredTable) (a b : PlainTable) → Contains is.store.found.tables stored → ShowsTable size pages stored a → ShowsTable size pages stored b → a ≡ b
shows-one size pages all is stored a b has p q =
    let placed : p.placed ≡ q.placed = ok-one (scan-one size pages (firsts_of is.store.found) is.store.held stored.first is.store.heap (has-first is.store.found stored has) (Ok p.placed) (Ok q.placed) p.is_table.rows q.is_table.rows) in
    let name : a.name ≡ b.name = p.name ∙ sym q.name in
    let columns : a.columns ≡ b.columns = p.columns ∙ sym q.columns in
    let next : a.next_number ≡ b.next_number = ok-one (answers_are_one.next_number size pages stored.first (Ok a.next_number) (Ok b.next_number) p.is_table.next_number q.is_table.next_number) in
    let rows : a.rows ≡ b.rows = p.rows ∙ ap (map numbered_row) placed ∙ sym q.rows in
    let joined : record { name = a.name; columns = a.columns; next_number = a.next_number; rows = a.rows } ≡ record { name = b.name; columns = b.columns; next_number = b.next_number; rows = b.rows } = cc (name, columns, next, rows) in
    joined

tables-one : (size : ℕ) (pages : Pages) (all other : PlainTables) → IsTableStoreOf size pages all → TablesOf size pages other → other ≡ all
tables-one size pages all other is of =
    let same : of.found ≡ is.store.found = ok-one (store-catalog size pages is.store (Ok of.found) of.read) in
    let here = shown-here size pages all is in
    let shown : AllZip (ShowsTable size pages) is.store.found.tables other.tables = subst (λ (c : Catalog). AllZip (ShowsTable size pages) c.tables other.tables) same of.shown in
    let tables : other.tables ≡ all.tables = zip-same (ShowsTable size pages) is.store.found.tables other.tables all.tables (shows-one size pages all is) shown here.0 in
    let indexes : other.indexes ≡ all.indexes = of.indexes ∙ ap (λ (c : Catalog). c.indexes) same ∙ sym here.1 in
    let joined : record { tables = other.tables; indexes = other.indexes } ≡ record { tables = all.tables; indexes = all.indexes } = cc (tables, indexes) in
    joined

fresh : (size : ℕ) (pages : Pages) → AreZero size pages → 2 ≤ size → size < 2 ^ 32 → IsStoreOf size pages no_tables
fresh size pages zero some small = record {
  store = record {
    base = record {
      placed = [];
      scan = empty.rows;
      gapless = refl;
      told = [];
      rows = rows;
      found = record { tables = []; indexes = [] };
      read = ([], refl, ([], refl, refl));
      held = [];
      kept = tt;
      heap = fresh_law.catalog size pages zero some small;
      names = tt;
      columns = tt;
      tables = [];
      shown = tt;
    };
    held = [];
    indexed = tt;
    all = refl;
  };
  tables = record { found = record { tables = []; indexes = [] }; read = ([], rows, ([], refl, ([], refl, refl))); shown = tt; indexes = refl };
}
  where
    empty : IsTable size pages 1 (record { next_number = 0; rows = [] })
    empty = fresh_law.empty size pages zero some

    rows : catalog_rows size pages (Ok [])
    rows = ([], empty.rows, (0, empty.next_number, refl))

pub store_law : StoreLaw
store_law = record { one = λ size pages all other is of. tables-one size pages all other (tables_of size pages all is) of; fresh = fresh; bytes = bytes_there }
