-- Rows are inserted into a table that keeps indexes.
use Rattle.std.proofs.Common.{◌≡◌, ◌<◌, ◌+◌, ◌++◌, ◌^◌, ℕ, true, false, List, length, map, Result, Ok, Err, inl, inr, refl, sym, subst, arith}
use Rattle.std.specs.List.{AllByRecursion, Contains}
use Rattle.retro_base.specs.declared.refusal.Refusal.{Refusal}
use Rattle.values.specs.declared.value.Value.{Value}
use Rattle.sql_tree.specs.declared.statement.Column.{Column as TableColumn}
use Rattle.pager.specs.Pages.{Pages}
use Rattle.tree_index.specs.Work.{added, removed}
use Rattle.heap_file.specs.declared.chain.Placed.{Placed}
use Rattle.heap_laws.specs.Table.{Table}
use Rattle.heap_laws.proofs.Reading.{table-numbered}
use Rattle.relation.specs.declared.catalog.Catalog.{Catalog}
use Rattle.relation.specs.declared.catalog.StoredIndex.{StoredIndex}
use Rattle.relation.specs.declared.catalog.StoredTable.{StoredTable}
use Rattle.relation.specs.Entries.{entries_edited, entries_of, rows_listed}
use Rattle.relation.specs.Work.{all_placed, table_inserted}
use Rattle.relation.proofs.Halves.{placed-refused}
use Rattle.sql_tree.specs.Rows.{fits}
use Rattle.relation_laws.specs.Laws.{InsertLaw, IsRowFor, IsStoreOf, LeavesOrIsFull, with_rows, with_table}
use Rattle.relation_laws.specs.Reach.{Reaches}
use Rattle.relation_laws.specs.Tables.{IsTableStore, PlainTable, PlainTables, numbered, numbered_row}
use Rattle.relation_laws.specs.Turns.{comes}
use Rattle.relation_laws.proofs.Coming.{came, came-fit, in_turn-as, listed-came}
use Rattle.relation_laws.proofs.Following.{Fitting}
use Rattle.relation_laws.proofs.Holding.{Waiting, follow-answer, tree, waiting}
use Rattle.relation_laws.proofs.Inserting.{Extends, extended, fitting-rows, full, longer-shows, storable-rows}
use Rattle.relation_laws.proofs.Sparing.{reaches-behind}
use Rattle.relation_laws.proofs.Singling.{Single, by-name, firsts_of, has-first, one-changed, single}
use Rattle.relation_laws.proofs.TableStores.{HoldsStill, tables_of}
use Rattle.relation_laws.proofs.Turning.{RowsTurn, turn_work}
use Rattle.pager.specs.Allows.{in_turn}

-- rows of a table of the store are inserted: the rows stand, and the indexes wait
pub record RowsIn (size : ℕ) (pages mid : Pages) (all : PlainTables) (table : PlainTable) (rows : List (List Value)) (store : IsStoreOf size pages all) (one : Single size pages all table (tables_of size pages all store)) (placed : List Placed) : Type 0 where
  pub extends : Extends size pages (firsts_of store.store.base.found) store.store.base.held one.stored.first (record { next_number = table.next_number; rows = one.shows.placed }) rows placed mid
  pub still : HoldsStill size mid (with_table (with_rows rows table) all) store.store.base.found store.store.base.held
  pub waits : Waiting size mid still.is.store one.stored one.shows.placed
  pub among : Contains still.is.store.found.tables one.stored
  pub fits : (place : ℕ) → Fitting tree one.shows.placed (map comes placed) place
  pub turned : RowsTurn one.shows.placed (map comes placed) (one.shows.placed ++ placed)

pub rows-in : (size : ℕ) (pages mid : Pages) (all : PlainTables) (table : PlainTable) (rows : List (List Value)) (store : IsStoreOf size pages all) (one : Single size pages all table (tables_of size pages all store)) (placed : List Placed) → AllByRecursion (IsRowFor table) rows → table.next_number + length rows < 2 ^ 64
    → all_placed size one.stored.first rows pages (Ok (placed, mid)) → RowsIn size pages mid all table rows store one placed
rows-in size pages mid all table rows store one placed fit room h = record {
  extends = extends;
  still = still;
  waits = waiting size pages mid all (with_table (with_rows rows table) all) store table one still extends.others extends.spared;
  among = subst (λ (c : Catalog). Contains c.tables one.stored) (sym still.found_is) one.has;
  fits = came-fit size mid one.stored one.shows.placed placed (firsts_of base.found) base.held (table.next_number + length rows) rows extends.well (has-first base.found one.stored one.has) extends.is_table fit_old fit_new;
  turned = came one.shows.placed placed table.next_number rows low extends.are;
}
  where
    base : IsTableStore size pages
    base = store.store.base

    before : Table
    before = record { next_number = table.next_number; rows = one.shows.placed }

    extends : Extends size pages (firsts_of store.store.base.found) store.store.base.held one.stored.first (record { next_number = table.next_number; rows = one.shows.placed }) rows placed mid
    extends = extended size pages mid (firsts_of store.store.base.found) store.store.base.held one.stored.first before rows placed store.store.base.heap (has-first store.store.base.found one.stored one.has) one.shows.is_table (storable-rows table rows fit) room h

    still : HoldsStill size mid (with_table (with_rows rows table) all) store.store.base.found store.store.base.held
    still = one-changed size pages mid all table (with_rows rows table) (tables_of size pages all store) one refl extends.others extends.well (longer-shows size pages mid (firsts_of store.store.base.found) store.store.base.held one.stored table rows placed one.shows fit extends)

    fit_old : AllByRecursion (λ (row : ℕ × List Value). fits one.stored.columns row.1 ≡ true) (map numbered_row one.shows.placed)
    fit_old = subst (λ (l : List (ℕ × List Value)). AllByRecursion (λ (row : ℕ × List Value). fits one.stored.columns row.1 ≡ true) l) one.shows.rows
        (subst (λ (columns : List TableColumn). AllByRecursion (λ (row : ℕ × List Value). fits columns row.1 ≡ true) table.rows) one.shows.columns one.shows.fitting)

    fit_new : AllByRecursion (λ (row : ℕ × List Value). fits one.stored.columns row.1 ≡ true) (map numbered_row placed)
    fit_new = subst (λ (l : List (ℕ × List Value)). AllByRecursion (λ (row : ℕ × List Value). fits one.stored.columns row.1 ≡ true) l) (sym extends.are)
        (subst (λ (columns : List TableColumn). AllByRecursion (λ (row : ℕ × List Value). fits columns row.1 ≡ true) (numbered table.next_number rows)) one.shows.columns (fitting-rows table table.next_number rows fit))

    low : (p : Placed) → Contains one.shows.placed p → p.number < table.next_number
    low p has =
        subst (λ (q : Placed). q.number < table.next_number) has.2
        ((table-numbered size pages (firsts_of store.store.base.found) store.store.base.held one.stored.first before store.store.base.heap (has-first store.store.base.found one.stored one.has) one.shows.is_table).below has.0 p has.1)

-- the entries of rows that were inserted are added to each index
pub listed-rows : (size : ℕ) (indexes : List StoredIndex) (placed : List Placed) (mid : Pages) (answer : Result (Unit {0} × Pages) Refusal) → rows_listed added size indexes placed mid answer → in_turn (λ (index : StoredIndex). in_turn (turn_work tree size index.root index.place) (map comes placed)) indexes mid answer
listed-rows size indexes placed mid answer h =
    in_turn-as (λ (index : StoredIndex). entries_edited added size index.root (entries_of index.place placed)) (λ (index : StoredIndex). in_turn (turn_work tree size index.root index.place) (map comes placed)) indexes mid answer
    (λ index p b work. listed-came added removed size index.root index.place placed p b work) h

pub insert_law : InsertLaw
insert_law size pages all table rows answer store has fit room work = go answer (by-name size pages all table (tables_of size pages all store) one (λ (stored : StoredTable). table_inserted added size stored rows pages) answer work)
  where
    one : Single size pages all table (tables_of size pages all store)
    one = single size pages all table (tables_of size pages all store) has

    before : Table
    before = record { next_number = table.next_number; rows = one.shows.placed }

    behind : PlainTables
    behind = with_table (with_rows rows table) all

    go : (answer : Result (Unit {0} × Pages) Refusal) → table_inserted added size one.stored rows pages answer → LeavesOrIsFull size (λ after. IsStoreOf size after (with_table (with_rows rows table) all) × Reaches size pages table.name after) answer
    go (Ok y) (x, placing, listing) =
        let ready = rows-in size pages x.1 all table rows store one x.0 fit room placing in
        let done = follow-answer size x.1 behind ready.still.is one.stored one.shows.placed (one.shows.placed ++ x.0) (map comes x.0) ready.waits (Ok y) ready.among ready.extends.is_table.rows ready.fits ready.turned (listed-rows size one.stored.indexes x.0 x.1 (Ok y) listing) in (
          done.0,
          reaches-behind false size pages x.1 y.1 all behind store table one ready.still ready.waits (one.shows.placed ++ x.0) _ _ ready.extends.spared ready.extends.spares done.1 (λ same. (omega (arith, same, done.1.fewer, ready.extends.spares.turn), omega (arith, same, done.1.fewer, ready.extends.spares.turn))),
        )
    go (Err why) (inl placing) =
        full size pages (firsts_of store.store.base.found) store.store.base.held one.stored.first before rows why store.store.base.heap (has-first store.store.base.found one.stored one.has) one.shows.is_table (storable-rows table rows fit) room (placed-refused size one.stored.first rows pages why placing)
    go (Err why) (inr (x, placing, listing)) =
        let ready = rows-in size pages x.1 all table rows store one x.0 fit room placing in
        (follow-answer size x.1 behind ready.still.is one.stored one.shows.placed (one.shows.placed ++ x.0) (map comes x.0) ready.waits (Err why) ready.among ready.extends.is_table.rows ready.fits ready.turned (listed-rows size one.stored.indexes x.0 x.1 (Err why) listing)).0
