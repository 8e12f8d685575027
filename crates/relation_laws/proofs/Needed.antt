-- The pages that calls on a store with indexes need.
use Rattle.std.proofs.Common.{◌≡◌, ◌∙◌, ◌<◌, ◌+◌, ◌++◌, ◌^◌, ℕ, List, [], ◌∷◌, length, map, Result, Ok, Err, inl, inr, refl, sym, ap, subst, arith}
use Rattle.std.specs.List.{AllByRecursion, Contains}
use Rattle.std.proofs.lemmas.List.Elements.{Contains-append_right}
use Rattle.retro_base.specs.declared.refusal.Refusal.{Refusal}
use Rattle.values.specs.declared.value.Value.{Value}
use Rattle.sql_tree.specs.declared.statement.Column.{Column as TableColumn}
use Rattle.pager.specs.Allows.{◌>>=◌}
use Rattle.pager.specs.Pages.{Pages}
use Rattle.tree_index.specs.Tree.{empty, opens, put}
use Rattle.tree_index.specs.Work.{added, made, removed}
use Rattle.heap_file.specs.declared.page.HeapPage.{HeapPage}
use Rattle.heap_file.specs.HeapPage.{entry_bytes}
use Rattle.heap_laws.specs.Laws.{AreSpared}
use Rattle.heap_laws.specs.Table.{EndsAt, Table}
use Rattle.heap_laws.proofs.Making.{make_law}
use Rattle.heap_laws.proofs.Reading.{ok-one}
use Rattle.relation.specs.declared.catalog.StoredTable.{StoredTable}
use Rattle.relation.specs.declared.catalog.TheConstants.{CATALOG}
use Rattle.relation.specs.CatalogRow.{row_values}
use Rattle.relation.specs.Each.{each}
use Rattle.relation.specs.Work.{all_placed, change_of, created, indexed, inserted, row_of_index, rows_at, rows_of_table, table_inserted, table_updated, updated}
use Rattle.relation.proofs.Halves.{changes-numbered-err, changes-numbered-ok, placed-added, placed-refused}
use Rattle.relation_laws.specs.Laws.{AreChangesOf, AreTableColumns, EditsLaw, HasColumn, IsNewName, IsRowFor, IsStoreOf, NeedsLaw}
use Rattle.relation_laws.specs.Needs.{CreateNeeds, IndexNeeds, IndexesNeed, InsertNeeds, TakesNeeded, UpdateNeeds, changes_open, pages_opened, taken_after}
use Rattle.relation_laws.specs.Tables.{PlainTable, PlainTables, all_pages}
use Rattle.relation_laws.specs.Turns.{Turn, comes, entries_open, moves}
use Rattle.relation_laws.proofs.Catalogs.{goes-on}
use Rattle.relation_laws.proofs.Counting.{needed}
use Rattle.relation_laws.proofs.Creating.{ready}
use Rattle.relation_laws.proofs.Deleting.{StillThere, still}
use Rattle.relation_laws.proofs.Following.{KeptAs, all_open, kept-same}
use Rattle.relation_laws.proofs.Holding.{Waiting, every, follow-answer, needs-of, tree}
use Rattle.relation_laws.proofs.Indexed.{Indexing, begun, entries-answer, indexing-at, indexing_entries, root-low}
use Rattle.relation_laws.proofs.Indexing.{IndexReady, index-ready, place-found}
use Rattle.relation_laws.proofs.Inserted.{listed-rows, rows-in}
use Rattle.relation_laws.proofs.Inserting.{storable-rows}
use Rattle.relation_laws.proofs.Keeping.{make-answer}
use Rattle.relation_laws.proofs.Lists.{contains-left}
use Rattle.relation_laws.proofs.Needing.{ends-kept, ends-made, ends-there, opened-index, opened-same, rows-edit, rows-full, rows-take}
use Rattle.relation_laws.proofs.Singling.{Single, by-name, firsts_of, has-catalog, has-first, named-here, named-in, rows-here, rows-read, single}
use Rattle.relation_laws.proofs.TableStores.{HoldsStill, IsTableStoreOf, tables_of}
use Rattle.relation_laws.proofs.Updated.{moved-rows, never-missed, rows-move}
use Rattle.relation_laws.proofs.Updating.{numbers_of, storable-changes}

-- the indexes of a table that wait, as they are on the pages before
pub kept-before : (size : ℕ) (pages mid : Pages) (all behind : PlainTables) (store : IsStoreOf size pages all) (table : PlainTable) (one : Single size pages all table (tables_of size pages all store)) (still : HoldsStill size mid behind store.store.base.found store.store.base.held) (w : Waiting size mid still.is.store one.stored one.shows.placed) → AreSpared store.store.base.held pages mid
    → KeptAs tree size pages one.shows.placed one.stored.indexes w.shapes w.each
kept-before size pages mid all behind store table one still w spared =
    kept-same tree size mid pages one.shows.placed one.stored.indexes w.shapes w.each (λ page has. sym (spared page (within page has)).0) w.kept
  where
    within : (page : ℕ) → Contains (all_pages w.each) page → Contains store.store.base.held page
    within page has = subst (λ (l : List ℕ). Contains l page) (sym w.held_are ∙ still.held_is) (Contains-append_right (every w.left) (all_pages w.each ++ every w.right) page (contains-left (all_pages w.each) (every w.right) page has))

-- what the indexes of a table need as its rows turn, told of the pages before
pub needs-before : (size : ℕ) (pages mid : Pages) (all behind : PlainTables) (store : IsStoreOf size pages all) (table : PlainTable) (one : Single size pages all table (tables_of size pages all store)) (still : HoldsStill size mid behind store.store.base.found store.store.base.held) (w : Waiting size mid still.is.store one.stored one.shows.placed) (turns : List Turn) → AreSpared store.store.base.held pages mid
    → IndexesNeed size pages one.stored.indexes turns (all_open tree turns one.stored.indexes w.shapes)
needs-before size pages mid all behind store table one still w turns spared =
    needs-of size pages one.shows.placed turns one.stored.indexes w.shapes w.each (kept-before size pages mid all behind store table one still w spared)

pub insert-needs : (size : ℕ) (pages : Pages) (all : PlainTables) (table : PlainTable) (rows : List (List Value)) (answer : Result (Unit {0} × Pages) Refusal)
    → IsStoreOf size pages all → Contains all.tables table → AllByRecursion (IsRowFor table) rows → table.next_number + length rows < 2 ^ 64
    → inserted added size pages table.name rows answer → (needs : ℕ) × InsertNeeds size pages table.name rows needs × TakesNeeded size pages needs answer
insert-needs size pages all table rows answer store has fit room work = go end.0 end.1 end.2 answer (by-name size pages all table is one (λ (stored : StoredTable). table_inserted added size stored rows pages) answer work)
  where
    is : IsTableStoreOf size pages all
    is = tables_of size pages all store

    one : Single size pages all table (tables_of size pages all store)
    one = single size pages all table (tables_of size pages all store) has

    before : Table
    before = record { next_number = table.next_number; rows = one.shows.placed }

    end : (last : ℕ) × (tail : HeapPage) × EndsAt size pages one.stored.first last tail
    end = ends-there size pages (firsts_of store.store.base.found) store.store.base.held one.stored.first store.store.base.heap (has-first store.store.base.found one.stored one.has)

    go : (last : ℕ) (tail : HeapPage) → EndsAt size pages one.stored.first last tail → (answer : Result (Unit {0} × Pages) Refusal) → table_inserted added size one.stored rows pages answer → (needs : ℕ) × InsertNeeds size pages table.name rows needs × TakesNeeded size pages needs answer
    go last tail ends (Ok y) (x, placing, listing) =
        let rows_need = pages_opened (length (entry_bytes tail.entries)) rows in
        let ready = rows-in size pages x.1 all table rows store one x.0 fit room placing in
        let more = all_open tree (map comes x.0) one.stored.indexes ready.waits.shapes in
        let took = rows-take size pages x.1 (firsts_of store.store.base.found) store.store.base.held one.stored.first before rows last tail store.store.base.heap (has-first store.store.base.found one.stored one.has) one.shows.is_table (storable-rows table rows fit) room ends (placed-added size one.stored.first rows x.0 pages x.1 placing) in
        let done = follow-answer size x.1 _ ready.still.is one.stored one.shows.placed (one.shows.placed ++ x.0) (map comes x.0) ready.waits (Ok y) ready.among ready.extends.is_table.rows ready.fits ready.turned (listed-rows size one.stored.indexes x.0 x.1 (Ok y) listing) in (
          rows_need + more,
          (one.stored, named-here size pages all table is one, rows_need, (last, tail, ends, refl), inr (map comes x.0, (x.0, x.1, placing, refl), more, needs-before size pages x.1 all _ store table one ready.still ready.waits (map comes x.0) ready.extends.spared, refl)),
          omega (arith, took, done.1.fewer),
        )
    go last tail ends (Err why) (inl placing) =
        let rows_need = pages_opened (length (entry_bytes tail.entries)) rows in
        let full = rows-full size pages (firsts_of store.store.base.found) store.store.base.held one.stored.first before rows why last tail store.store.base.heap (has-first store.store.base.found one.stored one.has) one.shows.is_table (storable-rows table rows fit) room ends (placed-refused size one.stored.first rows pages why placing) in
        (rows_need, (one.stored, named-here size pages all table is one, rows_need, (last, tail, ends, refl), inl (full, refl)), full)
    go last tail ends (Err why) (inr (x, placing, listing)) =
        let rows_need = pages_opened (length (entry_bytes tail.entries)) rows in
        let ready = rows-in size pages x.1 all table rows store one x.0 fit room placing in
        let more = all_open tree (map comes x.0) one.stored.indexes ready.waits.shapes in
        let took = rows-take size pages x.1 (firsts_of store.store.base.found) store.store.base.held one.stored.first before rows last tail store.store.base.heap (has-first store.store.base.found one.stored one.has) one.shows.is_table (storable-rows table rows fit) room ends (placed-added size one.stored.first rows x.0 pages x.1 placing) in
        let done = follow-answer size x.1 _ ready.still.is one.stored one.shows.placed (one.shows.placed ++ x.0) (map comes x.0) ready.waits (Err why) ready.among ready.extends.is_table.rows ready.fits ready.turned (listed-rows size one.stored.indexes x.0 x.1 (Err why) listing) in (
          rows_need + more,
          (one.stored, named-here size pages all table is one, rows_need, (last, tail, ends, refl), inr (map comes x.0, (x.0, x.1, placing, refl), more, needs-before size pages x.1 all _ store table one ready.still ready.waits (map comes x.0) ready.extends.spared, refl)),
          omega (arith, took, done.1),
        )

pub update-needs : (size : ℕ) (pages : Pages) (all : PlainTables) (table : PlainTable) (changes : List (ℕ × List Value)) (answer : Result (Unit {0} × Pages) Refusal)
    → IsStoreOf size pages all → Contains all.tables table → AreChangesOf table changes
    → updated added removed size pages table.name changes answer → (needs : ℕ) × UpdateNeeds size pages table.name changes needs × TakesNeeded size pages needs answer
update-needs size pages all table changes answer store has these work =
    go end.0 end.1 end.2 answer (goes-on (rows_at size pages one.stored) (λ rows. each (change_of one.stored.first rows) changes >>= λ told. table_updated added removed size one.stored told pages) one.shows.placed (rows-read size pages all table is one) answer
    (by-name size pages all table is one (λ (stored : StoredTable). rows_at size pages stored >>= λ rows. each (change_of stored.first rows) changes >>= λ told. table_updated added removed size stored told pages) answer work))
  where
    is : IsTableStoreOf size pages all
    is = tables_of size pages all store

    one : Single size pages all table (tables_of size pages all store)
    one = single size pages all table (tables_of size pages all store) has

    before : Table
    before = record { next_number = table.next_number; rows = one.shows.placed }

    there : StillThere one.stored.first one.shows.placed before (numbers_of changes)
    there = still one.stored.first before (numbers_of changes) (subst (λ (rows : List (ℕ × List Value)). AllByRecursion (λ (number : ℕ). Contains (map (λ (row : ℕ × List Value). row.0) rows) number) (numbers_of changes)) one.shows.rows these.0.0) these.0.1

    end : (last : ℕ) × (tail : HeapPage) × EndsAt size pages one.stored.first last tail
    end = ends-there size pages (firsts_of store.store.base.found) store.store.base.held one.stored.first store.store.base.heap (has-first store.store.base.found one.stored one.has)

    go : (last : ℕ) (tail : HeapPage) → EndsAt size pages one.stored.first last tail → (answer : Result (Unit {0} × Pages) Refusal) → (each (change_of one.stored.first one.shows.placed) changes >>= λ told. table_updated added removed size one.stored told pages) answer
        → (needs : ℕ) × UpdateNeeds size pages table.name changes needs × TakesNeeded size pages needs answer
    go last tail ends (Ok y) (told, tells, (x, move, listing)) =
        let rows_need = changes_open (taken_after pages) last one.shows.placed changes in
        let ready = rows-move size pages x.1 all table changes store one told x.0 these tells move in
        let more = all_open tree (map moves x.0) one.stored.indexes ready.waits.shapes in
        let took = needed size pages (firsts_of store.store.base.found) store.store.base.held one.stored.first one.shows.placed before changes last tail (Ok (tt, x.1)) store.store.base.heap (has-first store.store.base.found one.stored one.has) one.shows.is_table (storable-changes table changes these.1) there ends (changes-numbered-ok size one.stored.first one.shows.placed changes told x.0 pages x.1 tells move) in
        let done = follow-answer size x.1 _ ready.still.is one.stored one.shows.placed ready.alters.placed (map moves x.0) ready.waits (Ok y) ready.among ready.alters.is_table.rows ready.fits ready.alters.turned (moved-rows size one.stored.indexes x.0 x.1 (Ok y) listing) in (
          rows_need + more,
          (one.stored, named-here size pages all table is one, one.shows.placed, rows-here size pages all table is one, last, tail, ends, inr (map moves x.0, (told, tells, x.0, x.1, move, refl), more, needs-before size pages x.1 all _ store table one ready.still ready.waits (map moves x.0) ready.alters.spared, refl)),
          omega (arith, took, done.1.fewer),
        )
    go last tail ends (Err why) (inl tells) = absurd (never-missed one.stored.first one.shows.placed before changes why there tells)
    go last tail ends (Err why) (inr (told, tells, inl move)) =
        let rows_need = changes_open (taken_after pages) last one.shows.placed changes in
        let full = needed size pages (firsts_of store.store.base.found) store.store.base.held one.stored.first one.shows.placed before changes last tail (Err why) store.store.base.heap (has-first store.store.base.found one.stored one.has) one.shows.is_table (storable-changes table changes these.1) there ends (changes-numbered-err size one.stored.first one.shows.placed changes told pages why tells move) in
        (rows_need, (one.stored, named-here size pages all table is one, one.shows.placed, rows-here size pages all table is one, last, tail, ends, inl (full, refl)), full)
    go last tail ends (Err why) (inr (told, tells, inr (x, move, listing))) =
        let rows_need = changes_open (taken_after pages) last one.shows.placed changes in
        let ready = rows-move size pages x.1 all table changes store one told x.0 these tells move in
        let more = all_open tree (map moves x.0) one.stored.indexes ready.waits.shapes in
        let took = needed size pages (firsts_of store.store.base.found) store.store.base.held one.stored.first one.shows.placed before changes last tail (Ok (tt, x.1)) store.store.base.heap (has-first store.store.base.found one.stored one.has) one.shows.is_table (storable-changes table changes these.1) there ends (changes-numbered-ok size one.stored.first one.shows.placed changes told x.0 pages x.1 tells move) in
        let done = follow-answer size x.1 _ ready.still.is one.stored one.shows.placed ready.alters.placed (map moves x.0) ready.waits (Err why) ready.among ready.alters.is_table.rows ready.fits ready.alters.turned (moved-rows size one.stored.indexes x.0 x.1 (Err why) listing) in (
          rows_need + more,
          (one.stored, named-here size pages all table is one, one.shows.placed, rows-here size pages all table is one, last, tail, ends, inr (map moves x.0, (told, tells, x.0, x.1, move, refl), more, needs-before size pages x.1 all _ store table one ready.still ready.waits (map moves x.0) ready.alters.spared, refl)),
          omega (arith, took, done.1),
        )

pub create-needs : (size : ℕ) (pages : Pages) (all : PlainTables) (name : List ℕ) (columns : List TableColumn) (answer : Result (Unit {0} × Pages) Refusal)
    → IsStoreOf size pages all → IsNewName all name → AreTableColumns columns
    → created size pages name columns answer → (needs : ℕ) × CreateNeeds size pages name columns needs × TakesNeeded size pages needs answer
create-needs size pages all name columns answer store new_name are work =
    let behind = pages_opened (length (entry_bytes end.1.entries)) (map row_values (rows_of_table name 0 columns)) in
    (1 + behind, (behind, (end.0, end.1, end.2, refl), refl), go end.0 end.1 end.2 answer work)
  where
    is : IsTableStoreOf size pages all
    is = tables_of size pages all store

    firsts : List ℕ
    firsts = firsts_of store.store.base.found

    held : List ℕ
    held = store.store.base.held

    before : Table
    before = record { next_number = length store.store.base.placed; rows = store.store.base.placed }

    end : (last : ℕ) × (tail : HeapPage) × EndsAt size pages CATALOG last tail
    end = ends-there size pages (firsts_of store.store.base.found) store.store.base.held CATALOG store.store.base.heap (has-catalog store.store.base.found)

    go : (last : ℕ) (tail : HeapPage) → EndsAt size pages CATALOG last tail → (answer : Result (Unit {0} × Pages) Refusal) → created size pages name columns answer → TakesNeeded size pages (1 + pages_opened (length (entry_bytes tail.entries)) (map row_values (rows_of_table name 0 columns))) answer
    go last tail ends (Ok y) (table, make, add) =
        let makes = make_law size pages firsts held (Ok table) store.store.base.heap make in
        let base = ready size pages store.store.base name columns table.0 table.1 new_name.is_name are makes in
        let took = rows-take size table.1 y.1 (firsts ++ table.0 ∷ []) held CATALOG before (map row_values (rows_of_table name table.0 columns)) last tail makes.well (contains-left firsts (table.0 ∷ []) CATALOG (has-catalog store.store.base.found)) base.is_table base.storable base.room (ends-made size pages is table makes last tail ends) add in
        omega (arith, took, makes.takes.one_less, opened-same (length (entry_bytes tail.entries)) name 0 table.0 columns)
    go last tail ends (Err why) (inl refused) =
        let full = make_law size pages firsts held (Err why) store.store.base.heap refused in
        omega (arith, full.1)
    go last tail ends (Err why) (inr (table, make, add)) =
        let makes = make_law size pages firsts held (Ok table) store.store.base.heap make in
        let base = ready size pages store.store.base name columns table.0 table.1 new_name.is_name are makes in
        let full = rows-full size table.1 (firsts ++ table.0 ∷ []) held CATALOG before (map row_values (rows_of_table name table.0 columns)) why last tail makes.well (contains-left firsts (table.0 ∷ []) CATALOG (has-catalog store.store.base.found)) base.is_table base.storable base.room (ends-made size pages is table makes last tail ends) add in
        omega (arith, full, makes.takes.one_less, opened-same (length (entry_bytes tail.entries)) name 0 table.0 columns)

pub index-needs : (size : ℕ) (pages : Pages) (all : PlainTables) (table : PlainTable) (name column : List ℕ) (answer : Result (Unit {0} × Pages) Refusal)
    → IsStoreOf size pages all → Contains all.tables table → IsNewName all name → HasColumn column table
    → indexed made added size pages name table.name column answer → (needs : ℕ) × IndexNeeds size pages name table.name column needs × TakesNeeded size pages needs answer
index-needs size pages all table name column answer store has new there work = (
  1 + (behind + entries_open put opens by.entries empty),
  (one.stored, named-here size pages all table is one, ready.at_column.place, place-found column one.stored.columns ready.at_column, by.entries, (one.shows.placed, rows-here size pages all table is one, by.order), behind, (end.0, end.1, end.2, refl), refl),
  go end.0 end.1 end.2 answer by.steps,
)
  where
    is : IsTableStoreOf size pages all
    is = tables_of size pages all store

    one : Single size pages all table (tables_of size pages all store)
    one = single size pages all table (tables_of size pages all store) has

    ready : IndexReady size pages all (tables_of size pages all store) one.stored name column
    ready = index-ready size pages all table (tables_of size pages all store) one name column new.is_name there

    by : Indexing size name one.stored.name ready.at_column.place one.shows.placed pages answer
    by = indexing-at size pages all table store one name column ready answer work

    firsts : List ℕ
    firsts = firsts_of store.store.base.found

    held : List ℕ
    held = store.store.base.held

    before : Table
    before = record { next_number = length store.store.base.placed; rows = store.store.base.placed }

    end : (last : ℕ) × (tail : HeapPage) × EndsAt size pages CATALOG last tail
    end = ends-there size pages (firsts_of store.store.base.found) store.store.base.held CATALOG store.store.base.heap (has-catalog store.store.base.found)

    behind : ℕ
    behind = pages_opened (length (entry_bytes end.1.entries)) (row_values (row_of_index name table.name 0 0) ∷ [])

    same : (taken root : ℕ) → pages_opened taken (row_values (row_of_index name one.stored.name ready.at_column.place root) ∷ []) ≡ pages_opened taken (row_values (row_of_index name table.name 0 0) ∷ [])
    same taken root = opened-index taken name one.stored.name ready.at_column.place 0 root 0 ∙ ap (λ (n : List ℕ). pages_opened taken (row_values (row_of_index name n 0 0) ∷ [])) (sym one.shows.name)

    go : (last : ℕ) (tail : HeapPage) → EndsAt size pages CATALOG last tail → (answer : Result (Unit {0} × Pages) Refusal) → indexing_entries size name one.stored.name ready.at_column.place by.entries pages answer
        → TakesNeeded size pages (1 + (pages_opened (length (entry_bytes tail.entries)) (row_values (row_of_index name table.name 0 0) ∷ []) + entries_open put opens by.entries empty)) answer
    go last tail ends (Ok y) (root, make, (told, add, listing)) =
        let it = begun size pages told.1 all table store one name column ready root make add in
        let fin = entries-answer size pages told.1 all table store one name column ready root it by.entries (Ok y) by.order listing in
        let kept = ends-kept size pages root.1 firsts held CATALOG store.store.base.heap (has-catalog store.store.base.found) (it.edited.tables CATALOG (has-catalog store.store.base.found)) last tail ends in
        let took = rows-take size root.1 told.1 firsts (it.edited.behind ++ held) CATALOG before (row_values (row_of_index name one.stored.name ready.at_column.place root.0) ∷ []) last tail it.edited.well (has-catalog store.store.base.found) (it.edited.stay CATALOG (has-catalog store.store.base.found) before ready.is_table) (ready.storable root.0 it.low) ready.room kept add in
        omega (arith, took, it.edited.fewer, fin.0.fewer, same (length (entry_bytes tail.entries)) root.0)
    go last tail ends (Err why) (inl make) =
        let full = make-answer tree size pages firsts held (Err why) store.store.base.heap make in
        omega (arith, full.1)
    go last tail ends (Err why) (inr (root, make, inl add)) =
        let edited = make-answer tree size pages firsts held (Ok root) store.store.base.heap make in
        let low = root-low size root.1 root.0 empty edited.behind firsts (edited.behind ++ held) edited.well edited.is in
        let kept = ends-kept size pages root.1 firsts held CATALOG store.store.base.heap (has-catalog store.store.base.found) (edited.tables CATALOG (has-catalog store.store.base.found)) last tail ends in
        let full = rows-full size root.1 firsts (edited.behind ++ held) CATALOG before (row_values (row_of_index name one.stored.name ready.at_column.place root.0) ∷ []) why last tail edited.well (has-catalog store.store.base.found) (edited.stay CATALOG (has-catalog store.store.base.found) before ready.is_table) (ready.storable root.0 low) ready.room kept add in
        omega (arith, full, edited.fewer, same (length (entry_bytes tail.entries)) root.0)
    go last tail ends (Err why) (inr (root, make, inr (told, add, listing))) =
        let it = begun size pages told.1 all table store one name column ready root make add in
        let fin = entries-answer size pages told.1 all table store one name column ready root it by.entries (Err why) by.order listing in
        let kept = ends-kept size pages root.1 firsts held CATALOG store.store.base.heap (has-catalog store.store.base.found) (it.edited.tables CATALOG (has-catalog store.store.base.found)) last tail ends in
        let took = rows-take size root.1 told.1 firsts (it.edited.behind ++ held) CATALOG before (row_values (row_of_index name one.stored.name ready.at_column.place root.0) ∷ []) last tail it.edited.well (has-catalog store.store.base.found) (it.edited.stay CATALOG (has-catalog store.store.base.found) before ready.is_table) (ready.storable root.0 it.low) ready.room kept add in
        omega (arith, took, it.edited.fewer, fin.1, same (length (entry_bytes tail.entries)) root.0)

pub needs_law : NeedsLaw
needs_law = record { insert = insert-needs; update = update-needs; create = create-needs; index = index-needs }

pub edits_law : EditsLaw
edits_law size pages after all table stored rows placed store has fit room some named work =
    let is = tables_of size pages all store in
    let one = single size pages all table is has in
    let same : stored ≡ one.stored = ok-one (named-in size pages all table is one (Ok stored) named) in
    let end = ends-there size pages (firsts_of is.store.found) is.store.held one.stored.first is.store.heap (has-first is.store.found one.stored one.has) in
    let edited = rows-edit size pages after (firsts_of is.store.found) is.store.held one.stored.first (record { next_number = table.next_number; rows = one.shows.placed }) rows end.0 end.1 is.store.heap (has-first is.store.found one.stored one.has) one.shows.is_table (storable-rows table rows fit) room end.2 some
    (placed-added size one.stored.first rows placed pages after (subst (λ (t : StoredTable). all_placed size t.first rows pages (Ok (placed, after))) same work)) in
    record { table = one.stored; named = named-here size pages all table is one; last = end.0; tail = end.1; ends = end.2; edits = edited }
