-- The pages that pieces of work edit, on stores with indexes.
use Rattle.std.proofs.Common.{◌≡◌, ◌∙◌, ◌<◌, ◌≤◌, ◌+◌, ◌++◌, ◌^◌, ◌⊎◌, ℕ, List, [], ◌∷◌, length, map, Ok, inl, inr, refl, sym, ap, subst, arith}
use Rattle.std.specs.List.{AllByRecursion, Contains}
use Rattle.values.specs.declared.value.Value.{Value}
use Rattle.sql_tree.specs.declared.statement.Column.{Column as TableColumn}
use Rattle.pager.specs.Allows.{◌>>=◌, in_turn, only}
use Rattle.pager.specs.Pages.{Pages}
use Rattle.tree_index.specs.Tree.{empty, opens, put}
use Rattle.tree_index.specs.Work.{added, made, removed}
use Rattle.heap_file.specs.declared.page.HeapPage.{HeapPage}
use Rattle.heap_file.specs.declared.chain.Placed.{Placed}
use Rattle.heap_file.specs.HeapPage.{entry_bytes}
use Rattle.heap_laws.specs.Laws.{AreSpared}
use Rattle.heap_laws.specs.Store.{free_pages, times}
use Rattle.heap_laws.specs.Table.{EndsAt, Table}
use Rattle.heap_laws.proofs.Making.{make_law}
use Rattle.heap_laws.proofs.Reading.{reads}
use Rattle.heap_laws.proofs.Stores.{times-some}
use Rattle.relation.specs.declared.catalog.StoredTable.{StoredTable}
use Rattle.relation.specs.declared.catalog.TheConstants.{CATALOG}
use Rattle.relation.specs.CatalogRow.{row_values}
use Rattle.relation.specs.Each.{each}
use Rattle.relation.specs.Work.{all_placed, change_of, created, deleted, indexed, inserted, placed_of, row_of_index, rows_at, rows_of_table, table_deleted, table_inserted, table_updated, updated}
use Rattle.relation.proofs.Halves.{changes-numbered-ok, placed-added, removes-numbered, row_removed}
use Rattle.relation_laws.specs.Laws.{AreChangesOf, AreNumbersOf, AreTableColumns, HasColumn, IsNewName, IsRowFor, IsStoreOf}
use Rattle.relation_laws.specs.Needs.{changes_open, next_pages, pages_opened, taken_after}
use Rattle.relation_laws.specs.Reach.{with_root}
use Rattle.relation_laws.specs.Tables.{PlainTable, PlainTables, all_pages}
use Rattle.relation_laws.specs.Turns.{comes, entries_open, goes, moves}
use Rattle.relation_laws.specs.Work.{Changes, Creates, EditsWithin, Indexes, Inserts, IsInReach, IsOfTable, Needs, Removes, Work}
use Rattle.relation_laws.proofs.Catalogs.{goes-on}
use Rattle.relation_laws.proofs.Creating.{ready}
use Rattle.relation_laws.proofs.Deleted.{none-open, rows-out, unlisted-rows}
use Rattle.relation_laws.proofs.Deleting.{StillThere, left, still}
use Rattle.relation_laws.proofs.Drawing.{Draws, next-first}
use Rattle.relation_laws.proofs.Drawn.{make-draws}
use Rattle.relation_laws.proofs.Following.{all_open}
use Rattle.relation_laws.proofs.Holding.{Waiting, follow-answer, index-page, tree}
use Rattle.relation_laws.proofs.Indexed.{begun, entries-answer, indexing-at}
use Rattle.relation_laws.proofs.Indexing.{index-ready, place-found}
use Rattle.relation_laws.proofs.Inserted.{listed-rows, rows-in}
use Rattle.relation_laws.proofs.Inserting.{storable-rows}
use Rattle.relation_laws.proofs.Keeping.{ReachesOnly, in-root, root-left, root-right}
use Rattle.relation_laws.proofs.Leaving.{chain-closed, page_in}
use Rattle.relation_laws.proofs.Lists.{all-at, contains-left}
use Rattle.relation_laws.proofs.Needed.{kept-before, needs-before}
use Rattle.relation_laws.proofs.Needing.{ends-kept, ends-made, ends-there, next-more, opened-index, opened-same, rows-draw, rows-edit}
use Rattle.relation_laws.proofs.Reaching.{all-imp, own, own-first, own-last}
use Rattle.relation_laws.proofs.Singling.{Single, by-name, firsts_of, has-catalog, has-first, named-here, rows-here, rows-read, single}
use Rattle.relation_laws.proofs.TableStores.{HoldsStill, IsTableStoreOf, tables_of}
use Rattle.relation_laws.proofs.Updated.{moved-rows, rows-move}
use Rattle.relation_laws.proofs.Updating.{numbers_of, storable-changes}
use Rattle.relation_laws.proofs.Weighing.{rows-own}
use Rattle.relation_laws.proofs.Within.{all-contained, all-root, changes-draw, changes-within, contains-times, own-page, removes-within, within-edits, within-then, within-wider}
use Rattle.pager.proofs.Turns.{left_pages}

-- a page of the table of a name
pub of-table : (size : ℕ) (pages : Pages) (all : PlainTables) (table : PlainTable) (is : IsTableStoreOf size pages all) (one : Single size pages all table is) (p : ℕ) → 0 < times p (own size pages (firsts_of is.store.found) is.store.held one.stored.first is.store.heap (has-first is.store.found one.stored one.has)) → IsOfTable size pages table.name p
of-table size pages all table is one p here =
    (one.stored, named-here size pages all table is one, inl (own-page size pages (firsts_of is.store.found) is.store.held one.stored.first is.store.heap (has-first is.store.found one.stored one.has) p here))

-- the pages that a piece of work takes are in its reach
taken-within : (size : ℕ) (pages : Pages) (work : Work) (needs : ℕ) → Needs size pages work needs → AllByRecursion (IsInReach size pages work) (with_root (next_pages pages needs))
taken-within size pages work needs are = all-contained (with_root (next_pages pages needs)) (IsInReach size pages work) (λ p has. inr (needs, are, has))

-- of pages that are taken next, those that come first
first-taken : (T : ℕ → Type 0) (pages mid : Pages) (one two : ℕ) → Draws pages mid one → AllByRecursion T (with_root (next_pages pages (one + two))) → AllByRecursion T (with_root (next_pages pages one))
first-taken T pages mid one two draws all = all-contained (with_root (next_pages pages one)) T (λ p has. all-at T (with_root (next_pages pages (one + two))) p all (root-left pages mid one two p draws has))

then-taken : (T : ℕ → Type 0) (pages mid : Pages) (one two : ℕ) → Draws pages mid one → AllByRecursion T (with_root (next_pages pages (one + two))) → AllByRecursion T (with_root (next_pages mid two))
then-taken T pages mid one two draws all = all-contained (with_root (next_pages mid two)) T (λ p has. all-at T (with_root (next_pages pages (one + two))) p all (root-right pages mid one two p draws has))

-- indexes edit their pages, and those that they take
follow-within : (T : ℕ → Type 0) (mid after : Pages) (held : List ℕ) (takes : ℕ) → ReachesOnly mid after held takes → ((p : ℕ) → Contains held p → T p) → AllByRecursion T (with_root (next_pages mid takes)) → EditsWithin mid after T
follow-within T mid after held takes edits mine taken page = elim (edits page) [
  | inl same ↦ inl same
  | inr reached ↦ inr (elim reached [
    | inl has ↦ mine page has
    | inr next ↦ all-at T (with_root (next_pages mid takes)) page taken next
  ])
]

-- a page of the indexes that wait is one of the table's
each-page : (size : ℕ) (pages mid : Pages) (all behind : PlainTables) (store : IsStoreOf size pages all) (table : PlainTable) (one : Single size pages all table (tables_of size pages all store)) (still : HoldsStill size mid behind store.store.base.found store.store.base.held) (w : Waiting size mid still.is.store one.stored one.shows.placed) → AreSpared store.store.base.held pages mid
    → (p : ℕ) → Contains (all_pages w.each) p → IsOfTable size pages table.name p
each-page size pages mid all behind store table one still w spared p has =
    (one.stored, named-here size pages all table (tables_of size pages all store) one, inr (index-page size pages one.shows.placed one.stored one.stored.indexes w.shapes w.each (kept-before size pages mid all behind store table one still w spared) (λ i among. among) p has))

-- rows that are inserted
rows-within : (T : ℕ → Type 0) (size : ℕ) (pages mid : Pages) (all : PlainTables) (table : PlainTable) (rows : List (List Value)) (is : IsTableStoreOf size pages all) (one : Single size pages all table is) → AllByRecursion (IsRowFor table) rows → table.next_number + length rows < 2 ^ 64 → (last : ℕ) (tail : HeapPage) → EndsAt size pages one.stored.first last tail
    → T one.stored.first → T last → AllByRecursion T (with_root (next_pages pages (pages_opened (length (entry_bytes tail.entries)) rows))) → (placed : List Placed) → all_placed size one.stored.first rows pages (Ok (placed, mid)) → EditsWithin pages mid T
rows-within T size pages mid all table [] is one fit room last tail ends at_first at_last taken placed work =
    let same : pages ≡ mid = left_pages pages mid (placed-added size one.stored.first [] placed pages mid work) in
    λ page. inl (ap (λ (p : Pages). p.at page) (sym same), ap (λ (p : Pages). p.edited page) (sym same))
rows-within T size pages mid all table (row ∷ rows) is one fit room last tail ends at_first at_last taken placed work =
    let among = has-first is.store.found one.stored one.has in
    let edits = rows-edit size pages mid (firsts_of is.store.found) is.store.held one.stored.first (record { next_number = table.next_number; rows = one.shows.placed }) (row ∷ rows) last tail is.store.heap among one.shows.is_table (storable-rows table (row ∷ rows) fit) room ends (omega arith) (placed-added size one.stored.first (row ∷ rows) placed pages mid work) in
    within-edits T pages mid (one.stored.first ∷ last ∷ with_root (next_pages pages (pages_opened (length (entry_bytes tail.entries)) (row ∷ rows)))) edits (at_first, (at_last, taken))

pub insert-within : (size : ℕ) (pages after : Pages) (all : PlainTables) (table : PlainTable) (rows : List (List Value)) → IsStoreOf size pages all → Contains all.tables table → AllByRecursion (IsRowFor table) rows → table.next_number + length rows < 2 ^ 64 → inserted added size pages table.name rows (Ok (tt, after)) → EditsWithin pages after (IsInReach size pages (Inserts table.name rows))
insert-within size pages after all table rows store has fit room work =
    go (by-name size pages all table is one (λ (stored : StoredTable). table_inserted added size stored rows pages) (Ok (tt, after)) work)
  where
    is : IsTableStoreOf size pages all
    is = tables_of size pages all store

    one : Single size pages all table (tables_of size pages all store)
    one = single size pages all table (tables_of size pages all store) has

    among : Contains (firsts_of store.store.base.found) one.stored.first
    among = has-first store.store.base.found one.stored one.has

    T : ℕ → Type 0
    T = IsInReach size pages (Inserts table.name rows)

    go : table_inserted added size one.stored rows pages (Ok (tt, after)) → EditsWithin pages after (IsInReach size pages (Inserts table.name rows))
    go (x, placing, listing) =
        let end = ends-there size pages (firsts_of is.store.found) is.store.held one.stored.first is.store.heap among in
        let first = pages_opened (length (entry_bytes end.1.entries)) rows in
        let before : Table = record { next_number = table.next_number; rows = one.shows.placed } in
        let ready = rows-in size pages x.1 all table rows store one x.0 fit room placing in
        let more = all_open tree (map comes x.0) one.stored.indexes ready.waits.shapes in
        let done = follow-answer size x.1 _ ready.still.is one.stored one.shows.placed (one.shows.placed ++ x.0) (map comes x.0) ready.waits (Ok (tt, after)) ready.among ready.extends.is_table.rows ready.fits ready.turned (listed-rows size one.stored.indexes x.0 x.1 (Ok (tt, after)) listing) in
        let draws = rows-draw size pages x.1 (firsts_of is.store.found) is.store.held one.stored.first before rows end.0 end.1 is.store.heap among one.shows.is_table (storable-rows table rows fit) room end.2 (placed-added size one.stored.first rows x.0 pages x.1 placing) in
        let taken = taken-within size pages (Inserts table.name rows) (first + more) (one.stored, named-here size pages all table is one, first, (end.0, end.1, end.2, refl), inr (map comes x.0, (x.0, x.1, placing, refl), more, needs-before size pages x.1 all _ store table one ready.still ready.waits (map comes x.0) ready.extends.spared, refl)) in
        within-then T T T pages x.1 after (λ p t. t) (λ p t. t)
        (rows-within T size pages x.1 all table rows is one fit room end.0 end.1 end.2
        (inl (of-table size pages all table is one one.stored.first (own-first size pages (firsts_of is.store.found) is.store.held one.stored.first is.store.heap among)))
        (inl (of-table size pages all table is one end.0 (own-last size pages (firsts_of is.store.found) is.store.held one.stored.first end.0 end.1 is.store.heap among end.2)))
        (first-taken T pages x.1 first more draws taken) x.0 placing)
        (follow-within T x.1 after (all_pages ready.waits.each) more done.1.edits (λ p here. inl (each-page size pages x.1 all _ store table one ready.still ready.waits ready.extends.spared p here)) (then-taken T pages x.1 first more draws taken))

-- rows that are changed
pub change-within : (size : ℕ) (pages after : Pages) (all : PlainTables) (table : PlainTable) (changes : List (ℕ × List Value)) → IsStoreOf size pages all → Contains all.tables table → AreChangesOf table changes → updated added removed size pages table.name changes (Ok (tt, after)) → EditsWithin pages after (IsInReach size pages (Changes table.name changes))
change-within size pages after all table changes store has these work =
    go (goes-on (rows_at size pages one.stored) (λ rows. each (change_of one.stored.first rows) changes >>= λ told. table_updated added removed size one.stored told pages) one.shows.placed (rows-read size pages all table is one) (Ok (tt, after))
    (by-name size pages all table is one (λ (stored : StoredTable). rows_at size pages stored >>= λ rows. each (change_of stored.first rows) changes >>= λ told. table_updated added removed size stored told pages) (Ok (tt, after)) work))
  where
    is : IsTableStoreOf size pages all
    is = tables_of size pages all store

    one : Single size pages all table (tables_of size pages all store)
    one = single size pages all table (tables_of size pages all store) has

    among : Contains (firsts_of store.store.base.found) one.stored.first
    among = has-first store.store.base.found one.stored one.has

    before : Table
    before = record { next_number = table.next_number; rows = one.shows.placed }

    there : StillThere one.stored.first one.shows.placed before (numbers_of changes)
    there = still one.stored.first before (numbers_of changes) (subst (λ (rows : List (ℕ × List Value)). AllByRecursion (λ (number : ℕ). Contains (map (λ (row : ℕ × List Value). row.0) rows) number) (numbers_of changes)) one.shows.rows these.0.0) these.0.1

    T : ℕ → Type 0
    T = IsInReach size pages (Changes table.name changes)

    mine : (p : ℕ) → 0 < times p (own size pages (firsts_of store.store.base.found) store.store.base.held one.stored.first store.store.base.heap among) → T p
    mine p here = inl (of-table size pages all table is one p here)

    go : (each (change_of one.stored.first one.shows.placed) changes >>= λ told. table_updated added removed size one.stored told pages) (Ok (tt, after)) → EditsWithin pages after (IsInReach size pages (Changes table.name changes))
    go (told, tells, (x, move, listing)) =
        let end = ends-there size pages (firsts_of is.store.found) is.store.held one.stored.first is.store.heap among in
        let first = changes_open (taken_after pages) end.0 one.shows.placed changes in
        let ready = rows-move size pages x.1 all table changes store one told x.0 these tells move in
        let more = all_open tree (map moves x.0) one.stored.indexes ready.waits.shapes in
        let done = follow-answer size x.1 _ ready.still.is one.stored one.shows.placed ready.alters.placed (map moves x.0) ready.waits (Ok (tt, after)) ready.among ready.alters.is_table.rows ready.fits ready.alters.turned (moved-rows size one.stored.indexes x.0 x.1 (Ok (tt, after)) listing) in
        let heap = changes-numbered-ok size one.stored.first one.shows.placed changes told x.0 pages x.1 tells move in
        let draws = changes-draw size pages x.1 (firsts_of is.store.found) is.store.held one.stored.first one.shows.placed before changes end.0 end.1 is.store.heap among one.shows.is_table (storable-changes table changes these.1) there end.2 heap in
        let taken = taken-within size pages (Changes table.name changes) (first + more) (one.stored, named-here size pages all table is one, one.shows.placed, rows-here size pages all table is one, end.0, end.1, end.2, inr (map moves x.0, (told, tells, x.0, x.1, move, refl), more, needs-before size pages x.1 all _ store table one ready.still ready.waits (map moves x.0) ready.alters.spared, refl)) in
        within-then T T T pages x.1 after (λ p t. t) (λ p t. t)
        (changes-within T size pages x.1 (firsts_of is.store.found) is.store.held one.stored.first one.shows.placed before changes end.0 end.1 is.store.heap among one.shows.is_table (storable-changes table changes these.1) there end.2
        (mine one.stored.first (own-first size pages (firsts_of is.store.found) is.store.held one.stored.first is.store.heap among))
        (mine end.0 (own-last size pages (firsts_of is.store.found) is.store.held one.stored.first end.0 end.1 is.store.heap among end.2))
        (all-imp (λ (p : Placed). 0 < times p.page (own size pages (firsts_of is.store.found) is.store.held one.stored.first is.store.heap among)) (λ (p : Placed). T p.page) one.shows.placed (λ p here. mine p.page here) (rows-own size pages (firsts_of is.store.found) is.store.held one.stored.first before is.store.heap among one.shows.is_table))
        (first-taken T pages x.1 first more draws taken) heap)
        (follow-within T x.1 after (all_pages ready.waits.each) more done.1.edits (λ p here. inl (each-page size pages x.1 all _ store table one ready.still ready.waits ready.alters.spared p here)) (then-taken T pages x.1 first more draws taken))

-- a table is made
pub create-within : (size : ℕ) (pages after : Pages) (all : PlainTables) (name : List ℕ) (columns : List TableColumn) → IsStoreOf size pages all → IsNewName all name → AreTableColumns columns → created size pages name columns (Ok (tt, after)) → EditsWithin pages after (IsInReach size pages (Creates name columns))
create-within size pages after all name columns store new_name are (table, make, add) =
    let is = tables_of size pages all store in
    let firsts = firsts_of is.store.found in
    let held = is.store.held in
    let among = has-catalog is.store.found in
    let makes = make_law size pages firsts held (Ok table) is.store.heap make in
    let base = ready size pages is.store name columns table.0 table.1 new_name.is_name are makes in
    let end = ends-there size pages firsts held CATALOG is.store.heap among in
    let behind = pages_opened (length (entry_bytes end.1.entries)) (map row_values (rows_of_table name 0 columns)) in
    let rows = map row_values (rows_of_table name table.0 columns) in
    let edits = rows-edit size table.1 after (firsts ++ table.0 ∷ []) held CATALOG (record { next_number = length is.store.placed; rows = is.store.placed }) rows end.0 end.1 makes.well (contains-left firsts (table.0 ∷ []) CATALOG among) base.is_table base.storable base.room (ends-made size pages is table makes end.0 end.1 end.2) (omega arith) add in
    let T : ℕ → Type 0 = IsInReach size pages (Creates name columns) in
    let taken : AllByRecursion T (with_root (next_pages pages (1 + behind))) = taken-within size pages (Creates name columns) (1 + behind) (behind, (end.0, end.1, end.2, refl), refl) in
    let all_taken : AllByRecursion T (0 ∷ taken_after pages 0 ∷ next_pages table.1 behind) = subst (λ (l : List ℕ). AllByRecursion T (with_root l)) (sym (next-more pages table.1 behind (make-draws size pages firsts held CATALOG table is.store.heap among make makes))) taken in
    let mine : (p : ℕ) → 0 < times p (own size pages firsts held CATALOG is.store.heap among) → T p = λ p here. inl (own-page size pages firsts held CATALOG is.store.heap among p here) in
    within-then T T T pages table.1 after (λ p t. t) (λ p t. t)
    (within-edits T pages table.1 (table.0 ∷ 0 ∷ []) makes.edits (subst T (sym (makes.takes.next ∙ next-first pages)) all_taken.1.0, (all_taken.0, tt)))
    (within-edits T table.1 after (CATALOG ∷ end.0 ∷ with_root (next_pages table.1 (pages_opened (length (entry_bytes end.1.entries)) rows))) edits (
      mine CATALOG (own-first size pages firsts held CATALOG is.store.heap among),
      (
        mine end.0 (own-last size pages firsts held CATALOG end.0 end.1 is.store.heap among end.2),
        subst (λ (n : ℕ). AllByRecursion T (with_root (next_pages table.1 n))) (opened-same (length (entry_bytes end.1.entries)) name 0 table.0 columns) (all-root T (next_pages table.1 behind) all_taken.0 all_taken.1.1),
      ),
    ))

-- an index is made
pub index-within : (size : ℕ) (pages after : Pages) (all : PlainTables) (table : PlainTable) (name column : List ℕ) → IsStoreOf size pages all → Contains all.tables table → IsNewName all name → HasColumn column table → indexed made added size pages name table.name column (Ok (tt, after)) → EditsWithin pages after (IsInReach size pages (Indexes name table.name column))
index-within size pages after all table name column store has new there work =
    let is = tables_of size pages all store in
    let one = single size pages all table is has in
    let ready_ = index-ready size pages all table is one name column new.is_name there in
    let by = indexing-at size pages all table store one name column ready_ (Ok (tt, after)) work in
    let steps = by.steps in
    let root = steps.0 in
    let mid = steps.2.0.1 in
    let it = begun size pages mid all table store one name column ready_ root steps.1 steps.2.1 in
    let fin = entries-answer size pages mid all table store one name column ready_ root it by.entries (Ok (tt, after)) by.order steps.2.2 in
    let firsts = firsts_of is.store.found in
    let held = is.store.held in
    let among = has-catalog is.store.found in
    let before : Table = record { next_number = length is.store.placed; rows = is.store.placed } in
    let end = ends-there size pages firsts held CATALOG is.store.heap among in
    let kept = ends-kept size pages root.1 firsts held CATALOG is.store.heap among (it.edited.tables CATALOG among) end.0 end.1 end.2 in
    let row : List Value = row_values (row_of_index name one.stored.name ready_.at_column.place root.0) in
    let taken_in = length (entry_bytes end.1.entries) in
    let behind = pages_opened taken_in (row_values (row_of_index name table.name 0 0) ∷ []) in
    let count : pages_opened taken_in (row ∷ []) ≡ behind = opened-index taken_in name one.stored.name ready_.at_column.place 0 root.0 0 ∙ ap (λ (n : List ℕ). pages_opened taken_in (row_values (row_of_index name n 0 0) ∷ [])) (sym one.shows.name) in
    let takes = entries_open put opens by.entries empty in
    let edits = rows-edit size root.1 mid firsts (it.edited.behind ++ held) CATALOG before (row ∷ []) end.0 end.1 it.edited.well among (it.edited.stay CATALOG among before ready_.is_table) (ready_.storable root.0 it.low) ready_.room kept (omega arith) steps.2.1 in
    let draws : Draws root.1 mid behind = subst (Draws root.1 mid) count (rows-draw size root.1 mid firsts (it.edited.behind ++ held) CATALOG before (row ∷ []) end.0 end.1 it.edited.well among (it.edited.stay CATALOG among before ready_.is_table) (ready_.storable root.0 it.low) ready_.room kept steps.2.1) in
    let T : ℕ → Type 0 = IsInReach size pages (Indexes name table.name column) in
    let taken : AllByRecursion T (with_root (next_pages pages (1 + (behind + takes)))) = taken-within size pages (Indexes name table.name column) (1 + (behind + takes)) (one.stored, named-here size pages all table is one, ready_.at_column.place, place-found column one.stored.columns ready_.at_column, by.entries, (one.shows.placed, rows-here size pages all table is one, by.order), behind, (end.0, end.1, end.2, refl), refl) in
    let first = first-taken T pages root.1 1 (behind + takes) it.edited.draws taken in
    let rest = then-taken T pages root.1 1 (behind + takes) it.edited.draws taken in
    let mine : (p : ℕ) → 0 < times p (own size pages firsts held CATALOG is.store.heap among) → T p = λ p here. inl (own-page size pages firsts held CATALOG is.store.heap among p here) in
    within-then T T T pages mid after (λ p t. t) (λ p t. t)
    (within-then T T T pages root.1 mid (λ p t. t) (λ p t. t)
    (follow-within T pages root.1 [] 1 it.edited.edits (λ p has. absurd (omega (arith, has.1))) first)
    (within-edits T root.1 mid (CATALOG ∷ end.0 ∷ with_root (next_pages root.1 (pages_opened taken_in (row ∷ [])))) edits (
      mine CATALOG (own-first size pages firsts held CATALOG is.store.heap among),
      (
        mine end.0 (own-last size pages firsts held CATALOG end.0 end.1 is.store.heap among end.2),
        subst (λ (n : ℕ). AllByRecursion T (with_root (next_pages root.1 n))) (sym count) (first-taken T root.1 mid behind takes draws rest),
      ),
    )))
    (follow-within T mid after it.edited.behind takes fin.0.edits (λ p has. elim (it.edited.grows p has) [
      | inl none ↦ absurd (omega (arith, none.1))
      | inr next ↦ all-at T (with_root (next_pages pages 1)) p first (in-root (next_pages pages 1) p next)
    ]) (then-taken T root.1 mid behind takes draws rest))

-- rows that are taken out
heap-out : (size : ℕ) (pages mid : Pages) (all : PlainTables) (table : PlainTable) (numbers : List ℕ) (is : IsTableStoreOf size pages all) (one : Single size pages all table is) → StillThere one.stored.first one.shows.placed (record { next_number = table.next_number; rows = one.shows.placed }) numbers → in_turn (row_removed size one.stored.first one.shows.placed) numbers pages (Ok (tt, mid)) → EditsWithin pages mid (IsInReach size pages (Removes table.name numbers))
heap-out size pages mid all table numbers is one there turns =
    let firsts = firsts_of is.store.found in
    let held = is.store.held in
    let among = has-first is.store.found one.stored one.has in
    let read = reads size pages firsts held one.stored.first is.store.heap among in
    let links = read.one.chain.links in
    let T : ℕ → Type 0 = Contains (map page_in links) in
    let before : Table = record { next_number = table.next_number; rows = one.shows.placed } in
    let inside : (p : ℕ) → T p → 0 < times p (own size pages firsts held one.stored.first is.store.heap among) = λ p here. times-some (map page_in links) p here in
    let contained : (p : ℕ) → 0 < times p (own size pages firsts held one.stored.first is.store.heap among) → T p = λ p some. contains-times (map page_in links) p some in
    let edits = removes-within T size pages mid firsts held one.stored.first one.shows.placed before numbers (λ p here. omega (arith, (read.inside p (inside p here)).1, is.store.heap.small)) is.store.heap among one.shows.is_table there
    (chain-closed size pages one.stored.first links read.route.leads) (contained one.stored.first (own-first size pages firsts held one.stored.first is.store.heap among))
    (all-imp (λ (p : Placed). 0 < times p.page (own size pages firsts held one.stored.first is.store.heap among)) (λ (p : Placed). T p.page) one.shows.placed (λ p some. contained p.page some) (rows-own size pages firsts held one.stored.first before is.store.heap among one.shows.is_table)) turns in
    within-wider (λ p. (p ≡ 0) ⊎ T p) (IsInReach size pages (Removes table.name numbers)) pages mid (λ p here. reached p (inside p) here) edits
  where
    reached : (p : ℕ) {T : Type 0} → (T → 0 < times p (own size pages (firsts_of is.store.found) is.store.held one.stored.first is.store.heap (has-first is.store.found one.stored one.has))) → (p ≡ 0) ⊎ T → IsInReach size pages (Removes table.name numbers) p
    reached p mine (inl none) = inl (inl none)
    reached p mine (inr here) = inl (inr (of-table size pages all table is one p (mine here)))

pub removed-within : (size : ℕ) (pages after : Pages) (all : PlainTables) (table : PlainTable) (numbers : List ℕ) → IsStoreOf size pages all → Contains all.tables table → AreNumbersOf table numbers → deleted removed size pages table.name numbers (Ok (tt, after)) → (free_pages size pages ≤ free_pages size after) × EditsWithin pages after (IsInReach size pages (Removes table.name numbers))
removed-within size pages after all table numbers store has these work =
    go (goes-on (rows_at size pages one.stored) (λ rows. each (λ number. only (placed_of one.stored.first number rows)) numbers >>= λ gone. table_deleted removed size one.stored gone pages) one.shows.placed (rows-read size pages all table is one) (Ok (tt, after))
    (by-name size pages all table is one (λ (stored : StoredTable). rows_at size pages stored >>= λ rows. each (λ number. only (placed_of stored.first number rows)) numbers >>= λ gone. table_deleted removed size stored gone pages) (Ok (tt, after)) work))
  where
    is : IsTableStoreOf size pages all
    is = tables_of size pages all store

    one : Single size pages all table (tables_of size pages all store)
    one = single size pages all table (tables_of size pages all store) has

    before : Table
    before = record { next_number = table.next_number; rows = one.shows.placed }

    there : StillThere one.stored.first one.shows.placed before numbers
    there = still one.stored.first before numbers (subst (λ (rows : List (ℕ × List Value)). AllByRecursion (λ (number : ℕ). Contains (map (λ (row : ℕ × List Value). row.0) rows) number) numbers) one.shows.rows these.0) these.1

    T : ℕ → Type 0
    T = IsInReach size pages (Removes table.name numbers)

    go : (each (λ number. only (placed_of one.stored.first number one.shows.placed)) numbers >>= λ gone. table_deleted removed size one.stored gone pages) (Ok (tt, after)) → (free_pages size pages ≤ free_pages size after) × EditsWithin pages after (IsInReach size pages (Removes table.name numbers))
    go (gone, told, (x, out, listing)) =
        let ready = rows-out size pages x.1 all table numbers store one gone there told out in
        let done = follow-answer size x.1 _ ready.still.is one.stored one.shows.placed (left numbers before).rows (map goes gone) ready.waits (Ok (tt, after)) ready.among ready.shrinks.is_table.rows ready.fits ready.turned (unlisted-rows size one.stored.indexes gone x.1 (Ok (tt, after)) listing) in
        let none = none-open gone one.stored.indexes ready.waits.shapes in (
          omega (arith, ready.shrinks.spares.turn, done.1.fewer, none),
          within-then T T T pages x.1 after (λ p t. t) (λ p t. t)
              (heap-out size pages x.1 all table numbers is one there (removes-numbered size one.stored.first one.shows.placed numbers gone pages (Ok (tt, x.1)) told out))
              (follow-within T x.1 after (all_pages ready.waits.each) _ done.1.edits (λ p here. inl (inr (each-page size pages x.1 all _ store table one ready.still ready.waits ready.shrinks.spared p here))) (subst (λ (n : ℕ). AllByRecursion T (with_root (next_pages x.1 n))) (sym none) tt)),
        )
