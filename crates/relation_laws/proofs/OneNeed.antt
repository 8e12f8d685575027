-- What a piece of work needs is one number.
use Rattle.std.proofs.Common.{◌≡◌, ◌∙◌, ◌<◌, ◌≤◌, ◌+◌, ◌^◌, ℕ, List, [], ◌∷◌, length, map, Result, Ok, Some, inl, inr, refl, sym, ap, subst, arith}
use Rattle.std.specs.List.{AllByRecursion, Contains}
use Rattle.retro_base.specs.declared.refusal.Refusal.{Refusal}
use Rattle.values.specs.declared.value.Value.{Value}
use Rattle.pager.specs.Pages.{Pages}
use Rattle.pager.specs.declared.index.Found.{Found}
use Rattle.tree_index.specs.Tree.{empty, opens, put}
use Rattle.heap_file.specs.declared.page.HeapPage.{HeapPage}
use Rattle.heap_file.specs.declared.chain.Placed.{Placed}
use Rattle.heap_file.specs.HeapPage.{entry_bytes}
use Rattle.heap_file.specs.Laws.{IsOne}
use Rattle.heap_file.proofs.Ones.{answers_are_one, next-one, only-one}
use Rattle.heap_file.proofs.Positions.{some-is}
use Rattle.heap_laws.specs.Store.{free_pages}
use Rattle.heap_laws.specs.Table.{EndsAt, Table}
use Rattle.heap_laws.proofs.Ones.{chain_answers_are_one}
use Rattle.heap_laws.proofs.Reading.{ok-one, rows-numbered}
use Rattle.relation.specs.declared.catalog.StoredTable.{StoredTable}
use Rattle.relation.specs.declared.catalog.TheConstants.{CATALOG}
use Rattle.relation.specs.declared.drafting.RowChange.{RowChange}
use Rattle.relation.specs.declared.listing.Moved.{Moved}
use Rattle.relation.specs.CatalogRow.{row_values}
use Rattle.relation.specs.Each.{each, each_in_turn}
use Rattle.relation.specs.Entries.{entries_of, in_order}
use Rattle.relation.specs.Work.{all_changed, all_placed, change_of, row_changes, row_of_index, row_placed, rows_at, rows_of_table}
use Rattle.relation.proofs.Halves.{changes-numbered-ok, placed-added}
use Rattle.sql_tree.specs.Scope.{column_place}
use Rattle.relation_laws.specs.Laws.{AreChangesOf, IsRowFor, IsStoreOf}
use Rattle.relation_laws.specs.Needs.{IndexNeeds, IndexesNeed, InsertNeeds, NeedsThen, RowsNeed, TurnInserted, TurnUpdated, UpdateNeeds, changes_open, pages_opened, taken_after}
use Rattle.relation_laws.specs.Tables.{PlainTable, PlainTables}
use Rattle.relation_laws.specs.Turns.{Turn, comes, entries_open, moves}
use Rattle.relation_laws.specs.Work.{Changes, Creates, Indexes, Inserts, IsAllowed, Needs, Removes, Work}
use Rattle.relation_laws.proofs.Catalogs.{each-one}
use Rattle.relation_laws.proofs.Counting.{needed}
use Rattle.relation_laws.proofs.Deleting.{StillThere, still}
use Rattle.relation_laws.proofs.Entering.{once-entries, order-one}
use Rattle.relation_laws.proofs.Holding.{needs-one}
use Rattle.relation_laws.proofs.Inserting.{storable-rows}
use Rattle.relation_laws.proofs.Needing.{ends-one, ends-there, last-one, rows-take}
use Rattle.relation_laws.proofs.Singling.{Single, firsts_of, has-first, named-in, rows-read, single}
use Rattle.relation_laws.proofs.TableStores.{IsTableStoreOf, tables_of}
use Rattle.relation_laws.proofs.Updating.{numbers_of, storable-changes}

-- edits one after the other have one answer
edits-one : {A B : Type 0} (step : A → Pages → Result (B × Pages) Refusal → Type 0) → ((x : A) (pages : Pages) → IsOne (step x pages)) → (xs : List A) (pages : Pages) → IsOne (each_in_turn step xs pages)
edits-one step one [] pages = only-one _
edits-one step one (x ∷ xs) pages = next-one _ _ (one x pages) (λ next. next-one _ _ (edits-one step one xs next.1) (λ rest. only-one _))

placed-one : (size first : ℕ) (rows : List (List Value)) (pages : Pages) → IsOne (all_placed size first rows pages)
placed-one size first = edits-one (row_placed size first) (λ row pages. next-one _ _ (answers_are_one.add size pages first row) (λ placed. only-one _))

changed-one : (size first : ℕ) (told : List RowChange) (pages : Pages) → IsOne (all_changed size first told pages)
changed-one size first = edits-one (row_changes size first) (λ change pages. next-one _ _ (chain_answers_are_one.change size pages first change.was.page (record { number = change.was.number; row = change.row })) (λ page. only-one _))

told-one : (first : ℕ) (rows : List Placed) (changes : List (ℕ × List Value)) → IsOne (each (change_of first rows) changes)
told-one first rows = each-one (change_of first rows) (λ change. next-one _ _ (only-one _) (λ was. only-one _))

-- what rows need at the end of a table is one number
rows-need : (size : ℕ) (pages : Pages) (first : ℕ) (rows : List (List Value)) (needs other : ℕ) → RowsNeed size pages first rows needs → RowsNeed size pages first rows other → needs ≡ other
rows-need size pages first rows needs other one two =
    one.3 ∙ ap (λ (t : HeapPage). pages_opened (length (entry_bytes t.entries)) rows) (ends-one size pages first one.0 two.0 one.1 two.1 one.2 two.2) ∙ sym two.3

-- what a change of a table needs is one number where its rows turn in one way, and only where they fit
then-one : (size : ℕ) (pages : Pages) (table : StoredTable) (rows : ℕ) (turned : List Turn → Type 0) → ((turns : List Turn) → turned turns → rows ≤ free_pages size pages) → ((turns also : List Turn) → turned turns → turned also → turns ≡ also) → (needs other : ℕ)
    → NeedsThen size pages table rows turned needs → NeedsThen size pages table rows turned other → needs ≡ other
then-one size pages table rows turned fits one needs other (inl full) (inl also) = full.1 ∙ sym also.1
then-one size pages table rows turned fits one needs other (inl full) (inr (turns, turn, more, need, e)) = absurd (omega (arith, full.0, fits turns turn))
then-one size pages table rows turned fits one needs other (inr (turns, turn, more, need, e)) (inl full) = absurd (omega (arith, full.0, fits turns turn))
then-one size pages table rows turned fits one needs other (inr (turns, turn, more, need, e)) (inr (also, too, others, needs_too, f)) =
    let same = one turns also turn too in
    e ∙ ap (λ (n : ℕ). rows + n) (needs-one size pages also table.indexes more others (subst (λ (t : List Turn). IndexesNeed size pages table.indexes t more) same need) needs_too) ∙ sym f

-- what an insert needs is one number
insert-one : (size : ℕ) (pages : Pages) (all : PlainTables) (table : PlainTable) (rows : List (List Value)) (needs other : ℕ) → IsStoreOf size pages all → Contains all.tables table → AllByRecursion (IsRowFor table) rows → table.next_number + length rows < 2 ^ 64
    → InsertNeeds size pages table.name rows needs → InsertNeeds size pages table.name rows other → needs ≡ other
insert-one size pages all table rows needs other store has fit room need also =
    then-one size pages one.stored count (TurnInserted size pages one.stored rows) fits turns-one needs other (here needs need) (here other also)
  where
    is : IsTableStoreOf size pages all
    is = tables_of size pages all store

    one : Single size pages all table (tables_of size pages all store)
    one = single size pages all table (tables_of size pages all store) has

    end : (last : ℕ) × (tail : HeapPage) × EndsAt size pages one.stored.first last tail
    end = ends-there size pages (firsts_of store.store.base.found) store.store.base.held one.stored.first store.store.base.heap (has-first store.store.base.found one.stored one.has)

    count : ℕ
    count = pages_opened (length (entry_bytes end.1.entries)) rows

    here : (n : ℕ) → InsertNeeds size pages table.name rows n → NeedsThen size pages one.stored count (TurnInserted size pages one.stored rows) n
    here n (stored, named, first, needs_rows, after) =
        let same : stored ≡ one.stored = ok-one (named-in size pages all table is one (Ok stored) named) in
        let counts : first ≡ count = rows-need size pages one.stored.first rows first count (subst (λ (t : StoredTable). RowsNeed size pages t.first rows first) same needs_rows) (end.0, end.1, end.2, refl) in
        subst (λ (t : StoredTable). NeedsThen size pages t count (TurnInserted size pages t rows) n) same (subst (λ (f : ℕ). NeedsThen size pages stored f (TurnInserted size pages stored rows) n) counts after)

    fits : (turns : List Turn) → TurnInserted size pages one.stored rows turns → count ≤ free_pages size pages
    fits turns (placed, after, work, e) =
        omega (
          arith,
          rows-take size pages after (firsts_of store.store.base.found) store.store.base.held one.stored.first (record { next_number = table.next_number; rows = one.shows.placed }) rows end.0 end.1 store.store.base.heap (has-first store.store.base.found one.stored one.has) one.shows.is_table (storable-rows table rows fit) room end.2
              (placed-added size one.stored.first rows placed pages after work),
        )

    turns-one : (turns also : List Turn) → TurnInserted size pages one.stored rows turns → TurnInserted size pages one.stored rows also → turns ≡ also
    turns-one turns also (placed, after, work, e) (others, behind, too, f) =
        let same = ok-one (placed-one size one.stored.first rows pages (Ok (placed, after)) (Ok (others, behind)) work too) in
        e ∙ ap (λ (answer : List Placed × Pages). map comes answer.0) same ∙ sym f

-- what an update needs is one number
update-one : (size : ℕ) (pages : Pages) (all : PlainTables) (table : PlainTable) (changes : List (ℕ × List Value)) (needs other : ℕ) → IsStoreOf size pages all → Contains all.tables table → AreChangesOf table changes
    → UpdateNeeds size pages table.name changes needs → UpdateNeeds size pages table.name changes other → needs ≡ other
update-one size pages all table changes needs other store has these need also =
    then-one size pages one.stored count (TurnUpdated size pages one.stored one.shows.placed changes) fits turns-one needs other (here needs need) (here other also)
  where
    is : IsTableStoreOf size pages all
    is = tables_of size pages all store

    one : Single size pages all table (tables_of size pages all store)
    one = single size pages all table (tables_of size pages all store) has

    before : Table
    before = record { next_number = table.next_number; rows = one.shows.placed }

    there : StillThere one.stored.first one.shows.placed before (numbers_of changes)
    there = still one.stored.first before (numbers_of changes) (subst (λ (rows : List (ℕ × List Value)). AllByRecursion (λ (number : ℕ). Contains (map (λ (row : ℕ × List Value). row.0) rows) number) (numbers_of changes)) one.shows.rows these.0.0) these.0.1

    end : (last : ℕ) × (tail : HeapPage) × EndsAt size pages one.stored.first last tail
    end = ends-there size pages (firsts_of store.store.base.found) store.store.base.held one.stored.first store.store.base.heap (has-first store.store.base.found one.stored one.has)

    count : ℕ
    count = changes_open (taken_after pages) end.0 one.shows.placed changes

    here : (n : ℕ) → UpdateNeeds size pages table.name changes n → NeedsThen size pages one.stored count (TurnUpdated size pages one.stored one.shows.placed changes) n
    here n (stored, named, rows, read, last, tail, ends, after) =
        let same : stored ≡ one.stored = ok-one (named-in size pages all table is one (Ok stored) named) in
        let rows_same : rows ≡ one.shows.placed = ok-one (rows-read size pages all table is one (Ok rows) (subst (λ (t : StoredTable). rows_at size pages t (Ok rows)) same read)) in
        let last_same : last ≡ end.0 = last-one size pages one.stored.first last end.0 tail end.1 (subst (λ (t : StoredTable). EndsAt size pages t.first last tail) same ends) end.2 in
        subst (λ (t : StoredTable). NeedsThen size pages t count (TurnUpdated size pages t one.shows.placed changes) n) same
        (subst (λ (r : List Placed). NeedsThen size pages stored (changes_open (taken_after pages) end.0 r changes) (TurnUpdated size pages stored r changes) n) rows_same
        (subst (λ (l : ℕ). NeedsThen size pages stored (changes_open (taken_after pages) l rows changes) (TurnUpdated size pages stored rows changes) n) last_same after))

    fits : (turns : List Turn) → TurnUpdated size pages one.stored one.shows.placed changes turns → count ≤ free_pages size pages
    fits turns (told, tells, moved, after, work, e) =
        omega (
          arith,
          needed size pages (firsts_of store.store.base.found) store.store.base.held one.stored.first one.shows.placed before changes end.0 end.1 (Ok (tt, after)) store.store.base.heap (has-first store.store.base.found one.stored one.has) one.shows.is_table (storable-changes table changes these.1) there end.2
              (changes-numbered-ok size one.stored.first one.shows.placed changes told moved pages after tells work),
        )

    turns-one : (turns also : List Turn) → TurnUpdated size pages one.stored one.shows.placed changes turns → TurnUpdated size pages one.stored one.shows.placed changes also → turns ≡ also
    turns-one turns also (told, tells, moved, after, work, e) (others, tell, goes, behind, too, f) =
        let said = ok-one (told-one one.stored.first one.shows.placed changes (Ok told) (Ok others) tells tell) in
        let same = ok-one (changed-one size one.stored.first others pages (Ok (moved, after)) (Ok (goes, behind)) (subst (λ (l : List RowChange). all_changed size one.stored.first l pages (Ok (moved, after))) said work) too) in
        e ∙ ap (λ (answer : List Moved × Pages). map moves answer.0) same ∙ sym f

-- what an index needs is one number
index-one : (size : ℕ) (pages : Pages) (all : PlainTables) (table : PlainTable) (name column : List ℕ) (needs other : ℕ) → IsStoreOf size pages all → Contains all.tables table
    → IndexNeeds size pages name table.name column needs → IndexNeeds size pages name table.name column other → needs ≡ other
index-one size pages all table name column needs other store has (found, named, place, at_place, entries, (rows, read, order), behind, rows_need, e) (also, names, there, at_there, others, (some, reads, orders), more, need, f) =
    let is = tables_of size pages all store in
    let one = single size pages all table is has in
    let left : found ≡ one.stored = ok-one (named-in size pages all table is one (Ok found) named) in
    let right : also ≡ one.stored = ok-one (named-in size pages all table is one (Ok also) names) in
    let places : place ≡ there = some-is (column_place column one.stored.columns) place there (subst (λ (t : StoredTable). column_place column t.columns ≡ Some place) left at_place) (subst (λ (t : StoredTable). column_place column t.columns ≡ Some there) right at_there) in
    let rows_left : rows ≡ one.shows.placed = ok-one (rows-read size pages all table is one (Ok rows) (subst (λ (t : StoredTable). rows_at size pages t (Ok rows)) left read)) in
    let rows_right : some ≡ one.shows.placed = ok-one (rows-read size pages all table is one (Ok some) (subst (λ (t : StoredTable). rows_at size pages t (Ok some)) right reads)) in
    let once = once-entries there one.shows.placed (λ n. (rows-numbered size pages (firsts_of store.store.base.found) store.store.base.held one.stored.first (record { next_number = table.next_number; rows = one.shows.placed }) store.store.base.heap (has-first store.store.base.found one.stored one.has) one.shows.is_table n).0) in
    let same : entries ≡ others = order-one (entries_of there one.shows.placed) entries others once
    (subst (λ (p : ℕ). in_order (entries_of p one.shows.placed) (Ok entries)) places (subst (λ (r : List Placed). in_order (entries_of place r) (Ok entries)) rows_left order))
    (subst (λ (r : List Placed). in_order (entries_of there r) (Ok others)) rows_right orders) in
    let opened : behind ≡ more = rows-need size pages CATALOG (row_values (row_of_index name table.name 0 0) ∷ []) behind more rows_need need in
    e ∙ ap (λ (n : ℕ). 1 + (n + entries_open put opens entries empty)) opened
    ∙ ap (λ (l : List Found). 1 + (more + entries_open put opens l empty)) same
    ∙ sym f

-- the number that a piece of work needs is one
pub need-one : (size : ℕ) (pages : Pages) (all : PlainTables) (work : Work) (needs other : ℕ) → IsStoreOf size pages all → IsAllowed all work → Needs size pages work needs → Needs size pages work other → needs ≡ other
need-one size pages all (Creates name columns) needs other is allowed = λ one two. one.2 ∙ ap (λ (n : ℕ). 1 + n) (rows-need size pages CATALOG (map row_values (rows_of_table name 0 columns)) one.0 two.0 one.1 two.1) ∙ sym two.2
need-one size pages all (Indexes name of column) needs other is (new, (table, has, named, allowed)) = subst (λ (n : List ℕ). IndexNeeds size pages name n column needs → IndexNeeds size pages name n column other → needs ≡ other) named (index-one size pages all table name column needs other is has)
need-one size pages all (Inserts name rows) needs other is (table, has, named, allowed) = subst (λ (n : List ℕ). InsertNeeds size pages n rows needs → InsertNeeds size pages n rows other → needs ≡ other) named (insert-one size pages all table rows needs other is has allowed.0 allowed.1)
need-one size pages all (Changes name changes) needs other is (table, has, named, allowed) = subst (λ (n : List ℕ). UpdateNeeds size pages n changes needs → UpdateNeeds size pages n changes other → needs ≡ other) named (update-one size pages all table changes needs other is has allowed)
need-one size pages all (Removes name numbers) needs other is allowed = λ one two. one ∙ sym two
